use Rattle.std.proofs.Common.{sym, ap, ◌∙◌}
use Rattle.table.specs.Records.{letter_record, letters_refusal}
use Rattle.table.specs.Refusals.{verdict}
use Rattle.table.proofs.Refusing.{taken, turned_away}
use Rattle.table.proofs.Told.{few_letters, refusal_told, looked_at, looked_past, looked_through, no_letter, none_off}
use Rattle.table.proofs.buffer.records.check_letters.Goals as goal

pub returns-in_err-check_entry : goal.returns-in_err-check_entry
returns-in_err-check_entry c =
    let ls = c.args.letters.now in
    let k = c.loop-place.place in
    let l = c.loop-place-test.true in
    let t = sym c.in_err-check_entry.was ∙ c.check_entry.ensures in
    let e = turned_away _ _ (rw (none_off k) at t) in
    refusal_told (letters_refusal ls) _ _ c.from_residual.ensures.1 (few_letters ls (rw c.many_weighing.ensures at c.if-many_weighing-gt-MAX_LETTERS.false) ∙ looked_at letter_record ls k no_letter l _ c.loop-place.invariant _ e)

pub loop-place-preserved : goal.loop-place-preserved
loop-place-preserved c =
    let ls = c.args.letters.now in
    let k = c.loop-place.place in
    let l = c.loop-place-test.true in
    let t = sym c.in_ok-check_entry.was ∙ c.check_entry.ensures in
    looked_past letter_record ls k no_letter l _ c.loop-place.invariant (taken _ (rw (none_off k) at t))

pub returns : goal.returns
returns c =
    let ls = c.args.letters.now in
    ap verdict (sym (few_letters ls (rw c.many_weighing.ensures at c.if-many_weighing-gt-MAX_LETTERS.false) ∙ looked_through letter_record ls c.loop-place.place c.loop-place-test.false _ c.loop-place.invariant))
