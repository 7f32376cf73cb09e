use Rattle.std.proofs.Common.{[], get_or, sym, ap, ◌∙◌}
use Rattle.table.specs.Records.{excess_record, first_refusal}
use Rattle.table.specs.Refusals.{verdict}
use Rattle.table.proofs.Refusing.{taken, turned_away}
use Rattle.table.proofs.Told.{excess_at, looked_at, looked_past, looked_through, no_letter, refusal_told}
use Rattle.table.proofs.buffer.records.none_in_excess.Goals as goal

pub returns-in_err-check_triples : goal.returns-in_err-check_triples
returns-in_err-check_triples c =
    let ls = c.args.letters.now in
    let k = c.loop-place.place in
    let l = c.loop-place-test.true in
    let e = excess_at ls k (get_or ls k no_letter) _ l (turned_away _ _ (sym c.in_err-check_triples.was ∙ c.check_triples.ensures)) in
    refusal_told (first_refusal excess_record [] ls) _ _ c.from_residual.ensures.1 (looked_at excess_record ls k no_letter l _ c.loop-place.invariant _ e)

pub loop-place-preserved : goal.loop-place-preserved
loop-place-preserved c =
    let ls = c.args.letters.now in
    let k = c.loop-place.place in
    let l = c.loop-place-test.true in
    looked_past excess_record ls k no_letter l _ c.loop-place.invariant (excess_at ls k (get_or ls k no_letter) _ l (taken _ (sym c.in_ok-check_triples.was ∙ c.check_triples.ensures)))

pub returns : goal.returns
returns c = ap verdict (sym (looked_through excess_record c.args.letters.now c.loop-place.place c.loop-place-test.false _ c.loop-place.invariant))
