use mathlib.Core.Path.{subst⁻¹}
use Rattle.std.proofs.Common.{◌≡◌, ◌+◌, ℕ, get_or, length, ltb, ◌||◌, take, true, false, refl, sym, ap, ap₂, ◌∙◌, arith}
use Rattle.table.specs.Buffer.{many_runs}
use Rattle.table.specs.Entries.{is_letter_of}
use Rattle.table.specs.Records.{Says}
use Rattle.table.specs.Rules.{is_weighed, with_triples}
use Rattle.pieces.specs.Runs.{alone, counts, several}
use Rattle.table.proofs.Told.{entry_fits, entry_free, letter_said, many_said, no_letter, nothing_said, untold}
use Rattle.table.proofs.buffer.TableBuf.write_letters.Goals as goal
use Rattle.table.proofs.buffer.TableBuf.write_letters.Goals.{then-counts+in_ok-write_letter, else-counts}

pub write_letter-requires-clause-letter : goal.write_letter-requires-clause-letter
write_letter-requires-clause-letter c =
    let ls = c.args.letters.now in
    let k = c.loop-entry.entry-index in
    let f = entry_free ls c.requires.letters k c.loop-entry-test.true (sym c.counts.ensures ∙ c.if-counts.true) in
    ap (λ t. is_letter_of t.utf8 (get_or ls k no_letter).letter) c.loop-entry.invariant.0 ∙ f.0

pub write_letter-requires-clause-free : goal.write_letter-requires-clause-free
write_letter-requires-clause-free c =
    let ls = c.args.letters.now in
    let k = c.loop-entry.entry-index in
    let f = entry_free ls c.requires.letters k c.loop-entry-test.true (sym c.counts.ensures ∙ c.if-counts.true) in
    let a = (get_or ls k no_letter).letter in
    ap (λ t. is_weighed t a) c.loop-entry.invariant.0 ∙ ap (λ x. counts (alone x) || ltb 0 (length (several x))) (untold (take k ls) a f.1)

pub write_letter-requires-clause-fits : goal.write_letter-requires-clause-fits
write_letter-requires-clause-fits c = entry_fits c.args.letters.now c.requires.fit c.loop-entry.entry-index c.loop-entry-test.true

pub loop-entry-preserved : goal.loop-entry-preserved
loop-entry-preserved c =
    let ls = c.args.letters.now in
    let rs = c.args.runs.now in
    let k = c.loop-entry.entry-index in
    let l = c.loop-entry-test.true in
    let e = get_or ls k no_letter in
    let i = c.loop-entry.invariant in
    elim c.if-counts.branch [
      | then-counts+in_ok-write_letter w ↦
          let d = w.in_ok-write_letter.ensures in
          let t = sym c.counts.ensures ∙ w.if-counts.true in
          subst⁻¹ (Says (take (k + 1) ls) rs) w.self-is (
            d.0 ∙ (ap (λ t. with_triples t e.letter e.weights) i.0 ∙ letter_said ls rs c.requires.letters c.requires.fit k l e refl t),
            d.1 ∙ (ap (λ n. n + 1) i.1 ∙ sym (many_said ls k true l t)),
            ap₂ many_runs d.2 d.3 ∙ i.2,
          )
      | else-counts w ↦
          let t = sym c.counts.ensures ∙ w.if-counts.false in
          subst⁻¹ (Says (take (k + 1) ls) rs) w.self-is (
            i.0 ∙ nothing_said ls rs k l t,
            i.1 ∙ (plus_none ∙ sym (many_said ls k false l t)),
            i.2,
          )
    ]
  where
    plus_none : {m : ℕ} → m ≡ m + 0
    plus_none = omega arith
