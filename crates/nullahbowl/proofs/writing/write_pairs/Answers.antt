use Rattle.std.proofs.Common.{◌<◌, length, arith, sym, ◌∙◌}
use Rattle.nullahbowl.proofs.Progress.{both_written}
use Rattle.nullahbowl.proofs.Tables.{one_there, pairs_more}
use Rattle.nullahbowl.proofs.writing.write_pairs.Goals.{in-Some+in_ok-writeln, in_default}
use Rattle.nullahbowl.proofs.writing.write_pairs.Goals as goal
use Rattle.table.specs.Meaning.{pairs_of}

pub loop-place-preserved : goal.loop-place-preserved
loop-place-preserved g c =
    let pairs = pairs_of c.args.table.now in
    let within : c.loop-place.place < length pairs = omega (arith, c.pair_count-place-end.ensures.count, c.loop-place-test.true) in
    elim c.match-pair_at.branch [
      | in-Some+in_ok-writeln w ↦
          rw (w.out-is, pairs_more pairs c.loop-place.place w.in-Some.pair (sym c.pair_at.ensures ∙ w.in-Some.is))
          (both_written _ _ _ _ _ c.loop-place.invariant w.in_ok-writeln.ensures.bytes)
      | in_default w ↦ let there = one_there pairs c.loop-place.place c.pair_at.result c.pair_at.ensures within in absurd (w.in_default.not-Some there.0 there.1)
    ]
