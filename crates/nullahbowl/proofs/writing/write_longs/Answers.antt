use Rattle.std.proofs.Common.{◌<◌, length, arith, sym, ◌∙◌}
use Rattle.nullahbowl.proofs.Progress.{both_written}
use Rattle.nullahbowl.proofs.Tables.{one_there, longs_more}
use Rattle.nullahbowl.proofs.writing.write_longs.Goals.{in-Some+in_ok-writeln, in_default}
use Rattle.nullahbowl.proofs.writing.write_longs.Goals as goal
use Rattle.table.specs.Meaning.{longs_of}

pub loop-place-preserved : goal.loop-place-preserved
loop-place-preserved g c =
    let longs = longs_of c.args.table.now in
    let within : c.loop-place.place < length longs = omega (arith, c.long_count-place-end.ensures.count, c.loop-place-test.true) in
    elim c.match-long_at.branch [
      | in-Some+in_ok-writeln w ↦
          rw (w.out-is, longs_more longs c.loop-place.place w.in-Some.long (sym c.long_at.ensures ∙ w.in-Some.is))
          (both_written _ _ _ _ _ c.loop-place.invariant w.in_ok-writeln.ensures.bytes)
      | in_default w ↦ let there = one_there longs c.loop-place.place c.long_at.result c.long_at.ensures within in absurd (w.in_default.not-Some there.0 there.1)
    ]
