use Rattle.std.proofs.Common.{take}
use Rattle.std.specs.Io.KnownBytes.{Appends}
use Rattle.nullahbowl.specs.Writing.{longs_text}
use Rattle.nullahbowl.proofs.writing.write_longs.Given as goal
use Rattle.table.specs.Meaning.{longs_of}

abbrev pub invariant-loop-place : goal.invariant-loop-place
invariant-loop-place g l = Appends (g.W.Write.contents l.initial.out) (g.W.Write.contents l.out) (longs_text (take l.place (longs_of l.table)))
