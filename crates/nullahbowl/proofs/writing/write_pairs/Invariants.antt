use Rattle.std.proofs.Common.{take}
use Rattle.std.specs.Io.KnownBytes.{Appends}
use Rattle.nullahbowl.specs.Writing.{pairs_text}
use Rattle.nullahbowl.proofs.writing.write_pairs.Given as goal
use Rattle.table.specs.Meaning.{pairs_of}

abbrev pub invariant-loop-place : goal.invariant-loop-place
invariant-loop-place g l = Appends (g.W.Write.contents l.initial.out) (g.W.Write.contents l.out) (pairs_text (take l.place (pairs_of l.table)))
