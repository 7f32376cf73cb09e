use Rattle.catalogue.specs.Naming.{names_left}
use Rattle.nullahbowl.specs.Writing.{lines_of}
use Rattle.nullahbowl.proofs.Growing.{Grows}
use Rattle.nullahbowl.proofs.writing.write_names.Given as goal

abbrev pub invariant-loop-name : goal.invariant-loop-name
invariant-loop-name g l =
    (goal.iterator-loop-name g).can_next l.name-iterator × (goal.iterator-loop-name g).is_finite l.name-iterator
    × Grows (g.W.Write.contents l.initial.out) (g.W.Write.contents l.out) (lines_of (names_left l.name-iterator)) (lines_of (names_left l.initial.name-iterator))
