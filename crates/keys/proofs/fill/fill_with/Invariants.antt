use Rattle.std.proofs.Common.{map}
use Rattle.keys.specs.Reading.{numbers_left}
use Rattle.keys.proofs.Filling.{Filled}
use Rattle.keys.proofs.fill.fill_with.Given as goal

abbrev pub invariant-loop-number : goal.invariant-loop-number
invariant-loop-number g l =
    (goal.iterator-loop-number g).can_next l.number-iterator × (goal.iterator-loop-number g).is_finite l.number-iterator
    × Filled (map g.T.Cell.cell (numbers_left l.initial.number-iterator)) l.initial.room l.n l.room (map g.T.Cell.cell (numbers_left l.number-iterator))
