use Rattle.std.proofs.Common.{◌≡◌}
use Rattle.keys.specs.Reading.{row_left}
use Rattle.order.specs.Names.{standing}
use Rattle.order.proofs.collate.TableCollate.standing.Given as goal

abbrev pub invariant-loop-weight : goal.invariant-loop-weight
invariant-loop-weight l =
    (goal.iterator-loop-weight).can_next l.weight-iterator × (goal.iterator-loop-weight).is_finite l.weight-iterator
    × (standing (row_left l.row) (row_left l.weight-iterator) ≡ standing (row_left l.initial.row) (row_left l.initial.weight-iterator))
