use Rattle.std.proofs.Common.{◌≡◌}
use Rattle.keys.specs.Reading.{FurtherOn, row_left, steps_left}
use Rattle.keys.proofs.row.RowIterator.next.Given as goal

-- what was passed over weighs 0 on the level
abbrev pub invariant-loop-weight : goal.invariant-loop-weight
invariant-loop-weight l = (row_left l.self ≡ row_left l.initial.self) × FurtherOn l.initial.self l.self

abbrev pub decreases-loop-weight : goal.decreases-loop-weight
decreases-loop-weight l = steps_left l.self.walk
