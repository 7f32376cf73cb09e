use Rattle.std.proofs.Common.{◌≡◌, ◌≤◌, ◌++◌, take}
use Rattle.keys.specs.Reading.{left_of, steps_left}
use Rattle.keys.specs.Rows.{row}
use Rattle.keys.specs.declared.level.Level.TheVariants.{Primary, Secondary, Tertiary}
use Rattle.table.specs.Meaning.{rules_of}
use Rattle.keys.proofs.rows.fill_short.Given as goal

-- what was met stands in front of what is left, in each row, and is no more than there were steps
abbrev pub invariant-loop-walk : goal.invariant-loop-walk
invariant-loop-walk g l =
    (row Primary (rules_of l.fn.table) l.fn.name ≡ take l.first l.primary ++ left_of Primary l.walk)
    × (row Secondary (rules_of l.fn.table) l.fn.name ≡ take l.second l.secondary ++ left_of Secondary l.walk)
    × (row Tertiary (rules_of l.fn.table) l.fn.name ≡ take l.third l.tertiary ++ left_of Tertiary l.walk)
    × (l.first ≤ l.steps) × (l.second ≤ l.steps) × (l.third ≤ l.steps) × (l.steps ≤ 32)

abbrev pub decreases-loop-walk : goal.decreases-loop-walk
decreases-loop-walk g l = steps_left l.walk
