use Rattle.std.proofs.Common.{◌≡◌, ◌≤◌, ◌++◌, true, take}
use Rattle.keys.specs.Reading.{row_left}
use Rattle.keys.specs.Rows.{row}
use Rattle.keys.specs.declared.level.Level.TheVariants.{Primary}
use Rattle.table.specs.Meaning.{rules_of}
use Rattle.order.proofs.asked.Asked.new.Given as goal

-- what was stored stands in front of what is left, where all was stored so far
abbrev pub invariant-loop-weight : goal.invariant-loop-weight
invariant-loop-weight l =
    (goal.iterator-loop-weight).can_next l.weight-iterator × (goal.iterator-loop-weight).is_finite l.weight-iterator
    × (l.stored ≡ true → take l.count l.weights ++ row_left l.weight-iterator ≡ row Primary (rules_of l.table) l.ask)
    × (l.count ≤ 32)
