use Rattle.std.proofs.Common.{◌≡◌, drop, take}
use Rattle.keys.specs.Reading.{row_left}
use Rattle.order.specs.Names.{standing}
use Rattle.order.proofs.asked.Asked.standing.Given as goal

abbrev pub invariant-loop-weight : goal.invariant-loop-weight
invariant-loop-weight l =
    standing (row_left l.row) (drop l.weight-index (take l.self.count l.self.weights)) ≡ standing (row_left l.initial.row) (take l.self.count l.self.weights)
