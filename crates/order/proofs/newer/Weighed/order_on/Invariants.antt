use Rattle.std.proofs.Common.{ℕ, ◌<◌}
use Rattle.order.specs.Changes.{SamePart}
use Rattle.order.proofs.newer.Weighed.order_on.Given as goal

abbrev pub invariant-loop-part : goal.invariant-loop-part
invariant-loop-part l = (i : ℕ) → i < l.part → SamePart l.self i l.other l.level
