use Rattle.std.proofs.Common.{◌≡◌, ◌==◌, ℕ, ◌<◌}
use Rattle.order.specs.Changes.{part_at}
use Rattle.order.proofs.newer.Weighed.zeros_on.Given as goal

abbrev pub invariant-loop-part : goal.invariant-loop-part
invariant-loop-part l = (i : ℕ) → i < l.part → (part_at l.level l.self.newer i == 0) ≡ (part_at l.level l.self.older i == 0)
