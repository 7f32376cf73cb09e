use Rattle.std.proofs.Common.{◌≡◌, ℕ, ◌<◌}
use Rattle.std.specs.Ordering.{nat_cmp}
use Rattle.order.specs.Changes.{part_at}
use Rattle.order.proofs.newer.Weighed.part_on.Given as goal

abbrev pub invariant-loop-behind : goal.invariant-loop-behind
invariant-loop-behind l =
    (j : ℕ) → j < l.behind →
    nat_cmp (part_at l.fn.level l.self.newer l.fn.part) (part_at l.fn.level l.other.newer j) ≡ nat_cmp (part_at l.fn.level l.self.older l.fn.part) (part_at l.fn.level l.other.older j)
