use Rattle.std.proofs.Common.{ℕ, ◌<◌, slice_index_or}
use Rattle.keys.specs.declared.level.Level.TheVariants.{Primary}
use Rattle.order.specs.Changes.{SameZero}
use Rattle.order.proofs.newer.Weighed.same_zeros.Given as goal

abbrev pub invariant-loop-level : goal.invariant-loop-level
invariant-loop-level l = (k : ℕ) → k < l.level-index → SameZero l.self (slice_index_or l.level-items k Primary)
