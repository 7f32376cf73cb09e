use Rattle.std.proofs.Common.{refl}
use Rattle.order.specs.Changes.{SameZero}
use Rattle.order.proofs.Deciding.{levels_before}
use Rattle.order.proofs.newer.Weighed.same_zeros.Goals as goal

pub returns-then-not-zeros_on : goal.returns-then-not-zeros_on
returns-then-not-zeros_on c =
    (_, refl, c.zeros_on.ensures.1 c.if-not-zeros_on.true, levels_before (SameZero c.args.self.now) c.loop-level.level-index c.loop-level-test.true c.loop-level.invariant)
