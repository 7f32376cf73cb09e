use Rattle.std.proofs.Common.{refl}
use Rattle.order.specs.Changes.{SameOrder}
use Rattle.order.proofs.Deciding.{levels_all, levels_before, levels_next}
use Rattle.order.proofs.newer.Weighed.same_order.Goals as goal

pub returns-then-not-order_on : goal.returns-then-not-order_on
returns-then-not-order_on c =
    (_, refl, c.order_on.ensures.1 c.if-not-order_on.true, levels_before (SameOrder c.args.self.now c.args.other.now) c.loop-level.level-index c.loop-level-test.true c.loop-level.invariant)

pub loop-level-preserved : goal.loop-level-preserved
loop-level-preserved c =
    levels_next (SameOrder c.args.self.now c.args.other.now) c.loop-level.level-index c.loop-level.invariant (c.order_on.ensures.0 c.if-not-order_on.false)

pub returns : goal.returns
returns c = levels_all (SameOrder c.args.self.now c.args.other.now) c.loop-level.level-index c.loop-level-test.false c.loop-level.invariant
