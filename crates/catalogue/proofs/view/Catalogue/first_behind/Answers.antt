use Rattle.std.proofs.Common.{rules, ◌<◌, ◌≤◌, length, ◌+◌, ◌-◌, ◌/◌, arith}
use Rattle.catalogue.proofs.Cutting.{past, short}
use Rattle.catalogue.proofs.Order.{rising}
use Rattle.catalogue.specs.Checking.{lists_of}
use Rattle.order.specs.Names.{along}
use Rattle.catalogue.proofs.view.Catalogue.first_behind.Goals as goal

pub loop-low-preserved-then-le : goal.loop-low-preserved-then-le
loop-low-preserved-then-le c =
    let s = c.args.self.now in
    let up = rising (lists_of s) s.listed c.args.asked.now.ask.now in
    let b : along c.standing.result ≤ along c.args.so = search rules in
    past _ (length s.places.now) up (along c.args.so) (along c.args.so) c.args.from c.args.to c.requires.within.1 _ _ (c.loop-low.low + (c.loop-low.high - c.loop-low.low) / 2) c.loop-low.invariant (omega arith) (omega arith) (search rules)

pub loop-low-preserved : goal.loop-low-preserved
loop-low-preserved c =
    let s = c.args.self.now in
    let up = rising (lists_of s) s.listed c.args.asked.now.ask.now in
    let b : along c.args.so < along c.standing.result = search rules in
    short _ (length s.places.now) up (along c.args.so) (along c.args.so) c.args.from c.args.to c.requires.within.1 _ _ (c.loop-low.low + (c.loop-low.high - c.loop-low.low) / 2) c.loop-low.invariant (omega arith) (omega arith) (search rules)
