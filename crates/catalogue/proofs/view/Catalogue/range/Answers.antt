use Rattle.std.proofs.Common.{rules, ap, length, ◌+◌, ◌-◌, ◌/◌, arith}
use Rattle.catalogue.proofs.Cutting.{parted, past, short}
use Rattle.catalogue.proofs.Order.{rising}
use Rattle.catalogue.specs.Checking.{lists_of}
use Rattle.catalogue.proofs.view.Catalogue.range.Goals as goal

pub loop-from-preserved-in-Before : goal.loop-from-preserved-in-Before
loop-from-preserved-in-Before c =
    let s = c.args.self.now in
    let up = rising (lists_of s) s.listed c.args.ask.now in
    past _ (length s.places.now) up 0 1 0 _ (omega arith) _ _ (c.loop-from.from + (c.loop-from.to - c.loop-from.from) / 2) c.loop-from.invariant (omega arith) (omega arith) (search rules)

pub loop-from-preserved : goal.loop-from-preserved
loop-from-preserved c =
    let s = c.args.self.now in
    let up = rising (lists_of s) s.listed c.args.ask.now in
    short _ (length s.places.now) up 0 1 0 _ (omega arith) _ _ (c.loop-from.from + (c.loop-from.to - c.loop-from.from) / 2) c.loop-from.invariant (omega arith) (omega arith) (search rules)

pub returns-in-Begins : goal.returns-in-Begins
returns-in-Begins c =
    let s = c.args.self.now in
    let up = rising (lists_of s) s.listed c.args.ask.now in
    let q = ap (λ b. b.now) c.new-asked.ensures.1 in
    let f = parted (lists_of s) c.args.ask.now up _ _ (c.loop-from.from + (c.loop-from.to - c.loop-from.from) / 2) _ _ c.loop-from.invariant (omega arith) (omega arith) (search rules) (rw q at (c.first_behind-first.ensures)) (rw q at (c.first_behind-behind.ensures)) in
    search rules
