use Rattle.table.specs.Meaning.{rules_of}
use Rattle.order.proofs.Fronts.{none_shared}
use Rattle.order.proofs.front.shared.Goals as goal

pub returns-after-loop-n : goal.returns-after-loop-n
returns-after-loop-n c = none_shared (rules_of c.args.table.now) c.args.a.now c.args.b.now c.loop-n.n c.loop-n-test.false
