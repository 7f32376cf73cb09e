use Rattle.std.proofs.Common.{rules}
use Rattle.catalogue.proofs.Naming.{known_within}
use Rattle.catalogue.specs.Checking.{lists_of}
use Rattle.catalogue.specs.Finding.{may_ask}
use Rattle.catalogue.proofs.view.Catalogue.found.Goals as goal

pub invariant_of-result : goal.invariant_of-result
invariant_of-result c =
    let k = known_within (may_ask (lists_of c.args.self.now) c.args.ask.now) (lists_of c.args.self.now) c.args.ask.now c.find.result.now c.args.self.now.listed c.find.ensures.part in
    record { known = search (rules, k) }
