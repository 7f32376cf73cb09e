use Rattle.catalogue.proofs.Naming.{known_behind}
use Rattle.catalogue.proofs.view.found.NamesFoundIterator.next.Goals as goal

pub invariant_of-self : goal.invariant_of-self
invariant_of-self c = record { known = known_behind _ _ _ _ c.in_ok-number.ensures.cases.0 c.args.self.now.known }
