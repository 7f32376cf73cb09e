use Rattle.std.proofs.Common.{arith}
use Rattle.catalogue.proofs.Order.{known}
use Rattle.catalogue.specs.Checking.{lists_of}
use Rattle.catalogue.proofs.view.Catalogue.at.Goals as goal

pub at-requires : goal.at-requires
at-requires c = let s = c.args.self.now in let k = known (lists_of s) s.listed c.args.place c.requires in grind arith
