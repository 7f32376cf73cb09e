use Rattle.std.proofs.Common.{◌-◌}
use Rattle.catalogue.proofs.Cutting.{Narrows}
use Rattle.catalogue.specs.Checking.{lists_of}
use Rattle.catalogue.specs.Cutting.{along_at}
use Rattle.order.specs.Names.{along}
use Rattle.catalogue.proofs.view.Catalogue.first_behind.Given as goal

abbrev pub invariant-loop-low : goal.invariant-loop-low
invariant-loop-low l =
    Narrows (along_at (lists_of l.self) l.asked.ask.now) (along l.so) (along l.so) l.from l.to l.low l.high

abbrev pub decreases-loop-low : goal.decreases-loop-low
decreases-loop-low l = l.high - l.low
