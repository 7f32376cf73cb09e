use Rattle.std.proofs.Common.{◌-◌, length}
use Rattle.catalogue.proofs.Cutting.{Narrows}
use Rattle.catalogue.specs.Checking.{lists_of}
use Rattle.catalogue.specs.Cutting.{along_at}
use Rattle.catalogue.proofs.view.Catalogue.range.Given as goal

abbrev pub invariant-loop-from : goal.invariant-loop-from
invariant-loop-from l =
    Narrows (along_at (lists_of l.self) l.ask) 0 1 0 (length l.self.places.now) l.from l.to

abbrev pub decreases-loop-from : goal.decreases-loop-from
decreases-loop-from l = l.to - l.from
