use Rattle.std.proofs.Common.{◌≡◌, None}
use Rattle.catalogue.specs.Lists.{falls}
use Rattle.table.specs.Refusals.{first_place}
use Rattle.catalogue.proofs.names.first_fall.Given as goal

abbrev pub invariant-loop-place : goal.invariant-loop-place
invariant-loop-place l = first_place (falls l.starts) l.place ≡ None
