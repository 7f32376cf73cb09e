use Rattle.std.proofs.Common.{◌≡◌, None}
use Rattle.catalogue.specs.Lists.{first_refused}
use Rattle.catalogue.proofs.names.first_refused.Given as goal

abbrev pub invariant-loop-number : goal.invariant-loop-number
invariant-loop-number l = first_refused l.utf8 l.text l.starts l.number ≡ None
