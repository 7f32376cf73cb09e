use Rattle.catalogue.specs.Keying.{AreKeyed}
use Rattle.catalogue.specs.Lists.{name_of}
use Rattle.catalogue.proofs.names.arrange.Keyed.all.Given as goal

abbrev pub invariant-loop-number : goal.invariant-loop-number
invariant-loop-number l = AreKeyed (name_of l.numbers l.bounds) l.number l.keyed.items
