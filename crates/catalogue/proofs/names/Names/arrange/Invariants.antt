use Rattle.std.proofs.Common.{◌≡◌, take}
use Rattle.catalogue.specs.Keying.{numbers_of}
use Rattle.catalogue.proofs.names.Names.arrange.Given as goal

abbrev pub invariant-loop-one : goal.invariant-loop-one
invariant-loop-one l = l.places.items ≡ numbers_of (take l.one-index l.one-items)
