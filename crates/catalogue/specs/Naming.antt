-- The names that are found.
use Rattle.std.specs.Prelude.{ℕ, List, map}
use Rattle.catalogue.specs.Lists.{name_of}
use Rattle.catalogue.specs.declared.view.found.NamesFound.{NamesFound}

-- those that are left, in their order
abbrev pub names_left : NamesFound → List (List ℕ)
names_left it = map (name_of it.names.text.now it.names.starts.now) it.numbers.now
