use Rattle.keys.specs.Rows.{key}
use Rattle.table.specs.Meaning.{rules_of}
use Rattle.catalogue.specs.Keying.{KeysLie}
use Rattle.catalogue.specs.Lists.{name_of}
use Rattle.catalogue.proofs.names.Names.keys.Given as goal

abbrev pub invariant-loop-number : goal.invariant-loop-number
invariant-loop-number l = KeysLie (λ i. key (rules_of l.table) (name_of l.self.text.now l.self.starts.now i)) l.number l.numbers.items l.bounds.items
