use Rattle.std.proofs.Common.{◌≡◌, ℕ, List, ◌++◌, length}
use Rattle.keys.specs.Letters.{letters_in}
use Rattle.order.specs.Fronts.{NoneBegins}
use Rattle.table.specs.Meaning.{rules_of}
use Rattle.order.proofs.front.none_begins.Given as goal

-- with none of the letters that are behind the rest a run begins
abbrev pub invariant-loop : goal.invariant-loop
invariant-loop l =
    (tail : List ℕ) × (letters_in l.table.utf8 l.front ≡ letters_in l.table.utf8 l.rest ++ tail) × NoneBegins (rules_of l.table) tail × (length tail ≡ l.counter)
