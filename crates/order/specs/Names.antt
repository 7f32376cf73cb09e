-- The order of names under a table.
use Rattle.std.specs.Prelude.{Bool, List, ℕ, cond}
use Rattle.std.specs.declared.cmp.Ordering.{Ordering}
use Rattle.keys.specs.Rows.{key}
use Rattle.order.specs.Rows.{before, begins, row_order}
use Rattle.order.specs.declared.collate.Standing.{Standing}
use Rattle.order.specs.declared.collate.Standing.TheVariants.{Before, Begins, After}
use Rattle.table.specs.Rules.{Rules}

-- of two names: the order of their keys
abbrev pub name_order : Rules → List ℕ → List ℕ → Ordering
name_order t a b = row_order (key t a) (key t b)

-- the first name is before the second: its key is
abbrev pub name_before : Rules → List ℕ → List ℕ → Bool
name_before t a b = before (key t a) (key t b)

-- where a row stands to the one that is asked for: it begins with it; else it is before it, or after it
abbrev pub standing : (row asked : List ℕ) → Standing
standing row asked = cond (begins row asked) Begins (cond (before row asked) Before After)

-- how far along a list in order a standing is met: first those before, then those that begin so, then those after
abbrev pub along : Standing → ℕ
along Before = 0
along Begins = 1
along After = 2
