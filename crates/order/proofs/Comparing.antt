-- Rows read side by side.
use Rattle.std.proofs.Common.{◌≡◌, ℕ, List, ◌∷◌, Some, None, Option, sym, ap, ap₂, ◌∙◌, length, arith}
use Rattle.std.specs.Option.{option_cmp}
use Rattle.std.specs.Ordering.{nat_cmp}
use Rattle.std.specs.declared.cmp.Ordering.TheVariants.{Less, Equal, Greater}
use Rattle.std.proofs.lemmas.Bool.Decides.{nat_tests}
use Rattle.order.specs.Names.{standing}
use Rattle.order.specs.declared.collate.Standing.TheVariants.{After, Before}
use Rattle.std.proofs.lemmas.Iterator.{YieldsList}
use Rattle.std.proofs.lemmas.Iterator.Consumers.{YieldsList-from_shown}
use Rattle.keys.specs.declared.row.Row.{Row}
use Rattle.keys.specs.Reading.{Rowed, row_left}

-- what the iterator over a row gives
pub row_given : (r : Row) → YieldsList Rowed (λ x. x) r (row_left r)
row_given r = YieldsList-from_shown Rowed (λ x. x) row_left (λ s t h. ap length h.0) (λ s x t h. h.0) r

-- a row that has ended, or whose next number is smaller, is before
pub row_less : (r s : Row) (o : Option ℕ) (x : ℕ) (rest asked : List ℕ) → Rowed r o s → asked ≡ x ∷ rest → option_cmp nat_cmp o (Some x) ≡ Less → Before ≡ standing (row_left r) asked
row_less r s None x rest asked h e l = ap₂ standing (sym h.0) (sym e)
row_less r s (Some y) x rest asked h e l = less y x (row_left s) rest l ∙ ap₂ standing (sym h.0) (sym e)
  where
    less : (y x : ℕ) (ys xs : List ℕ) → nat_cmp y x ≡ Less → Before ≡ standing (y ∷ ys) (x ∷ xs)
    less y x ys xs l = grind (arith, nat_tests)

-- a row that gives the same number as the other stands to it as the rests do, and one that gives a greater is behind it
pub row_same : (r s : Row) (o : Option ℕ) (x : ℕ) (rest asked : List ℕ) → Rowed r o s → asked ≡ x ∷ rest → option_cmp nat_cmp o (Some x) ≡ Equal → standing (row_left s) rest ≡ standing (row_left r) asked
row_same r s None x rest asked h e l = grind arith
row_same r s (Some y) x rest asked h e l = same y x (row_left s) rest l ∙ ap₂ standing (sym h.0) (sym e)
  where
    same : (y x : ℕ) (ys xs : List ℕ) → nat_cmp y x ≡ Equal → standing ys xs ≡ standing (y ∷ ys) (x ∷ xs)
    same y x ys xs l = grind (arith, nat_tests)

pub row_more : (r s : Row) (o : Option ℕ) (x : ℕ) (rest asked : List ℕ) → Rowed r o s → asked ≡ x ∷ rest → option_cmp nat_cmp o (Some x) ≡ Greater → After ≡ standing (row_left r) asked
row_more r s None x rest asked h e l = grind arith
row_more r s (Some y) x rest asked h e l = more y x (row_left s) rest l ∙ ap₂ standing (sym h.0) (sym e)
  where
    more : (y x : ℕ) (ys xs : List ℕ) → nat_cmp y x ≡ Greater → After ≡ standing (y ∷ ys) (x ∷ xs)
    more y x ys xs l = grind (arith, nat_tests)
