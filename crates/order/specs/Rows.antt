-- The order of rows of numbers, and of several rows level by level.
use Rattle.std.specs.Prelude.{Bool, List, [], ◌∷◌, ℕ, ◌==◌}
use Rattle.std.specs.Cmp.Lexicographic.{slice_cmp}
use Rattle.std.specs.List.{starts_with}
use Rattle.std.specs.declared.cmp.Ordering.{Ordering}
use Rattle.std.specs.Ordering.{is_lt, nat_cmp}
use Rattle.keys.specs.Laws.{ZeroFree}

-- Which of two rows is before the other: the one that has the smaller number at the first place where they differ. One that
-- has ended there is before one that hasn't.
abbrev pub row_order : List ℕ → List ℕ → Ordering
row_order = slice_cmp nat_cmp

-- Level by level: the first rows decide, where they differ; else the second rows do, and so on.
abbrev pub by_levels : List (List ℕ) → List (List ℕ) → Ordering
by_levels = slice_cmp row_order

-- the first row is before the second
abbrev pub before : List ℕ → List ℕ → Bool
before xs ys = is_lt (row_order xs ys)

-- a row begins with the one that is asked for
abbrev pub begins : (row asked : List ℕ) → Bool
begins = starts_with ◌==◌

-- all rows but the last are free of zeros
abbrev pub FreeButLast : List (List ℕ) → Type 0
FreeButLast [] = Unit {0}
FreeButLast (r ∷ []) = Unit {0}
FreeButLast (r ∷ (q ∷ rs)) = ZeroFree r × FreeButLast (q ∷ rs)
