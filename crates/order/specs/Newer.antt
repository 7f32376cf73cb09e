-- What a newer table has to leave as it was, so that old names keep their order.
use Rattle.std.specs.Prelude.{Bool, List, length, slice_index_or, ℕ, true, ◌&&◌, ◌<◌, ◌==◌, ◌||◌, ◌≡◌}
use Rattle.std.specs.List.{list_all}
use Rattle.std.specs.Ordering.{nat_cmp}
use Rattle.keys.specs.Letters.{letters_in}
use Rattle.keys.specs.Rows.{on}
use Rattle.keys.specs.declared.level.Level.{Level}
use Rattle.order.specs.Names.{name_order}
use Rattle.pieces.specs.Runs.{nothing}
use Rattle.table.specs.Rules.{Rules, triples}

-- a piece: one letter, or letters that are one together
abbrev pub is_piece : Rules → List ℕ → Bool
is_piece t run = length run == 1 || t.joins run

-- an old piece: a piece of old letters
abbrev pub old_piece : (old : ℕ → Bool) → Rules → List ℕ → Bool
old_piece old t run = list_all old run && is_piece t run

-- how many triples of weights a piece has, and what one of them says on a level, counted from 0
abbrev pub many : Rules → List ℕ → ℕ
many t p = length (triples t p)

abbrev pub weight_at : Level → Rules → List ℕ → ℕ → ℕ
weight_at l t p i = on l (slice_index_or (triples t p) i nothing)

-- a piece has as many triples as before
abbrev pub SameMany : (t u : Rules) → List ℕ → Type 0
SameMany t u p = many u p ≡ many t p

-- on a level each of its triples weighs 0 where it did, and nowhere else
abbrev pub SameZeros : Level → (t u : Rules) → List ℕ → Type 0
SameZeros l t u p = (i : ℕ) → i < many t p → (weight_at l u p i == 0) ≡ (weight_at l t p i == 0)

-- and stands to each triple of another piece as before
abbrev pub SameStanding : Level → (t u : Rules) → (p q : List ℕ) → Type 0
SameStanding l t u p q = (i j : ℕ) → i < many t p → j < many t q → nat_cmp (weight_at l u p i) (weight_at l u q j) ≡ nat_cmp (weight_at l t p i) (weight_at l t q j)

-- On a level, of all old pieces: what weighed 0 does, and nothing else does; and any two stand to each other as before.
pub record KeepsLevel (old : ℕ → Bool) (t u : Rules) (l : Level) : Type 0 where
  pub zeros : (p : List ℕ) → old_piece old t p ≡ true → SameZeros l t u p
  pub order : (p q : List ℕ) → old_piece old t p ≡ true → old_piece old t q ≡ true → SameStanding l t u p q

-- the same runs of old letters are one together
abbrev pub SameRuns : (old : ℕ → Bool) → Rules → Rules → Type 0
SameRuns old t u = (run : List ℕ) → list_all old run ≡ true → u.joins run ≡ t.joins run

-- the tests: the newer table u keeps what the older table t says of old letters, and both read bytes the same way
pub record Keeps (old : ℕ → Bool) (t u : Rules) : Type 0 where
  pub reads : u.utf8 ≡ t.utf8
  pub runs : SameRuns old t u
  pub many : (p : List ℕ) → old_piece old t p ≡ true → SameMany t u p
  pub levels : (l : Level) → KeepsLevel old t u l

-- any two names in old letters stand to each other as before
abbrev pub KeepsNames : (old : ℕ → Bool) → Rules → Rules → Type 0
KeepsNames old t u = (a b : List ℕ) → list_all old (letters_in t.utf8 a) ≡ true → list_all old (letters_in t.utf8 b) ≡ true → name_order u a b ≡ name_order t a b

-- a map that keeps the order of numbers, and 0
abbrev pub Rises : (ℕ → ℕ) → Type 0
Rises f = (f 0 ≡ 0) × ((x y : ℕ) → x < y → f x < f y)

-- a common scale: two such maps take what a triple of an old piece weighs on a level in either table to the same number
abbrev pub Scaled : (old : ℕ → Bool) → Rules → Rules → Level → Type 0
Scaled old t u l =
    (f g : ℕ → ℕ) × Rises f × Rises g × ((p : List ℕ) (i : ℕ) → old_piece old t p ≡ true → i < many t p → g (weight_at l u p i) ≡ f (weight_at l t p i))
