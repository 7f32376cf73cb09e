-- Lists in the order of a rank.
use Rattle.std.specs.Prelude.{ℕ, suc, Bool, true, cond, ◌&&◌, ◌==◌, List, [], ◌∷◌, None, Some, Option, nat_le, nat_lt}
use Rattle.std.specs.List.{insert, list_all}

-- none is below one in front of it
unfoldable pub rises : {A : Type 0} → (A → ℕ) → List A → Bool
rises rank [] = true
rises rank (x ∷ xs) = list_all (λ y. nat_le (rank x) (rank y)) xs && rises rank xs

-- each is above those in front of it
unfoldable pub climbs : {A : Type 0} → (A → ℕ) → List A → Bool
climbs rank [] = true
climbs rank (x ∷ xs) = list_all (λ y. nat_lt (rank x) (rank y)) xs && climbs rank xs

-- the first that has a rank
unfoldable pub at_rank : {A : Type 0} → (A → ℕ) → List A → ℕ → Option A
at_rank rank [] a = None
at_rank rank (x ∷ xs) a = cond (rank x == a) (Some x) (at_rank rank xs a)

-- how many, from the first on, are below a rank
unfoldable pub below : {A : Type 0} → (A → ℕ) → List A → ℕ → ℕ
below rank [] a = 0
below rank (x ∷ xs) a = cond (nat_lt (rank x) a) (suc (below rank xs a)) 0

-- one more, behind those that are below it
abbrev pub put_in : {A : Type 0} → (A → ℕ) → A → List A → List A
put_in rank x xs = insert xs (below rank xs (rank x)) x
