-- What two names both begin with.
use Rattle.std.specs.Prelude.{◌≡◌, ℕ, ◌-◌, ◌<◌, ◌≤◌, Bool, false, List, [], ◌∷◌, ◌++◌, drop, length, take, Some, None, Option}
use Rattle.keys.specs.Letters.{letters_in}
use Rattle.table.specs.Rules.{BeginsNone, Rules}

-- no run that is one together begins in a front and ends in what is behind it
abbrev pub NoneAcross : (joins : List ℕ → Bool) → (front rest : List ℕ) → Type 0
NoneAcross joins p x = (f s r q : List ℕ) → p ≡ f ++ s → x ≡ r ++ q → 0 < length s → 0 < length r → joins (s ++ r) ≡ false

-- a name can be cut there: no letter is cut in two, and no piece
pub record MayCut (t : Rules) (name : List ℕ) (n : ℕ) : Type 0 where
  pub letters : letters_in t.utf8 name ≡ letters_in t.utf8 (take n name) ++ letters_in t.utf8 (drop n name)
  pub pieces : NoneAcross t.joins (letters_in t.utf8 (take n name)) (letters_in t.utf8 (drop n name))

-- the last letter of bytes and how many bytes it takes, where the last bytes are one
abbrev pub EndsWith : (utf8 : Bool) → List ℕ → Option (ℕ × ℕ) → Type 0
EndsWith utf8 n None = Unit {0}
EndsWith utf8 n (Some (a, k)) = (0 < k) × (k ≤ length n) × (letters_in utf8 n ≡ letters_in utf8 (take (length n - k) n) ++ a ∷ [])

-- no run begins with one of the last three letters
abbrev pub LastBeginNone : Rules → List ℕ → Type 0
LastBeginNone t ls = (f : List ℕ) (a : ℕ) (s : List ℕ) → ls ≡ f ++ a ∷ s → length s < 3 → BeginsNone t a

-- nor with one of these
unfoldable pub NoneBegins : Rules → List ℕ → Type 0
NoneBegins t [] = Unit {0}
NoneBegins t (a ∷ ls) = BeginsNone t a × NoneBegins t ls

-- the first n bytes of both names are the same, and both can be cut there
pub record Shared (t : Rules) (a b : List ℕ) (n : ℕ) : Type 0 where
  pub in_first : n ≤ length a
  pub in_second : n ≤ length b
  pub same : take n a ≡ take n b
  pub first_cut : MayCut t a n
  pub second_cut : MayCut t b n
