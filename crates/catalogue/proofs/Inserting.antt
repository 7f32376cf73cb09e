-- Names can be put in order: each number is put in its place among those before it.
use Rattle.std.proofs.Common.{◌≡◌, ℕ, zero, suc, ◌+◌, ◌-◌, ◌<◌, Bool, true, false, cond, IsPermutation, IsSorted, List, [], ◌∷◌, length, map, slice_index_or, refl, ap, arith}
use Rattle.std.specs.List.{range_with_len}
use Rattle.std.specs.Ordering.{is_lt}
use Rattle.std.specs.declared.cmp.Ordering.{Ordering}
use Rattle.std.proofs.lemmas.List.Sorted.{IsPermutation-cons, IsPermutation-middle, IsPermutation-refl, IsPermutation-sym, IsPermutation-trans, ranks_by}
use Rattle.keys.specs.Rows.{key}
use Rattle.catalogue.proofs.Arranging.{arranged, keyed_order}
use Rattle.catalogue.proofs.Order.{row_then_number_total}
use Rattle.catalogue.specs.Keying.{AreKeyed, HasKey, numbers_of}
use Rattle.catalogue.specs.Laws.{SomeList}
use Rattle.catalogue.specs.Lists.{name_of}
use Rattle.catalogue.specs.declared.names.arrange.Keyed.{Keyed}

module _ {X : Type 0} (o : X → X → Ordering) (one_way : (x y : X) → is_lt (o x y) ≡ true → is_lt (o y x) ≡ false) where
  -- behind all in front that are less
  abbrev place : X → List X → List X
  place x [] = x ∷ []
  place x (y ∷ ys) = cond (is_lt (o y x)) (y ∷ place x ys) (x ∷ (y ∷ ys))

  abbrev placed : List X → List X
  placed [] = []
  placed (x ∷ xs) = place x (placed xs)

  permutes : (x : X) (ys : List X) → IsPermutation (x ∷ ys) (place x ys)
  permutes x [] = IsPermutation-refl (x ∷ [])
  permutes x (y ∷ ys) = go (is_lt (o y x)) (permutes x ys)
    where
      go : (b : Bool) → IsPermutation (x ∷ ys) (place x ys) → IsPermutation (x ∷ (y ∷ ys)) (cond b (y ∷ place x ys) (x ∷ (y ∷ ys)))
      go true h = IsPermutation-trans _ _ _ (IsPermutation-sym _ _ (IsPermutation-middle (y ∷ []) x ys)) (IsPermutation-cons y (x ∷ ys) (place x ys) h)
      go false h = IsPermutation-refl (x ∷ (y ∷ ys))

  all_permute : (xs : List X) → IsPermutation xs (placed xs)
  all_permute [] = IsPermutation-refl []
  all_permute (x ∷ xs) = IsPermutation-trans _ _ _ (IsPermutation-cons x xs (placed xs) (all_permute xs)) (permutes x (placed xs))

  -- none of these at the front is less
  abbrev Above : X → List X → Type 0
  Above x [] = Unit {0}
  Above x (y ∷ ys) = is_lt (o y x) ≡ false

  one_behind : (k : ℕ) → ◌≡◌ {A = ℕ} (suc k + 1) (suc (k + 1))
  one_behind k = omega arith

  front_sorted : (x : X) (ys : List X) → Above x ys → IsSorted o ys → IsSorted o (x ∷ ys)
  front_sorted x [] a s k d l m = absurd (omega arith)
  front_sorted x (y ∷ ys) a s zero d l m = a
  front_sorted x (y ∷ ys) a s (suc k) d l m = let e = one_behind k in rw e (s k d (omega arith) (omega arith))

  behind_sorted : (x : X) (ys : List X) → IsSorted o (x ∷ ys) → IsSorted o ys
  behind_sorted x ys s k d l m = rw (one_behind k) at (s (suc k) d (omega arith) (omega arith))

  above : (x : X) (ys : List X) → IsSorted o (x ∷ ys) → Above x ys
  above x [] s = tt
  above x (y ∷ ys) s = s 0 x (omega arith) (omega arith)

  place_above : (x y : X) (ys : List X) → is_lt (o x y) ≡ false → Above y ys → Above y (place x ys)
  place_above x y [] e a = e
  place_above x y (z ∷ ys) e a = go (is_lt (o z x))
    where
      go : (b : Bool) → Above y (cond b (z ∷ place x ys) (x ∷ (z ∷ ys)))
      go true = a
      go false = e

  place_sorted : (x : X) (ys : List X) → IsSorted o ys → IsSorted o (place x ys)
  place_sorted x [] s = front_sorted x [] tt s
  place_sorted x (y ∷ ys) s = go (is_lt (o y x)) refl (place_sorted x ys (behind_sorted y ys s))
    where
      go : (b : Bool) → is_lt (o y x) ≡ b → IsSorted o (place x ys) → IsSorted o (cond b (y ∷ place x ys) (x ∷ (y ∷ ys)))
      go true e h = front_sorted y (place x ys) (place_above x y ys (one_way y x e) (above y ys s)) h
      go false e h = front_sorted x (y ∷ ys) e s

  all_sorted : (xs : List X) → IsSorted o (placed xs)
  all_sorted [] = λ k d l m. absurd (omega arith)
  all_sorted (x ∷ xs) = place_sorted x (placed xs) (all_sorted xs)

-- a number beside its key
module _ (key_of : ℕ → List ℕ) where
  abbrev beside : ℕ → Keyed
  beside i = record { key = record { ref_ptr = (0, 0); now = key_of i }; number = i }

  numbers_beside : (is : List ℕ) → numbers_of (map beside is) ≡ is
  numbers_beside [] = refl
  numbers_beside (i ∷ is) = ap (λ js. i ∷ js) (numbers_beside is)

  have_keys : (is : List ℕ) (k : ℕ) (d : Keyed) → k < length (map beside is) → HasKey key_of (slice_index_or (map beside is) k d)
  have_keys [] k d l = absurd (omega arith)
  have_keys (i ∷ is) zero d l = refl
  have_keys (i ∷ is) (suc k) d l = have_keys is k d (omega arith)

  are_keyed : (n : ℕ) → AreKeyed key_of n (map beside (range_with_len 0 n))
  are_keyed n = record { keys = have_keys (range_with_len 0 n); numbers = numbers_beside (range_with_len 0 n) }

pub some_list : SomeList
some_list t text starts =
    let key_of = (λ (i : ℕ). key t (name_of text starts i)) in
    let ks = map (beside key_of) (range_with_len 0 (length starts - 1)) in
    let w = (ranks_by (row_then_number_total (λ (k : Keyed). k.key.now) (λ (k : Keyed). k.number)) (λ k. k)).one_way in
    (numbers_of (placed keyed_order w ks), arranged t text starts ks (placed keyed_order w ks) (are_keyed key_of (length starts - 1)) (all_permute keyed_order w ks) (all_sorted keyed_order w ks))
