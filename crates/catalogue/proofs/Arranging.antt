-- Keys put in order beside their numbers give a list in order.
use Rattle.std.proofs.Common.{[], ◌∷◌, ◌≡◌, ℕ, zero, suc, ◌+◌, ◌-◌, ◌<◌, ◌≤◌, false, IsPermutation, IsSorted, List, None, eqb, length, slice_index_or, refl, sym, ◌∙◌, arith}
use Rattle.std.specs.List.{IsDistinct, range_with_len}
use Rattle.std.specs.Ordering.{is_lt, nat_cmp, ordering_then}
use Rattle.std.specs.declared.cmp.Ordering.{Ordering}
use Rattle.std.specs.declared.cmp.Ordering.TheVariants.{Less, Equal, Greater}
use Rattle.std.proofs.lemmas.Bool.Decides.{nat_tests}
use Rattle.std.proofs.lemmas.Cmp.{nat_list_cmp_total, tied_itself}
use Rattle.std.proofs.lemmas.List.{get_or-map, length-map}
use Rattle.std.proofs.lemmas.List.FromFn.{get_or-range_with_len, length-range_with_len}
use Rattle.std.proofs.lemmas.List.Sorted.{All-permutation, IsPermutation-map, ranks_by, sorted_far}
use Rattle.std.proofs.lemmas.Map.Keys.{IsDistinct-IsPermutation, IsDistinct-from_apart, apart_from_distinct}
use Rattle.keys.specs.Rows.{key}
use Rattle.order.specs.Names.{name_order}
use Rattle.order.specs.Rows.{row_order}
use Rattle.table.proofs.Firsts.{none_below}
use Rattle.table.specs.Rules.{Rules}
use Rattle.catalogue.proofs.Order.{row_then_number, row_then_number_total}
use Rattle.catalogue.specs.Arranging.{Arranged}
use Rattle.catalogue.specs.Keying.{AreKeyed, HasKey, numbers_of}
use Rattle.catalogue.specs.Lists.{lists, name_at, name_of, no_such_name, out_of_order, places_fault}
use Rattle.catalogue.specs.declared.names.arrange.Keyed.{Keyed}

-- keys decide; of names with the same key the number does
abbrev pub keyed_order : Keyed → Keyed → Ordering
keyed_order = row_then_number (λ (k : Keyed). k.key.now) (λ (k : Keyed). k.number)

-- numbers from 0 on are all different
range_distinct : (n : ℕ) → IsDistinct eqb (range_with_len 0 n)
range_distinct n = IsDistinct-from_apart eqb (range_with_len 0 n) (λ i j d l m.
    let r = length-range_with_len 0 n in
    let a = get_or-range_with_len 0 n i d (omega arith) in
    let b = get_or-range_with_len 0 n j d (omega arith) in
    grind (arith, nat_tests))

-- one that is in the list
some_of : (ks : List Keyed) (i : ℕ) → i < length ks → Keyed
some_of [] i l = absurd (omega arith)
some_of (k ∷ ks) i l = k

first_not : (a b : Ordering) → is_lt (ordering_then a b) ≡ false → is_lt a ≡ false
first_not Less b e = e
first_not Equal b e = refl
first_not Greater b e = refl

tie_rises : (x y : Keyed) → x.key.now ≡ y.key.now → is_lt (keyed_order y x) ≡ false → x.number ≤ y.number
tie_rises x y e f =
    let r = tied_itself nat_list_cmp_total y.key.now in
    let g = rw (e, r) at f in
    grind (arith, nat_tests)

flips : (x y : ℕ) → eqb x y ≡ eqb y x
flips x y = grind (arith, nat_tests)

module _ (t : Rules) (text starts : List ℕ) (ks sorted : List Keyed) (k : AreKeyed (λ i. key t (name_of text starts i)) (length starts - 1) ks)
    (p : IsPermutation ks sorted) (s : IsSorted keyed_order sorted) where
  all : IsPermutation (range_with_len 0 (length starts - 1)) (numbers_of sorted)
  all = rw k.numbers at (IsPermutation-map (λ (k : Keyed). k.number) ks sorted p)

  many : length (numbers_of sorted) ≡ length sorted
  many = length-map sorted (λ (k : Keyed). k.number)

  number_at : (i : ℕ) (d : Keyed) → i < length sorted → slice_index_or (numbers_of sorted) i 0 ≡ (slice_index_or sorted i d).number
  number_at i d b = get_or-map (λ (k : Keyed). k.number) sorted i d 0 b

  key_at : (i : ℕ) (d : Keyed) → i < length sorted → (slice_index_or sorted i d).key.now ≡ key t (name_at (lists t text starts (numbers_of sorted)) i)
  key_at i d b = rw (number_at i d b) (All-permutation (HasKey (λ i. key t (name_of text starts i))) ks sorted p k.keys i d b)

  known : (i : ℕ) → i < length (numbers_of sorted) → no_such_name starts (numbers_of sorted) i ≡ false
  known i b =
      let f = All-permutation (λ q. q < length starts - 1) (range_with_len 0 (length starts - 1)) (numbers_of sorted) all
      (λ i d c. let r = length-range_with_len 0 (length starts - 1) in let e = get_or-range_with_len 0 (length starts - 1) i d (omega arith) in omega arith) i 0 b in
      grind (arith, nat_tests)

  risen_at : (i : ℕ) → i + 1 < length (numbers_of sorted) →
      is_lt (name_order t (name_at (lists t text starts (numbers_of sorted)) (i + 1)) (name_at (lists t text starts (numbers_of sorted)) i)) ≡ false
  risen_at i b =
      let m = many in
      let d = some_of sorted i (omega arith) in
      let f : is_lt (keyed_order (slice_index_or sorted (i + 1) d) (slice_index_or sorted i d)) ≡ false = s i d (omega arith) (omega arith) in
      let g = first_not (row_order (slice_index_or sorted (i + 1) d).key.now (slice_index_or sorted i d).key.now) (nat_cmp (slice_index_or sorted (i + 1) d).number (slice_index_or sorted i d).number) f in
      rw (key_at (i + 1) d (omega arith), key_at i d (omega arith)) at g

  risen : (i : ℕ) → i < length (numbers_of sorted) → out_of_order (lists t text starts (numbers_of sorted)) i ≡ false
  risen zero b = refl
  risen (suc i) b =
      let h = risen_at i (omega arith) in
      let e : suc i - 1 ≡ i = omega arith in
      let f : suc i ≡ i + 1 = omega arith in
      grind (arith, nat_tests)

  right : places_fault (lists t text starts (numbers_of sorted)) ≡ None
  unfolding places_fault
  right = rw (none_below _ _ known, none_below _ _ risen)

  tied : (i j : ℕ) → i < j → j < length (numbers_of sorted) →
      key t (name_at (lists t text starts (numbers_of sorted)) i) ≡ key t (name_at (lists t text starts (numbers_of sorted)) j) →
      slice_index_or (numbers_of sorted) i 0 < slice_index_or (numbers_of sorted) j 0
  tied i j l b e =
      let m = many in
      let d = some_of sorted i (omega arith) in
      let f = sorted_far _ (ranks_by (row_then_number_total (λ (k : Keyed). k.key.now) (λ (k : Keyed). k.number)) (λ (k : Keyed). k)) sorted s i j d (omega arith) (omega arith) in
      let o = tie_rises (slice_index_or sorted i d) (slice_index_or sorted j d) (key_at i d (omega arith) ∙ (e ∙ sym (key_at j d (omega arith)))) f in
      let a = apart_from_distinct eqb (numbers_of sorted) i j 0 (IsDistinct-IsPermutation eqb flips _ _ all (range_distinct (length starts - 1))) l b in
      let x = number_at i d (omega arith) in
      let y = number_at j d (omega arith) in
      grind (arith, nat_tests)

  pub arranged : Arranged (lists t text starts (numbers_of sorted))
  arranged = record { all = all; right = right; ties = tied }
