-- A list of all names in order, with ties by their numbers, is the only one.
use Rattle.std.proofs.Common.{◌≡◌, ℕ, zero, suc, ◌+◌, ◌<◌, Bool, true, false, IsPermutation, List, [], ◌∷◌, cond, length, slice_index_or, refl, sym, ap, ◌∙◌, arith}
use Rattle.std.specs.Cmp.{IsTotalOrder}
use Rattle.std.specs.List.{count_by}
use Rattle.std.specs.Ordering.{is_lt, nat_cmp}
use Rattle.std.specs.declared.cmp.Ordering.{Ordering}
use Rattle.std.specs.declared.cmp.Ordering.TheVariants.{Less, Equal, Greater}
use Rattle.std.proofs.lemmas.Bool.Decides.{nat_tests}
use Rattle.std.proofs.lemmas.Cmp.{nat_list_cmp_total}
use Rattle.std.proofs.lemmas.List.{ext_get_or, get_or_default}
use Rattle.std.proofs.lemmas.List.Elements.{Contains-get_or}
use Rattle.std.proofs.lemmas.List.Sums.{sum_by-cons}
use Rattle.std.proofs.lemmas.List.Sorted.{Contains-permutation, IsPermutation-sym, IsPermutation-trans, length_permutation, ranks_by, sum_by-IsPermutation}
use Rattle.keys.specs.Rows.{key}
use Rattle.order.proofs.Rows.{alike_are_same}
use Rattle.order.specs.Names.{name_order}
use Rattle.table.specs.Rules.{Rules}
use Rattle.catalogue.proofs.Order.{in_order, row_then_number, row_then_number_total}
use Rattle.catalogue.specs.Arranging.{Arranged}
use Rattle.catalogue.specs.Laws.{OneList}
use Rattle.catalogue.specs.Lists.{lists, name_at, name_of}

module _ (less : ℕ → ℕ → Bool) (one_way : (x y : ℕ) → less x y ≡ true → less y x ≡ false) where
  -- each is less than every later one
  abbrev Rises : List ℕ → Type 0
  Rises xs = (i j : ℕ) → i < j → j < length xs → less (slice_index_or xs i 0) (slice_index_or xs j 0) ≡ true

  none_less : (x : ℕ) (xs : List ℕ) → ((k : ℕ) → k < length xs → less (slice_index_or xs k 0) x ≡ false) → count_by (λ q. less q x) xs ≡ 0
  none_less x [] h = refl
  none_less x (y ∷ ys) h = let e = h 0 (omega arith) in let ih = none_less x ys (λ k l. h (suc k) (omega arith)) in sum_by-cons (λ q. cond (less q x) 1 0) y ys ∙ rw (e, ih) refl

  not_itself : (x : ℕ) (b : Bool) → less x x ≡ b → less x x ≡ false
  not_itself x true e = one_way x x e
  not_itself x false e = e

  one_more_is : (n : ℕ) → 1 + n ≡ suc n
  one_more_is n = omega arith

  one_more : (p : ℕ → Bool) (x : ℕ) (xs : List ℕ) (n : ℕ) → p x ≡ true → count_by p xs ≡ n → count_by p (x ∷ xs) ≡ suc n
  one_more p x xs n e c = sum_by-cons (λ q. cond (p q) 1 0) x xs ∙ rw (e, c) (one_more_is n)

  -- as many are less than the one at a place as stand before it
  count_at : (xs : List ℕ) → Rises xs → (i : ℕ) → i < length xs → count_by (λ q. less q (slice_index_or xs i 0)) xs ≡ i
  count_at [] r i l = absurd (omega arith)
  count_at (x ∷ xs) r zero l =
      let e = not_itself x _ refl in
      let n = none_less x xs (λ k m. one_way x (slice_index_or xs k 0) (r 0 (suc k) (omega arith) (omega arith))) in
      sum_by-cons (λ q. cond (less q x) 1 0) x xs ∙ rw (e, n) refl
  count_at (x ∷ xs) r (suc i) l =
      let e : less x (slice_index_or xs i 0) ≡ true = r 0 (suc i) (omega arith) l in
      let ih : count_by (λ q. less q (slice_index_or xs i 0)) xs ≡ i = count_at xs (λ j k m n. r (suc j) (suc k) (omega arith) (omega arith)) i (omega arith) in
      one_more (λ q. less q (slice_index_or xs i 0)) x xs i e ih

  same : (xs ys : List ℕ) → IsPermutation xs ys → Rises xs → Rises ys → xs ≡ ys
  same xs ys p r s = ext_get_or 0 xs ys (sym (length_permutation xs ys p)) at
    where
      at : (i : ℕ) → i < length xs → slice_index_or xs i 0 ≡ slice_index_or ys i 0
      at i l =
          let x = slice_index_or xs i 0 in
          let c = Contains-permutation xs ys x p (Contains-get_or xs i 0 l) in
          let d : slice_index_or ys c.0 0 ≡ slice_index_or xs i 0 = get_or_default ys c.0 0 x c.1 ∙ c.2 in
          let a = count_at xs r i l in
          let b = count_at ys s c.0 c.1 in
          let e = sum_by-IsPermutation (λ q. cond (less q x) 1 0) xs ys p in
          let k : c.0 ≡ i = sym (rw d at b) ∙ (e ∙ a) in
          sym d ∙ ap (λ k. slice_index_or ys k 0) k

module _ (t : Rules) (text starts : List ℕ) where
  -- keys decide; of names with the same key the number does
  abbrev number_order : ℕ → ℕ → Ordering
  number_order = row_then_number (λ i. key t (name_of text starts i)) (λ i. i)

  number_total : IsTotalOrder number_order
  number_total = row_then_number_total (λ i. key t (name_of text starts i)) (λ i. i)

  arranged_rises : (places : List ℕ) → Arranged (lists t text starts places) → Rises (λ i j. is_lt (number_order i j)) (ranks_by number_total (λ (i : ℕ). i)).one_way places
  arranged_rises places a i j l m = go (name_order t (name_at (lists t text starts places) i) (name_at (lists t text starts places) j)) refl
    where
      go : (o : Ordering) → name_order t (name_at (lists t text starts places) i) (name_at (lists t text starts places) j) ≡ o → is_lt (number_order (slice_index_or places i 0) (slice_index_or places j 0)) ≡ true
      go Less e = rw e refl
      go Equal e = let b = a.ties i j l m (alike_are_same _ _ e) in let n : nat_cmp (slice_index_or places i 0) (slice_index_or places j 0) ≡ Less = grind (arith, nat_tests) in rw (e, n) refl
      go Greater e =
          let b = in_order (lists t text starts places) a.right i j (omega arith) m in
          let r = nat_list_cmp_total.antisymm (key t (name_at (lists t text starts places) i)) (key t (name_at (lists t text starts places) j)) in
          grind arith

pub one_list : OneList
one_list t text starts one other a b =
    same (λ i j. is_lt (number_order t text starts i j)) (ranks_by (number_total t text starts) (λ (i : ℕ). i)).one_way one other
    (IsPermutation-trans _ _ _ (IsPermutation-sym _ _ a.all) b.all) (arranged_rises t text starts one a) (arranged_rises t text starts other b)
