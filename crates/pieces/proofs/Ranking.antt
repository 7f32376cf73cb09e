-- Lists in the order of a rank: which stand in front of a place.
use Rattle.std.proofs.Common.{◌≡◌, ℕ, zero, suc, ◌<◌, ◌≤◌, Bool, true, false, cond, eqb, ltb, leb, List, [], ◌∷◌, length, get_or, Some, None, refl, sym, ap, ◌∙◌, arith}
use Rattle.std.proofs.lemmas.Bool.{eqb-true}
use Rattle.std.proofs.lemmas.Option.{same_Some}
use Rattle.std.specs.List.{list_all}
use Rattle.std.proofs.lemmas.Bool.Decides.{nat_tests}
use Rattle.std.specs.List.{slice_get}
use Rattle.pieces.specs.Ranks.{at_rank, below, climbs, put_in, rises}

module _ {A : Type 0} (rank : A → ℕ) where
  -- none is below a
  abbrev pub from : ℕ → List A → Bool
  from a xs = list_all (λ y. leb a (rank y)) xs

  pub from_at : (a : ℕ) (xs : List A) (k : ℕ) (d : A) → from a xs ≡ true → k < length xs → a ≤ rank (get_or xs k d)
  from_at a [] k d h l = absurd (omega arith)
  from_at a (x ∷ xs) zero d h l = grind (arith, nat_tests)
  from_at a (x ∷ xs) (suc k) d h l = let ih = from_at a xs k d in grind (arith, nat_tests)

  pub from_more : (a b : ℕ) (xs : List A) → from b xs ≡ true → a ≤ b → from a xs ≡ true
  from_more a b [] h l = refl
  from_more a b (x ∷ xs) h l = let ih = from_more a b xs in grind (arith, nat_tests)

  -- which are below, by their places
  pub is_below : (xs : List A) (a k : ℕ) (d : A) → rises rank xs ≡ true → k < length xs → ltb (rank (get_or xs k d)) a ≡ ltb k (below rank xs a)
  unfolding rises below
  is_below [] a k d s l = absurd (omega arith)
  is_below (x ∷ xs) a zero d s l = grind (arith, nat_tests)
  is_below (x ∷ xs) a (suc k) d s l = let ih = is_below xs a k d in let h = from_at (rank x) xs k d in grind (arith, nat_tests)

  pub below_most : (xs : List A) (a : ℕ) → below rank xs a ≤ length xs
  unfolding below
  below_most [] a = omega arith
  below_most (x ∷ xs) a = let ih = below_most xs a in grind (arith, nat_tests)

  -- one more, at its place among the others
  module _ (x : A) where
    abbrev put : List A → List A
    put xs = put_in rank x xs

    from_put : (b : ℕ) (xs : List A) → from b xs ≡ true → b ≤ rank x → from b (put xs) ≡ true
    unfolding below
    from_put b [] h l = grind (arith, nat_tests)
    from_put b (y ∷ xs) h l = let ih = from_put b xs in grind (arith, nat_tests)

    pub rises_put : (xs : List A) → rises rank xs ≡ true → rises rank (put xs) ≡ true
    unfolding rises below
    rises_put [] s = refl
    rises_put (y ∷ xs) s =
        let ih = rises_put xs in
        let a = from_put (rank y) xs in
        let m = from_more (rank x) (rank y) xs in
        grind (arith, nat_tests)

    pub all_put : (test : A → Bool) (xs : List A) → test x ≡ true → list_all test xs ≡ true → list_all test (put xs) ≡ true
    unfolding below
    all_put test [] o h = grind arith
    all_put test (y ∷ xs) o h = let ih = all_put test xs o in grind (arith, nat_tests)

-- lists each of which is above those in front of it
module _ {A : Type 0} (rank : A → ℕ) where
  -- all are above a
  abbrev pub above : ℕ → List A → Bool
  above a xs = list_all (λ y. ltb a (rank y)) xs

  above_at : (a : ℕ) (xs : List A) (k : ℕ) (x : A) → above a xs ≡ true → slice_get xs k ≡ Some x → a < rank x
  above_at a [] k x h e = grind arith
  above_at a (y ∷ xs) zero x h e = grind (arith, nat_tests)
  above_at a (y ∷ xs) (suc k) x h e = let ih = above_at a xs k x in grind (arith, nat_tests)

  above_more : (a b : ℕ) (xs : List A) → above b xs ≡ true → a ≤ b → above a xs ≡ true
  above_more a b [] h l = refl
  above_more a b (x ∷ xs) h l = let ih = above_more a b xs in grind (arith, nat_tests)

  from_above : (a : ℕ) (xs : List A) → above a xs ≡ true → from rank a xs ≡ true
  from_above a [] h = refl
  from_above a (x ∷ xs) h = let ih = from_above a xs in grind (arith, nat_tests)

  -- such a list rises
  pub rising : (xs : List A) → climbs rank xs ≡ true → rises rank xs ≡ true
  unfolding climbs rises
  rising [] s = refl
  rising (x ∷ xs) s = let ih = rising xs in let f = from_above (rank x) xs in grind arith

  none_above : (xs : List A) (a b : ℕ) → above b xs ≡ true → a ≤ b → at_rank rank xs a ≡ None
  unfolding at_rank
  none_above [] a b h l = refl
  none_above (x ∷ xs) a b h l = let ih = none_above xs a b in grind (arith, nat_tests)

  -- what stands where a rank begins has it, or none has
  pub found_there : (xs : List A) (a k : ℕ) (x : A) → climbs rank xs ≡ true → k ≡ below rank xs a → slice_get xs k ≡ Some x → rank x ≡ a → at_rank rank xs a ≡ Some x
  unfolding climbs below at_rank
  found_there [] a k x s e l h = grind arith
  found_there (y ∷ xs) a zero x s e l h = grind (arith, nat_tests)
  found_there (y ∷ xs) a (suc k) x s e l h = let ih = found_there xs a k x in grind (arith, nat_tests)

  pub other_there : (xs : List A) (a k : ℕ) (x : A) → climbs rank xs ≡ true → k ≡ below rank xs a → slice_get xs k ≡ Some x → (rank x ≡ a → ⊥) → at_rank rank xs a ≡ None
  unfolding climbs below at_rank
  other_there [] a k x s e l h = refl
  other_there (y ∷ xs) a zero x s e l h = let n = none_above xs a (rank y) in grind (arith, nat_tests)
  other_there (y ∷ xs) a (suc k) x s e l h = let ih = other_there xs a k x in grind (arith, nat_tests)

  pub none_there : (xs : List A) (a k : ℕ) → k ≡ below rank xs a → length xs ≤ k → at_rank rank xs a ≡ None
  unfolding below at_rank
  none_there [] a k e l = refl
  none_there (x ∷ xs) a zero e l = absurd (omega arith)
  none_there (x ∷ xs) a (suc k) e l = let ih = none_there xs a k in grind (arith, nat_tests)

  -- each is the one that has its rank
  pub its_rank : (xs : List A) (k : ℕ) (x : A) → climbs rank xs ≡ true → slice_get xs k ≡ Some x → at_rank rank xs (rank x) ≡ Some x
  unfolding climbs at_rank
  its_rank [] k x s e = grind arith
  its_rank (y ∷ xs) zero x s e = grind (arith, nat_tests)
  its_rank (y ∷ xs) (suc k) x s e = let ih = its_rank xs k x in let n = above_at (rank y) xs k x in grind (arith, nat_tests)

  -- and what has a rank stands somewhere
  pub its_place : (xs : List A) (a : ℕ) (x : A) → at_rank rank xs a ≡ Some x → (k : ℕ) × (slice_get xs k ≡ Some x) × (rank x ≡ a)
  unfolding at_rank
  its_place [] a x e = absurd (grind arith)
  its_place (y ∷ xs) a x e = go (eqb (rank y) a) refl e (its_place xs a x)
    where
      go : (b : Bool) → eqb (rank y) a ≡ b → cond b (Some y) (at_rank rank xs a) ≡ Some x → (at_rank rank xs a ≡ Some x → (k : ℕ) × (slice_get xs k ≡ Some x) × (rank x ≡ a))
          → (k : ℕ) × (slice_get (y ∷ xs) k ≡ Some x) × (rank x ≡ a)
      go true q e ih = (0, e, ap rank (sym (same_Some y x e)) ∙ eqb-true (rank y) a q)
      go false q e ih = let r = ih e in (suc r.0, r.1, r.2)

  -- of any two the one in front is below
  pub climbing : (xs : List A) (j k : ℕ) (x y : A) → climbs rank xs ≡ true → j < k → slice_get xs j ≡ Some x → slice_get xs k ≡ Some y → rank x < rank y
  unfolding climbs
  climbing [] j k x y s l e f = grind arith
  climbing (z ∷ xs) j zero x y s l e f = absurd (omega arith)
  climbing (z ∷ xs) zero (suc k) x y s l e f = let n = above_at (rank z) xs k y in grind (arith, nat_tests)
  climbing (z ∷ xs) (suc j) (suc k) x y s l e f = let ih = climbing xs j k x y in grind (arith, nat_tests)

  -- one more, at its place among the others
  module _ (x : A) where
    above_put : (b : ℕ) (xs : List A) → above b xs ≡ true → b < rank x → above b (put_in rank x xs) ≡ true
    unfolding below
    above_put b [] h l = grind (arith, nat_tests)
    above_put b (y ∷ xs) h l = let ih = above_put b xs in grind (arith, nat_tests)

    pub climbs_put : (xs : List A) → climbs rank xs ≡ true → at_rank rank xs (rank x) ≡ None → climbs rank (put_in rank x xs) ≡ true
    unfolding climbs below at_rank
    climbs_put [] s n = refl
    climbs_put (y ∷ xs) s n =
        let ih = climbs_put xs in
        let a = above_put (rank y) xs in
        let m = above_more (rank x) (rank y) xs in
        grind (arith, nat_tests)

    pub rank_put : (xs : List A) (b : ℕ) → at_rank rank (put_in rank x xs) b ≡ cond (eqb (rank x) b) (Some x) (at_rank rank xs b)
    unfolding below at_rank
    rank_put [] b = refl
    rank_put (y ∷ xs) b = let ih = rank_put xs b in grind (arith, nat_tests)
