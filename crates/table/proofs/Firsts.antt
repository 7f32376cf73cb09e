-- The first place that passes a test, met by going through the places in turn.
use Rattle.std.proofs.Common.{◌≡◌, ℕ, zero, suc, ◌+◌, ◌<◌, ◌≤◌, Bool, true, false, Some, None, Option, refl, add-one, arith}
use Rattle.std.specs.Option.{MatchOption}
use Rattle.std.proofs.lemmas.Bool.{cases_eq}
use Rattle.table.specs.Refusals.{first_place}

module _ (test : ℕ → Bool) where
  pub none_yet : first_place test 0 ≡ None
  unfolding first_place
  none_yet = refl

  pub none_more : (k : ℕ) → first_place test k ≡ None → test k ≡ false → first_place test (k + 1) ≡ None
  unfolding first_place
  none_more k e f = rw (add-one, e, f)

  pub first_is : (k : ℕ) → first_place test k ≡ None → test k ≡ true → (n : ℕ) → k < n → first_place test n ≡ Some k
  unfolding first_place
  first_is k e f zero l = absurd (omega arith)
  first_is k e f (suc n) l = let ih = first_is k e f n in let q = cases_eq k n in grind arith

  pub none_at : (n : ℕ) → first_place test n ≡ None → (k : ℕ) → k < n → test k ≡ false
  unfolding first_place
  none_at zero e k l = absurd (omega arith)
  none_at (suc n) e k l = let ih = none_at n in grind arith

  pub none_below : (n : ℕ) → ((k : ℕ) → k < n → test k ≡ false) → first_place test n ≡ None
  unfolding first_place
  none_below zero h = refl
  none_below (suc n) h = let ih = none_below n (λ k l. h k (omega arith)) in let e = h n (omega arith) in grind arith

  -- what looking through the places from the first on finds
  pub looked_through : (n : ℕ) (r : Option ℕ) →
      MatchOption r ((k : ℕ) → 0 ≤ k → k < n → test k ≡ false) (λ i. (0 ≤ i) × (i < n) × (test i ≡ true) × ((k : ℕ) → 0 ≤ k → k < i → test k ≡ false)) →
      first_place test n ≡ r
  looked_through n None h = none_below n (λ k l. h k (omega arith) l)
  looked_through n (Some i) h = first_is i (none_below i (λ k l. h.3 k (omega arith) l)) h.2 n h.1

  pub first_below : (n k : ℕ) → first_place test n ≡ Some k → k < n
  unfolding first_place
  first_below zero k e = grind arith
  first_below (suc n) k e = let ih = first_below n k in grind arith

  pub first_passes : (n k : ℕ) → first_place test n ≡ Some k → test k ≡ true
  unfolding first_place
  first_passes zero k e = grind arith
  first_passes (suc n) k e = let ih = first_passes n k in grind arith

  pub first_least : (n k : ℕ) → first_place test n ≡ Some k → (j : ℕ) → j < k → test j ≡ false
  unfolding first_place
  first_least zero k e j l = grind arith
  first_least (suc n) k e j l = let ih = first_least n k in let b = first_below (suc n) k e in let q = none_at n in grind arith
