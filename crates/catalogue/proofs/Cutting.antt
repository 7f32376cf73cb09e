-- Narrowing down where numbers that don't fall go past a bound, and what stands between two bounds.
use Rattle.std.proofs.Common.{pred, ◌≡◌, ℕ, zero, suc, ◌+◌, ◌-◌, ◌<◌, ◌≤◌, Bool, true, false, List, [], ◌∷◌, filter, length, slice_index_or, slice_range, nat_le, nat_lt, ◌&&◌, ◌==◌, refl, sym, ap, ◌∙◌, ⊎_elim, arith}
use Rattle.std.proofs.lemmas.Bool.{cases_lt}
use Rattle.std.proofs.lemmas.Bool.Decides.{nat_tests}
use Rattle.std.proofs.lemmas.List.{length-drop, length-take}
use Rattle.catalogue.specs.Cutting.{Cuts, along_at}
use Rattle.catalogue.specs.Finding.{Encloses, Found, FoundAt, PartFound, PlacesFound, PlacesStand, begins_so, looked_through, standing_at}
use Rattle.order.specs.Names.{along}
use Rattle.order.specs.declared.collate.Standing.{Standing}
use Rattle.order.specs.declared.collate.Standing.TheVariants.{Before, Begins, After}
use Rattle.catalogue.specs.Lists.{Lists}

-- What is left to look at is from low up to high: in front of it the numbers are at most one bound, and behind it above the
-- other.
pub record Narrows (f : ℕ → ℕ) (least most from to low high : ℕ) : Type 0 where
  pub rises : from ≤ low
  pub ordered : low ≤ high
  pub within : high ≤ to
  pub front : (k : ℕ) → from ≤ k → k < low → f k ≤ least
  pub behind : (k : ℕ) → high ≤ k → k < to → most < f k

module _ (f : ℕ → ℕ) (n : ℕ) (up : (i j : ℕ) → i ≤ j → j < n → f i ≤ f j) (least most from to : ℕ)
    (w : to ≤ n) (low high m : ℕ) (s : Narrows f least most from to low high) (l : low ≤ m) (h : m < high) where
  pub past : f m ≤ least → Narrows f least most from to (m + 1) high
  past b = record {
    rises = let r = s.rises in omega arith;
    ordered = omega arith;
    within = s.within;
    front = λ k p q. let r = s.within in let u = up k m (omega arith) (omega arith) in omega arith;
    behind = s.behind;
  }

  pub short : most < f m → Narrows f least most from to low m
  short b = record {
    rises = s.rises;
    ordered = l;
    within = let r = s.within in omega arith;
    front = s.front;
    behind = λ k p q. let u = up m k p (omega arith) in omega arith;
  }

-- how far along says where it stands
pub before_is : (s : Standing) → along s ≤ 0 → s ≡ Before
before_is Before l = refl
before_is Begins l = absurd (omega arith)
before_is After l = absurd (omega arith)

pub begins_is : (s : Standing) → 0 < along s → along s ≤ 1 → s ≡ Begins
begins_is Before l m = absurd (omega arith)
begins_is Begins l m = refl
begins_is After l m = absurd (omega arith)

pub after_is : (s : Standing) → 1 < along s → s ≡ After
after_is Before l = absurd (omega arith)
after_is Begins l = absurd (omega arith)
after_is After l = refl

-- a name that begins so was met, and the part was cut on both sides of it
module _ (l : Lists) (ask : List ℕ) (up : (i j : ℕ) → i ≤ j → j < length l.places → along_at l ask i ≤ along_at l ask j) (low high m first behind : ℕ)
    (s : Narrows (along_at l ask) 0 1 0 (length l.places) low high) (r : low ≤ m) (h : m < high) (e : along_at l ask m ≡ 1)
    (c : Cuts (along_at l ask) 0 low m first) (d : Cuts (along_at l ask) 1 (m + 1) high behind) where
  in_front : (k : ℕ) → k < first → along_at l ask k ≤ 0
  in_front k q = ⊎_elim (λ p. s.front k (omega arith) p) (λ p. c.low k p q) (cases_lt k low)

  at_least : (k : ℕ) → first ≤ k → k < length l.places → 0 < along_at l ask k
  at_least k p q = ⊎_elim (λ r. c.high k p r) (λ r. let u = up m k r q in omega arith) (cases_lt k m)

  at_most : (k : ℕ) → k < behind → along_at l ask k ≤ 1
  at_most k q =
      let w = d.within in
      let v = s.within in
      ⊎_elim (λ r. let u = up k m (omega arith) (omega arith) in omega arith) (λ r. d.low k r q) (cases_lt k (m + 1))

  above : (k : ℕ) → behind ≤ k → k < length l.places → 1 < along_at l ask k
  above k p q = ⊎_elim (λ r. d.high k p r) (λ r. s.behind k r q) (cases_lt k high)

  pub parted : PlacesStand l ask first behind
  parted =
      let w = d.within in
      let v = s.within in record {
        rises = let p = c.within in let q = d.rises in omega arith;
        within = omega arith;
        front = λ k p. before_is (standing_at l ask k) (in_front k p);
        part = λ k p q. begins_is (standing_at l ask k) (at_least k p (omega arith)) (at_most k q);
        behind = λ k p q. after_is (standing_at l ask k) (above k p q);
      }

-- the same places behind the first element
shifted : (test : ℕ → Bool) (x : ℕ) (xs : List ℕ) (from to : ℕ) → Encloses (λ k. test (slice_index_or (x ∷ xs) k 0)) (length (x ∷ xs)) from to →
    Encloses (λ k. test (slice_index_or xs k 0)) (length xs) (pred from) (pred to)
shifted test x xs from to e = record {
  rises = let r = e.rises in pred_le from to r;
  within = let w = e.within in pred_le to _ w;
  just = λ k l. e.just (suc k) (omega arith) ∙ pred_in from to k;
}
  where
    pred_le : (a b : ℕ) → a ≤ b → pred a ≤ pred b
    pred_le zero b l = omega arith
    pred_le (suc a) zero l = absurd (omega arith)
    pred_le (suc a) (suc b) l = omega arith

    pred_in : (a b k : ℕ) → nat_le a (suc k) && nat_lt (suc k) b ≡ nat_le (pred a) k && nat_lt k (pred b)
    pred_in zero zero k = grind (arith, nat_tests)
    pred_in zero (suc b) k = grind (arith, nat_tests)
    pred_in (suc a) zero k = grind (arith, nat_tests)
    pred_in (suc a) (suc b) k = grind (arith, nat_tests)

front_more : (x : ℕ) (xs : List ℕ) (b : ℕ) → slice_range (x ∷ xs) 0 (suc b) ≡ x ∷ slice_range xs 0 b
front_more x xs b =
    let e : ◌≡◌ {A = ℕ} (suc b - 0) (suc b) = omega arith in
    let f : ◌≡◌ {A = ℕ} (b - 0) b = omega arith in
    rw (e, f)

-- the elements that pass a test, where just those from one place on and before another do
pub filtered : (test : ℕ → Bool) (xs : List ℕ) (from to : ℕ) → Encloses (λ k. test (slice_index_or xs k 0)) (length xs) from to → filter test xs ≡ slice_range xs from to
filtered test [] from to e = grind arith
filtered test (x ∷ xs) zero zero e = let h = e.just 0 (omega arith) in let ih = filtered test xs 0 0 (shifted test x xs 0 0 e) in grind (arith, nat_tests)
filtered test (x ∷ xs) zero (suc b) e =
    let h = e.just 0 (omega arith) in
    let ih = filtered test xs 0 b (shifted test x xs 0 (suc b) e) in
    let m = front_more x xs b in
    grind (arith, nat_tests)
filtered test (x ∷ xs) (suc a) zero e = let r = e.rises in absurd (omega arith)
filtered test (x ∷ xs) (suc a) (suc b) e =
    let h = e.just 0 (omega arith) in
    let ih = filtered test xs a b (shifted test x xs (suc a) (suc b) e) in
    grind (arith, nat_tests)

-- so the part that begins so is what looking through the whole list gives
pub part_filtered : (l : Lists) (ask part : List ℕ) → PartFound l ask part → filter (begins_so l ask) l.places ≡ part
part_filtered l ask part f = filtered (begins_so l ask) l.places f.0 (f.0 + length part) f.1 ∙ sym f.2

-- a name begins as asked just where it stands so
begins_along : (l : Lists) (ask : List ℕ) (k : ℕ) → begins_so l ask (slice_index_or l.places k 0) ≡ (along_at l ask k == 1)
begins_along l ask k = go (begins_so l ask (slice_index_or l.places k 0)) refl
  where
    go : (b : Bool) → begins_so l ask (slice_index_or l.places k 0) ≡ b → b ≡ (along_at l ask k == 1)
    go true e = grind (arith, nat_tests)
    go false e = grind (arith, nat_tests)

places_found : (l : Lists) (ask : List ℕ) (from to : ℕ) → PlacesStand l ask from to → PlacesFound l ask from to
places_found l ask from to s = record { rises = s.rises; within = s.within; just = λ k b. begins_along l ask k ∙ just k b }
  where
    just : (k : ℕ) → k < length l.places → (along_at l ask k == 1) ≡ nat_le from k && nat_lt k to
    just k b =
        let f : k < from → along_at l ask k ≡ 0 = (λ p. ap along (s.front k p)) in
        let g : from ≤ k → k < to → along_at l ask k ≡ 1 = (λ p q. ap along (s.part k p q)) in
        let h : to ≤ k → along_at l ask k ≡ 2 = (λ p. ap along (s.behind k p b)) in
        grind (arith, nat_tests)

-- the part that is where it was found
pub part_at : (right : Bool) (l : Lists) (ask : List ℕ) (from to : ℕ) → FoundAt right l ask from to → Found right l ask (slice_range l.places from to)
part_at true l ask from to s =
    let e = places_found l ask from to s in
    let w = e.within in
    let r = e.rises in
    let d = length-drop from l.places in
    let n : from + length (slice_range l.places from to) ≡ to = grind (arith, length-take) in
    (from, rw n e, rw n)
part_at false l ask from to e = rw (e.0, e.1)

pub through : (right : Bool) (l : Lists) (ask part : List ℕ) → Found right l ask part → part ≡ looked_through right l ask
through true l ask part f = sym (part_filtered l ask part f)
through false l ask part f = f
