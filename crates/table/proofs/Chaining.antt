-- Following the chain of a bucket meets the pair that looking at every place would.
use Rattle.std.proofs.Common.{◌||◌, ◌≡◌, ℕ, zero, suc, ◌+◌, ◌%◌, ◌<◌, ◌≤◌, cond, eqb, List, length, get_or, map, set, replicate, Some, None, Option, sym, refl, ap, ◌∙◌, ⊎_elim, add-one, arith, IfSome, true, false}
use Rattle.std.proofs.lemmas.List.FromFn.{length-map-range_with_len, get_or-map-range_with_len}
use Rattle.std.proofs.lemmas.List.{ext_get_or, get_or-map, length-set, get_or-set_same, get_or-set_other, map-set}
use Rattle.std.proofs.lemmas.Bool.{cond-false, cond-true, eq-eqb, ne_eqb, cases_eq}
use Rattle.std.proofs.lemmas.Bool.Decides.{nat_tests}
use Rattle.table.specs.Numbers.{first_at, is_pair, second_at, place_in}
use Rattle.table.specs.Chain.{begun, bucket, bucket_at, counted_place, heads_of, last_in, link_of, marks_of}

-- how many places a chain that begins here may still meet
pub height : Option ℕ → ℕ
height None = 0
height (Some k) = suc k

-- the place of a pair that is looked for along a chain
pub along : List ℕ → Option ℕ → ℕ → ℕ → Option ℕ
along ps at a b = place_in ps (height at) a b

pub bucket_below : (a b : ℕ) → bucket a b < 256
unfolding bucket
bucket_below a b = omega arith

module _ (ps : List ℕ) (h : ℕ) where
  pub last_most : (n : ℕ) → height (last_in ps n h) ≤ n
  unfolding last_in height
  last_most zero = omega arith
  last_most (suc k) = let ih = last_most k in grind (arith, nat_tests)

  -- a chain meets only pairs of its bucket
  pub last_is : (n k : ℕ) → last_in ps n h ≡ Some k → bucket_at ps k ≡ h
  unfolding last_in
  last_is zero k e = grind arith
  last_is (suc n) k e = let ih = last_is n k in grind (arith, nat_tests)

  pub last_bucket : (n : ℕ) → IfSome (last_in ps n h) (λ k. bucket_at ps k ≡ h)
  last_bucket n = go (last_in ps n h) (last_is n)
    where
      go : (at : Option ℕ) → ((k : ℕ) → at ≡ Some k → bucket_at ps k ≡ h) → IfSome at (λ k. bucket_at ps k ≡ h)
      go None e = tt
      go (Some k) e = e k refl

  -- nothing is passed over between a place and the last pair of the bucket before it
  pub skips : (a b n : ℕ) → bucket a b ≡ h → place_in ps n a b ≡ along ps (last_in ps n h) a b
  unfolding last_in place_in along height
  skips a b zero e = refl
  skips a b (suc k) e = let ih = skips a b k e in grind (arith, nat_tests)

  -- a chain is followed to a place: what is looked for is there, or further along
  pub record Follows (n a b : ℕ) (at : Option ℕ) : Type 0 where
    pub low : height at ≤ n
    pub bucket : IfSome at (λ k. bucket_at ps k ≡ h)
    pub same : along ps at a b ≡ place_in ps n a b

  pub follows_head : (n a b : ℕ) → bucket a b ≡ h → Follows n a b (last_in ps n h)
  follows_head n a b e = record { low = last_most n; bucket = last_bucket n; same = sym (skips a b n e) }

  module _ (n a b k : ℕ) (f : Follows n a b (Some k)) where
    here : is_pair ps k a b ≡ true → along ps (Some k) a b ≡ Some k
    unfolding place_in along height
    here e = cond-true _ _ _ e

    onward : bucket a b ≡ h → is_pair ps k a b ≡ false → along ps (Some k) a b ≡ along ps (last_in ps k h) a b
    unfolding place_in along height
    onward e s = cond-false _ _ _ s ∙ skips a b k e

    pub below : k < n
    unfolding height
    below = f.low

    pub found : is_pair ps k a b ≡ true → Some k ≡ place_in ps n a b
    found e = sym (here e) ∙ f.same

    -- what is next in the chain, in place of the chain's own bucket
    next : link_of ps k ≡ last_in ps k h
    next = ap (last_in ps k) f.bucket

    pub link_lower : height (link_of ps k) < height (Some k)
    unfolding height
    link_lower = let l : height (link_of ps k) ≤ k = rw next (last_most k) in omega arith

    pub follows_link : bucket a b ≡ h → is_pair ps k a b ≡ false → Follows n a b (link_of ps k)
    follows_link e s =
        let d = link_lower in
        let l = f.low in
        record { low = omega arith; bucket = rw next (last_bucket k); same = ap (λ o. along ps o a b) next ∙ (sym (onward e s) ∙ f.same) }

pub nowhere : (ps : List ℕ) (h n a b : ℕ) → Follows ps h n a b None → None ≡ place_in ps n a b
unfolding place_in along height
nowhere ps h n a b f = f.same

-- heads and links while pairs are chained one after the other
pub no_heads : (ps : List ℕ) → map counted_place (replicate 256 0) ≡ heads_of ps 0
unfolding last_in counted_place
no_heads ps = refl

-- a place, counted from 1, and back
counted_more : (n : ℕ) → counted_place (n + 1) ≡ Some n
unfolding counted_place
counted_more n = rw add-one

pub head_at : (ps : List ℕ) (n a : ℕ) → a < 256 → get_or (heads_of ps n) a None ≡ last_in ps n a
head_at ps n a h = get_or-map-range_with_len (last_in ps n) 0 256 a a None h (omega arith)

last_more : (ps : List ℕ) (n a : ℕ) → last_in ps (n + 1) a ≡ cond (eqb (bucket_at ps n) a) (Some n) (last_in ps n a)
unfolding last_in
last_more ps n a = rw add-one

head_more : (ps : List ℕ) (n : ℕ) → (a : ℕ) → a < 256 → get_or (set (heads_of ps n) (bucket_at ps n) (Some n)) a None ≡ get_or (heads_of ps (n + 1)) a None
head_more ps n a l =
    let h = bucket_below (first_at ps n) (second_at ps n) in
    let m = last_more ps n a in
    let x = head_at ps n a l in
    let y = head_at ps (n + 1) a l in
    let k = length-map-range_with_len (last_in ps n) 0 256 in
    let i : bucket_at ps n < length (heads_of ps n) = omega arith in
    let same = get_or-set_same (heads_of ps n) (bucket_at ps n) (Some n) None i in
    let other = get_or-set_other (heads_of ps n) (bucket_at ps n) a (Some n) None in
    ⊎_elim
    (λ e. let t = eq-eqb (bucket_at ps n) a (sym e) in rw e (grind (arith, nat_tests)))
    (λ e. let o = other e in let t = ne_eqb (bucket_at ps n) a (λ q. e (sym q)) in grind (arith, nat_tests))
    (cases_eq a (bucket_at ps n))

pub under : (n a m : ℕ) → n ≡ m → a < n → a < m
under n a m e l = omega (arith, e, l)

heads_more : (ps : List ℕ) (n : ℕ) → set (heads_of ps n) (bucket_at ps n) (Some n) ≡ heads_of ps (n + 1)
heads_more ps n =
    let j = length-set (heads_of ps n) (bucket_at ps n) (Some n) in
    let k = length-map-range_with_len (last_in ps n) 0 256 in
    let m = length-map-range_with_len (last_in ps (n + 1)) 0 256 in
    ext_get_or None _ _ (j ∙ k ∙ sym m) (λ a l. head_more ps n a (under _ a 256 (j ∙ k) l))

link_more : (ps links : List ℕ) (n v : ℕ) → n < length links → counted_place v ≡ link_of ps n → ((k : ℕ) → k < n → counted_place (get_or links k 0) ≡ link_of ps k) →
    (k : ℕ) → k < n + 1 → counted_place (get_or (set links n v) k 0) ≡ link_of ps k
link_more ps links n v l e h k m =
    ⊎_elim
    (λ q. rw q (ap counted_place (get_or-set_same links n v 0 l) ∙ e))
    (λ q. ap counted_place (get_or-set_other links n k v 0 q) ∙ h k (omega arith))
    (cases_eq k n)

-- one pair more is chained by one write to each array
pub record Linked (ps : List ℕ) (n : ℕ) (heads links : List ℕ) : Type 0 where
  pub begun : map counted_place heads ≡ heads_of ps n
  pub linked : (k : ℕ) → k < n → counted_place (get_or links k 0) ≡ link_of ps k

pub linked_more :
    (ps : List ℕ) (n : ℕ) (heads links : List ℕ) → length heads ≡ 256 → n < length links → Linked ps n heads links →
    Linked ps (n + 1) (set heads (bucket_at ps n) (n + 1)) (set links n (get_or heads (bucket_at ps n) 0))
linked_more ps n heads links s l h =
    let f = bucket_below (first_at ps n) (second_at ps n) in
    let m = get_or-map counted_place heads (bucket_at ps n) 0 None (omega arith) in
    let a = sym m ∙ (ap (λ hs. get_or hs (bucket_at ps n) None) h.begun ∙ head_at ps n (bucket_at ps n) f) in
    record {
      begun =
          map-set counted_place heads (bucket_at ps n) (n + 1)
          ∙ (ap (set (map counted_place heads) (bucket_at ps n)) (counted_more n) ∙ (ap (λ hs. set hs (bucket_at ps n) (Some n)) h.begun ∙ heads_more ps n));
      linked = link_more ps links n (get_or heads (bucket_at ps n) 0) l a h.linked;
    }

-- a letter that begins no pair
pub none_begun : (ps : List ℕ) (n a b : ℕ) → begun ps n (a % 256) ≡ false → None ≡ place_in ps n a b
unfolding begun place_in
none_begun ps zero a b e = refl
none_begun ps (suc k) a b e = let ih = none_begun ps k a b in let h = ap (λ x. x % 256) {x = first_at ps k} {y = a} in grind (arith, nat_tests)

pub no_marks : (ps : List ℕ) → marks_of ps 0 ≡ replicate 256 false
unfolding begun
no_marks ps = refl

pub mark_at : (ps : List ℕ) (n a : ℕ) → a < 256 → get_or (marks_of ps n) a false ≡ begun ps n a
mark_at ps n a h = get_or-map-range_with_len (begun ps n) 0 256 a a false h (omega arith)

begun_more : (ps : List ℕ) (n a : ℕ) → begun ps (n + 1) a ≡ (eqb (first_at ps n % 256) a || begun ps n a)
unfolding begun
begun_more ps n a = rw (add-one n)

mark_more : (ps : List ℕ) (n : ℕ) → (a : ℕ) → a < 256 → get_or (set (marks_of ps n) (first_at ps n % 256) true) a false ≡ get_or (marks_of ps (n + 1)) a false
mark_more ps n a l =
    let m = begun_more ps n a in
    let x = mark_at ps n a l in
    let y = mark_at ps (n + 1) a l in
    let k = length-map-range_with_len (begun ps n) 0 256 in
    let h : first_at ps n % 256 < 256 = omega arith in
    let same = get_or-set_same (marks_of ps n) (first_at ps n % 256) true false (under _ (first_at ps n % 256) _ (sym k) h) in
    let other = get_or-set_other (marks_of ps n) (first_at ps n % 256) a true false in
    ⊎_elim
    (λ e. let t = eq-eqb (first_at ps n % 256) a (sym e) in rw e (grind (arith, nat_tests)))
    (λ e. let o = other e in let t = ne_eqb (first_at ps n % 256) a (λ q. e (sym q)) in grind (arith, nat_tests))
    (cases_eq a (first_at ps n % 256))

pub marks_more : (ps : List ℕ) (n : ℕ) → set (marks_of ps n) (first_at ps n % 256) true ≡ marks_of ps (n + 1)
marks_more ps n =
    let j = length-set (marks_of ps n) (first_at ps n % 256) true in
    let k = length-map-range_with_len (begun ps n) 0 256 in
    let m = length-map-range_with_len (begun ps (n + 1)) 0 256 in
    ext_get_or false _ _ (j ∙ k ∙ sym m) (λ a l. mark_more ps n a (under _ a 256 (j ∙ k) l))
