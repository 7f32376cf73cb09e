-- One pair more behind the others.
use Rattle.std.proofs.Common.{◌≡◌, ℕ, zero, suc, ◌+◌, ◌-◌, ◌*◌, ◌/◌, ◌<◌, ◌≤◌, Bool, true, false, cond, not, ◌&&◌, ◌||◌, eqb, ltb, leb, List, [], ◌∷◌, ◌++◌, length, get_or, is_some, Some, None, Option, sym, refl, ap, ◌∙◌, ap₂, add-one, arith}
use Rattle.std.specs.Option.{option_or}
use Rattle.std.proofs.lemmas.List.FromFn.{length-map-range_with_len, get_or-map-range_with_len, map-range_with_len_more}
use Rattle.std.proofs.lemmas.List.{ext_get_or, length-append, get_or_append_left, get_or-append_right}
use Rattle.std.proofs.lemmas.Bool.{eq-eqb, leb-false, ltb-false, or_parts, true≢false}
use Rattle.std.proofs.lemmas.Bool.Decides.{nat_tests}
use Rattle.pieces.specs.declared.piece.Letter.{Letter}
use Rattle.pieces.specs.declared.piece.Pair.{Pair}
use Rattle.table.specs.declared.fault.Refusal.TheVariants.{TooMany, Foreign, Twice}
use Rattle.table.specs.Buffer.{long_refusal, many_runs, pair_refusal}
use Rattle.table.specs.Numbers.{first_at, second_at, pair_at, pairs_in, numbers_of, place_in}
use Rattle.pieces.specs.Runs.{weights_at, same_run, long_among, long_letters, long_rank, none_twice}
use Rattle.table.specs.Refusals.{known_long, unknown_run, first_place, foreign, repeated, refusal_of, at_place, unknown, last_letter}
use Rattle.table.specs.Rules.{Rules, joins_in, longs_join, weighs_in, rules_by, rules_in, with_longs, with_pair, with_run, weights_of}
use Rattle.std.specs.List.{list_all}
use Rattle.std.proofs.lemmas.Option.{none-some}
use Rattle.std.proofs.lemmas.List.Edits.{length-insert}
use Rattle.pieces.specs.declared.piece.Long.{Long}
use Rattle.pieces.specs.declared.piece.Weights.{Weights}
use Rattle.pieces.specs.Ranks.{below, put_in, rises}
use Rattle.pieces.proofs.Finding.{all_once}
use Rattle.pieces.proofs.Ranking.{all_put, below_most, rises_put}
use Rattle.table.specs.declared.fault.Refusal.{Refusal}
use Rattle.table.proofs.Longs.{long_beside, longs_pair_joins, pair_beside}
use Rattle.table.proofs.Places.{place_below}
use Rattle.table.proofs.Saying.{same_rules, same_weights}

first_alike : (f g : ℕ → Bool) (n : ℕ) → ((k : ℕ) → k < n → f k ≡ g k) → first_place f n ≡ first_place g n
unfolding first_place
first_alike f g zero h = refl
first_alike f g (suc n) h = let ih = first_alike f g n (λ k l. h k (omega arith)) in let e = h n (omega arith) in rw (ih, e)

first_more : (f g : ℕ → Bool) (n : ℕ) → ((k : ℕ) → k < n → f k ≡ g k) → first_place g n ≡ None → first_place f (n + 1) ≡ cond (f n) (Some n) None
unfolding first_place
first_more f g n h e = let a = first_alike f g n h ∙ e in rw (add-one, a)

many : (n : ℕ) → ltb 200 (n + 1) ≡ leb 200 n
many n = grind (arith, nat_tests)

module _ (u : Bool) (ps : List ℕ) (n : ℕ) (p : Pair) (fives : length ps ≡ 5 * n) where
  old_number : (i : ℕ) → i < 5 * n → get_or (ps ++ numbers_of p) i 0 ≡ get_or ps i 0
  old_number i l = get_or_append_left ps (numbers_of p) 0 i (omega arith)

  new_number : (i j : ℕ) → i ≡ 5 * n + j → get_or (ps ++ numbers_of p) i 0 ≡ get_or (numbers_of p) j 0
  new_number i j e =
      let d : i - 5 * n ≡ j = omega arith in
      get_or-append_right ps (numbers_of p) (5 * n) i 0 fives (omega arith) ∙ ap (λ k. get_or (numbers_of p) k 0) d

  old_pair : (k : ℕ) → k < n → pair_at (ps ++ numbers_of p) k ≡ pair_at ps k
  old_pair k l = λ i. record {
    first = old_number (5 * k) (omega arith) i;
    second = old_number (5 * k + 1) (omega arith) i;
    weights = old_weights i;
  }
    where
      old_weights : weights_at (ps ++ numbers_of p) (5 * k + 2) ≡ weights_at ps (5 * k + 2)
      old_weights = same_weights _ _ (old_number (5 * k + 2) (omega arith)) (old_number (5 * k + 2 + 1) (omega arith)) (old_number (5 * k + 2 + 2) (omega arith))

  new_weights : weights_at (ps ++ numbers_of p) (5 * n + 2) ≡ p.weights
  new_weights = same_weights _ _ (new_number (5 * n + 2) 2 (omega arith)) (new_number (5 * n + 2 + 1) 3 (omega arith)) (new_number (5 * n + 2 + 2) 4 (omega arith))

  new_pair : pair_at (ps ++ numbers_of p) n ≡ p
  new_pair = λ i. record { first = new_number (5 * n) 0 (omega arith) i; second = new_number (5 * n + 1) 1 (omega arith) i; weights = new_weights i }

  old_place : (m a b : ℕ) → m ≤ n → place_in (ps ++ numbers_of p) m a b ≡ place_in ps m a b
  unfolding place_in
  old_place zero a b l = refl
  old_place (suc m) a b l =
      let ih = old_place m a b (omega arith) in
      let e = ap (λ q. eqb q.first a && eqb q.second b) (old_pair m (omega arith)) in
      rw (ih, e)

  new_place : (a b : ℕ) → place_in (ps ++ numbers_of p) (n + 1) a b ≡ cond (eqb p.first a && eqb p.second b) (Some n) (place_in ps n a b)
  unfolding place_in
  new_place a b =
      let o = old_place n a b (omega arith) in
      let e = ap (λ q. eqb q.first a && eqb q.second b) new_pair in
      rw (add-one, o, e)

  foreign_old : (k : ℕ) → k < n → foreign u (ps ++ numbers_of p) k ≡ foreign u ps k
  foreign_old k l = ap (λ q. unknown u q.first q.second) (old_pair k l)

  foreign_new : foreign u (ps ++ numbers_of p) n ≡ unknown u p.first p.second
  foreign_new = ap (λ q. unknown u q.first q.second) new_pair

  repeated_old : (k : ℕ) → k < n → repeated (ps ++ numbers_of p) k ≡ repeated ps k
  repeated_old k l =
      ap (λ q. is_some (place_in (ps ++ numbers_of p) k q.first q.second)) (old_pair k l)
      ∙ ap is_some (old_place k (first_at ps k) (second_at ps k) (omega arith))

  repeated_new : repeated (ps ++ numbers_of p) n ≡ is_some (place_in ps n p.first p.second)
  repeated_new =
      ap (λ q. is_some (place_in (ps ++ numbers_of p) n q.first q.second)) new_pair
      ∙ ap is_some (old_place n p.first p.second (omega arith))

  pub pairs_more : pairs_in (ps ++ numbers_of p) (n + 1) ≡ pairs_in ps n ++ p ∷ []
  pairs_more =
      map-range_with_len_more (pair_at (ps ++ numbers_of p)) 0 n n (omega arith)
      ∙ ap₂ (λ qs q. qs ++ q ∷ []) old_pairs new_pair
    where
      old_pairs : pairs_in (ps ++ numbers_of p) n ≡ pairs_in ps n
      old_pairs =
          let e = length-map-range_with_len (pair_at (ps ++ numbers_of p)) 0 n in
          let f = length-map-range_with_len (pair_at ps) 0 n in
          ext_get_or p _ _ (e ∙ sym f)
          (λ k l. get_or-map-range_with_len (pair_at (ps ++ numbers_of p)) 0 n k k p (omega arith) (omega arith) ∙ (old_pair k (omega arith) ∙ sym (get_or-map-range_with_len (pair_at ps) 0 n k k p (omega arith) (omega arith))))

  weights_kept : (o : Option ℕ) → ((k : ℕ) → o ≡ Some k → k < n) → weights_of (ps ++ numbers_of p) o ≡ weights_of ps o
  weights_kept None h = refl
  weights_kept (Some k) h = ap (λ q. q.weights) (old_pair k (h k refl))

  pair_weighs : (a b : ℕ) → weights_of (ps ++ numbers_of p) (place_in (ps ++ numbers_of p) (n + 1) a b) ≡ cond (eqb p.first a && (eqb p.second b && true)) p.weights (weights_of ps (place_in ps n a b))
  pair_weighs a b =
      let e = new_place a b in
      let w = new_weights in
      let k = weights_kept (place_in ps n a b) (λ k q. place_below ps n a b k q) in
      rw e (go (eqb p.first a) (eqb p.second b) w k)
    where
      go : (x y : Bool) → weights_at (ps ++ numbers_of p) (5 * n + 2) ≡ p.weights → weights_of (ps ++ numbers_of p) (place_in ps n a b) ≡ weights_of ps (place_in ps n a b) →
          weights_of (ps ++ numbers_of p) (cond (x && y) (Some n) (place_in ps n a b)) ≡ cond (x && (y && true)) p.weights (weights_of ps (place_in ps n a b))
      go true true w k = w
      go true false w k = k
      go false true w k = k
      go false false w k = k

  module _ (ls : List ℕ) (os : List Letter) where
    joins_more : (run : List ℕ) → joins_in (ps ++ numbers_of p) (n + 1) run ≡ (same_run (p.first ∷ (p.second ∷ [])) run || joins_in ps n run)
    unfolding joins_in
    joins_more [] = refl
    joins_more (a ∷ []) = grind (arith, nat_tests)
    joins_more (a ∷ (b ∷ [])) = let e = new_place a b in rw e (grind (arith, nat_tests))
    joins_more (a ∷ (b ∷ (c ∷ run))) = grind (arith, nat_tests)

    weighs_more : (run : List ℕ) → weighs_in ls os (ps ++ numbers_of p) (n + 1) run ≡ cond (same_run (p.first ∷ (p.second ∷ [])) run) p.weights (weighs_in ls os ps n run)
    unfolding weighs_in
    weighs_more [] = refl
    weighs_more (a ∷ []) = grind (arith, nat_tests)
    weighs_more (a ∷ (b ∷ [])) = pair_weighs a b
    weighs_more (a ∷ (b ∷ (c ∷ run))) = grind (arith, nat_tests)

    pub rules_more : rules_by u ls os (ps ++ numbers_of p) (n + 1) ≡ with_pair (rules_by u ls os ps n) p
    rules_more = same_rules (rules_by u ls os (ps ++ numbers_of p) (n + 1)) (with_pair (rules_by u ls os ps n) p) joins_more weighs_more (λ run. refl) refl

-- the numbers of a table of bytes with the pair behind are turned away just as the pair is
module _ (ls ps : List ℕ) (n : ℕ) (p : Pair) (fives : length ps ≡ 5 * n) where
  pub refusal_more : length ls ≡ 768 → first_place (foreign false ps) n ≡ None → first_place (repeated ps) n ≡ None →
      refusal_of ls (ps ++ numbers_of p) (n + 1) ≡ pair_refusal (rules_in ls ps n) n p
  unfolding refusal_of joins_in
  refusal_more whole known apart =
      let l = length-append ps (numbers_of p) in
      let f = first_more (foreign false (ps ++ numbers_of p)) (foreign false ps) n (foreign_old false ps n p fives) known ∙ ap (λ t. cond t (Some n) None) (foreign_new false ps n p fives) in
      let r = first_more (repeated (ps ++ numbers_of p)) (repeated ps) n (repeated_old false ps n p fives) apart ∙ ap (λ t. cond t (Some n) None) (repeated_new false ps n p fives) in
      let i = eq-eqb (length ls) 768 whole in
      let j = eq-eqb (length (ps ++ numbers_of p)) (5 * (n + 1)) (omega arith) in
      rw (i, j, f, r) (go (unknown false p.first p.second) (is_some (place_in ps n p.first p.second)) (many n))
    where
      at : (m x y : Bool) →
          option_or (cond m (Some TooMany) None) (at_place Foreign (cond x (Some n) None) (at_place Twice (cond y (Some n) None) None))
          ≡ cond m (Some TooMany) (cond x (Some (Foreign n)) (cond y (Some (Twice n)) None))
      at true x y = refl
      at false true y = refl
      at false false true = refl
      at false false false = refl

      go : (x y : Bool) → ltb 200 (n + 1) ≡ leb 200 n →
          option_or (cond (ltb 200 (n + 1)) (Some TooMany) None) (at_place Foreign (cond x (Some n) None) (at_place Twice (cond y (Some n) None) None))
          ≡ cond (leb 200 n) (Some TooMany) (cond x (Some (Foreign n)) (cond y (Some (Twice n)) None))
      go x y e = rw e (at (leb 200 n) x y)

-- a refusal of three tests that is none
pub none_of_three : (a b c : Bool) (x y z : Refusal) → cond a (Some x) (cond b (Some y) (cond c (Some z) None)) ≡ None → (a ≡ false) × (b ≡ false) × (c ≡ false)
none_of_three true b c x y z e = absurd (none-some x (sym e))
none_of_three false true c x y z e = absurd (none-some y (sym e))
none_of_three false false true x y z e = absurd (none-some z (sym e))
none_of_three false false false x y z e = (refl, refl, refl)

-- what the numbers of pairs of a table that owns them are, where it has so many longer runs
pub record KeptPairs (u : Bool) (ps : List ℕ) (m : ℕ) : Type 0 where
  pub fives : length ps ≡ 5 * (length ps / 5)
  pub few : length ps / 5 + m ≤ 200
  pub known : first_place (foreign u ps) (length ps / 5) ≡ None
  pub apart : first_place (repeated ps) (length ps / 5) ≡ None

module _ (u : Bool) (ls : List ℕ) (os : List Letter) (ps : List ℕ) (es : List Long) (p : Pair) (kept : KeptPairs u ps (length es)) where
  fifth_more : length (ps ++ numbers_of p) / 5 ≡ length ps / 5 + 1
  fifth_more = let l = length-append ps (numbers_of p) in omega arith

  abbrev said : Rules
  said = rules_by u ls os ps (length ps / 5)

  pub rules_added : with_longs (rules_by u ls os (ps ++ numbers_of p) (length (ps ++ numbers_of p) / 5)) es ≡ with_pair (with_longs said es) p
  rules_added = ap (λ t. with_longs t es) (let e = fifth_more in rw e (rules_more u ps _ p kept.fives ls os)) ∙ pair_beside said es p

  pub pairs_added : pairs_in (ps ++ numbers_of p) (length (ps ++ numbers_of p) / 5) ≡ pairs_in ps (length ps / 5) ++ p ∷ []
  pairs_added = let e = fifth_more in rw e (pairs_more u ps _ p kept.fives)

  -- what a pair that is taken is
  abbrev Free : Type 0
  Free = (length ps / 5 + length es < 200) × (unknown u p.first p.second ≡ false) × (is_some (place_in ps (length ps / 5) p.first p.second) ≡ false)

  module _ (e : pair_refusal (with_longs said es) (many_runs (pairs_in ps (length ps / 5)) es) p ≡ None) where
    free : Free
    unfolding joins_in
    free =
        let n = length-map-range_with_len (pair_at ps) 0 (length ps / 5) in
        let t = none_of_three _ _ _ _ _ _ e in
        let l = leb-false 200 (many_runs (pairs_in ps (length ps / 5)) es) t.0 in
        (omega arith, t.1, sym (longs_pair_joins said es p.first p.second) ∙ t.2)

    pub pair_below : (p.first ≤ last_letter u) × (p.second ≤ last_letter u)
    pair_below =
        let f = or_parts _ _ free.1 in
        (ltb-false (last_letter u) p.first f.0, ltb-false (last_letter u) p.second f.1)

    pub kept_added : KeptPairs u (ps ++ numbers_of p) (length es)
    kept_added =
        let f = free in
        let n = length ps / 5 in
        let l = length-append ps (numbers_of p) in
        let k = first_more (foreign u (ps ++ numbers_of p)) (foreign u ps) n (foreign_old u ps n p kept.fives) kept.known in
        let r = first_more (repeated (ps ++ numbers_of p)) (repeated ps) n (repeated_old u ps n p kept.fives) kept.apart in
        let m = fifth_more in
        record {
          fives = (let d = kept.fives in omega arith);
          few = (let d = f.0 in omega arith);
          known = rw m (k ∙ rw (foreign_new u ps n p kept.fives, f.1) refl);
          apart = rw m (r ∙ rw (repeated_new u ps n p kept.fives, f.2) refl);
        }

    -- whether it was added or not
    pub kept_after : (qs : List ℕ) (done : Bool) → qs ≡ cond done (ps ++ numbers_of p) ps → KeptPairs u qs (length es)
    kept_after qs true q = rw q kept_added
    kept_after qs false q = rw q kept

-- what the longer runs of a table that owns them are, where it has so many pairs
pub record KeptLongs (u : Bool) (n : ℕ) (es : List Long) : Type 0 where
  pub few : n + length es ≤ 200
  pub rise : rises long_rank es ≡ true
  pub apart : none_twice es ≡ true
  pub known : list_all (known_long u) es ≡ true

-- one longer run more, at its place among the others
module _ (u : Bool) (ls : List ℕ) (os : List Letter) (ps : List ℕ) (es : List Long) (e : Long) (kept : KeptLongs u (length ps / 5) es) where
  abbrev stated : Rules
  stated = rules_by u ls os ps (length ps / 5)

  module _ (h : long_refusal (with_longs stated es) (many_runs (pairs_in ps (length ps / 5)) es) e ≡ None) where
    pub long_free : (length ps / 5 + length es < 200) × (unknown_run u (long_letters e.run) ≡ false) × (long_among es (long_letters e.run) ≡ None)
    unfolding longs_join
    long_free =
        let n = length-map-range_with_len (pair_at ps) 0 (length ps / 5) in
        let t = none_of_three _ _ _ _ _ _ h in
        let l = leb-false 200 (many_runs (pairs_in ps (length ps / 5)) es) t.0 in
        (omega arith, t.1, none_among (long_among es (long_letters e.run)) (or_parts (is_some (long_among es (long_letters e.run))) _ t.2).0)
      where
        none_among : (o : Option Weights) → is_some o ≡ false → o ≡ None
        none_among None q = refl
        none_among (Some w) q = absurd (true≢false q)

    pub long_added : with_longs stated (put_in long_rank e es) ≡ with_run (with_longs stated es) (long_letters e.run) e.weights
    long_added = long_beside stated es e long_free.2

    pub longs_after : (fs : List Long) (done : Bool) → fs ≡ cond done (put_in long_rank e es) es → KeptLongs u (length ps / 5) fs
    longs_after fs true q =
        let f = long_free in
        let l = length-insert es (below long_rank es (long_rank e)) e (below_most long_rank es (long_rank e)) in
        rw q (record {
          few = (let d = f.0 in omega arith);
          rise = rises_put long_rank e es kept.rise;
          apart = all_once es e kept.apart f.2;
          known = all_put long_rank e (known_long u) es (ap not f.1) kept.known;
        })
    longs_after fs false q = rw q kept
