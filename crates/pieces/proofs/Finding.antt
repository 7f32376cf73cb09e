-- Runs of three and four letters: finding one, and putting one in.
use Rattle.std.proofs.Common.{◌≡◌, ℕ, zero, suc, ◌+◌, ◌<◌, ◌≤◌, ◌⊎◌, Bool, true, false, cond, not, eqb, leb, ltb, ◌&&◌, List, [], ◌∷◌, insert, is_some, length, get_or, drop, Some, None, Option, refl, sym, ap, ap₂, ◌∙◌, ⊎_elim, arith}
use Rattle.std.proofs.lemmas.List.{drop_all, drop_more}
use Rattle.std.specs.List.{slice_get}
use Rattle.std.proofs.lemmas.Option.{none-some, same_Some}
use Rattle.std.proofs.lemmas.Bool.{and_parts, cond-false, cond-true, eqb-true, eq-eqb, le-leb, leb-true, ltb-false, ltb-true, true≢false}
use Rattle.pieces.specs.declared.piece.Long.{Long}
use Rattle.pieces.specs.declared.piece.Weights.{Weights}
use Rattle.pieces.specs.Ranks.{below, put_in, rises}
use Rattle.pieces.specs.Runs.{none_twice, long_letters, long_among, long_rank, nothing, one_or_none, rank_of, same_run}
use Rattle.pieces.proofs.Ranking.{from, from_more}

-- an entry that stands for none, since a place beyond the last one is asked for with something to answer
abbrev pub no_long : Long
no_long = record { run = record { first = 0; second = 0; third = 0; fourth = None }; weights = nothing }

-- the same letters are equal
pub same_equal : (xs ys : List ℕ) → same_run xs ys ≡ true → xs ≡ ys
same_equal [] [] e = refl
same_equal [] (y ∷ ys) e = grind arith
same_equal (x ∷ xs) [] e = grind arith
same_equal (x ∷ xs) (y ∷ ys) e = let p = and_parts (eqb x y) (same_run xs ys) e in ap₂ (λ a b. a ∷ b) (eqb-true x y p.0) (same_equal xs ys p.1)

pub equal_same : (xs : List ℕ) → same_run xs xs ≡ true
equal_same [] = refl
equal_same (x ∷ xs) = let ih = equal_same xs in let e = eq-eqb x x refl in grind arith

-- of another rank there is none with these letters
pub other_rank : (e : Long) (run : List ℕ) → (long_rank e ≡ rank_of run → ⊥) → same_run (long_letters e.run) run ≡ false
other_rank e run h = go (same_run (long_letters e.run) run) refl
  where
    go : (b : Bool) → same_run (long_letters e.run) run ≡ b → b ≡ false
    go false q = refl
    go true q = absurd (h (ap rank_of (same_equal (long_letters e.run) run q)))

-- none that is behind one of a higher rank
none_from : (es : List Long) (run : List ℕ) (a : ℕ) → from long_rank a es ≡ true → rank_of run < a → long_among es run ≡ None
unfolding long_among
none_from [] run a h l = refl
none_from (e ∷ es) run a h l =
    let p = and_parts (leb a (long_rank e)) (from long_rank a es) h in
    let ih = none_from es run a p.1 l in
    let m = leb-true a (long_rank e) p.0 in
    let o = other_rank e run (λ q. omega arith) in
    cond-false _ _ _ o ∙ ih

-- a run is not in front of where its rank begins, and from there on none is of a lower rank
module _ (run : List ℕ) where
  abbrev start : List Long → ℕ
  start es = below long_rank es (rank_of run)

  pub found_behind : (es : List Long) → long_among (drop (start es) es) run ≡ long_among es run
  unfolding below long_among
  found_behind [] = refl
  found_behind (e ∷ es) = go (ltb (long_rank e) (rank_of run)) refl (found_behind es)
    where
      go : (b : Bool) → ltb (long_rank e) (rank_of run) ≡ b → long_among (drop (start es) es) run ≡ long_among es run
          → long_among (drop (cond b (suc (start es)) 0) (e ∷ es)) run ≡ cond (same_run (long_letters e.run) run) (Some e.weights) (long_among es run)
      go false q ih = refl
      go true q ih =
          let m = ltb-true (long_rank e) (rank_of run) q in
          let o = other_rank e run (λ r. omega arith) in
          ih ∙ sym (cond-false _ _ _ o)

  pub from_start : (es : List Long) → rises long_rank es ≡ true → from long_rank (rank_of run) (drop (start es) es) ≡ true
  unfolding below rises
  from_start [] s = refl
  from_start (e ∷ es) s = go (ltb (long_rank e) (rank_of run)) refl (from_start es (and_parts (from long_rank (long_rank e) es) (rises long_rank es) s).1)
    where
      go : (b : Bool) → ltb (long_rank e) (rank_of run) ≡ b → from long_rank (rank_of run) (drop (start es) es) ≡ true → from long_rank (rank_of run) (drop (cond b (suc (start es)) 0) (e ∷ es)) ≡ true
      go false q ih =
          let p = and_parts (from long_rank (long_rank e) es) (rises long_rank es) s in
          let l = ltb-false (long_rank e) (rank_of run) q in
          let m = from_more long_rank (rank_of run) (long_rank e) es p.0 l in
          let b = le-leb (rank_of run) (long_rank e) l in
          grind arith
      go true q ih = ih

  -- where one of another rank stands there is none from there on
  pub ends : (es : List Long) → rises long_rank es ≡ true → (k : ℕ) (d : Long) → k < length es → from long_rank (rank_of run) (drop k es) ≡ true
      → (long_rank (get_or es k d) ≡ rank_of run → ⊥) → long_among (drop k es) run ≡ None
  unfolding rises
  ends [] s k d l f h = absurd (omega arith)
  ends (e ∷ es) s zero d l f h =
      let p = and_parts (from long_rank (long_rank e) es) (rises long_rank es) s in
      let q = and_parts (leb (rank_of run) (long_rank e)) (from long_rank (rank_of run) es) f in
      let m = leb-true (rank_of run) (long_rank e) q.0 in
      let b = le-leb (long_rank e) (long_rank e) (omega arith) in
      none_from (e ∷ es) run (long_rank e) (and_from b p.0) (omega arith)
    where
      and_from : {x y : Bool} → x ≡ true → y ≡ true → (x && y) ≡ true
      and_from a b = grind arith
  ends (e ∷ es) s (suc k) d l f h = ends es (and_parts (from long_rank (long_rank e) es) (rises long_rank es) s).1 k d (omega arith) f h

  -- what stands at a place
  module _ (es : List Long) (k : ℕ) (d : Long) (l : k < length es) where
    pub found_at : same_run (long_letters (get_or es k d).run) run ≡ true → long_among (drop k es) run ≡ Some (get_or es k d).weights
    unfolding long_among
    found_at e = ap (λ xs. long_among xs run) (drop_more es k d l) ∙ cond-true _ _ _ e

    pub passed_at : same_run (long_letters (get_or es k d).run) run ≡ false → long_among (drop k es) run ≡ long_among (drop (k + 1) es) run
    unfolding long_among
    passed_at e = ap (λ xs. long_among xs run) (drop_more es k d l) ∙ cond-false _ _ _ e

    pub from_next : from long_rank (rank_of run) (drop k es) ≡ true → from long_rank (rank_of run) (drop (k + 1) es) ≡ true
    from_next f = (and_parts (leb (rank_of run) (long_rank (get_or es k d))) (from long_rank (rank_of run) (drop (k + 1) es)) (sym (ap (from long_rank (rank_of run)) (drop_more es k d l)) ∙ f)).1

  pub none_left : (es : List Long) (k : ℕ) → length es ≤ k → long_among (drop k es) run ≡ None
  unfolding long_among
  none_left es k l = ap (λ xs. long_among xs run) (drop_all k es l)

-- a run of fewer letters than three, or of more than four, is none of these
pub long_short : (es : List Long) (run : List ℕ) → (length run < 3) ⊎ (4 < length run) → long_among es run ≡ None
unfolding long_among
long_short [] run l = refl
long_short (e ∷ es) run l = cond-false _ _ _ (other (same_run (long_letters e.run) run) refl) ∙ long_short es run l
  where
    most : (o : Option ℕ) → length (one_or_none o) ≤ 1
    most None = omega arith
    most (Some d) = omega arith

    other : (b : Bool) → same_run (long_letters e.run) run ≡ b → b ≡ false
    other false q = refl
    other true q = absurd (let m = ap length (same_equal (long_letters e.run) run q) in let o = most e.run.fourth in ⊎_elim (λ x. omega arith) (λ x. omega arith) l)

-- one more, at its place among the others
module _ (e : Long) where
  abbrev put_long : List Long → List Long
  put_long es = put_in long_rank e es

  pub among_put : (es : List Long) (run : List ℕ) → long_among es (long_letters e.run) ≡ None → long_among (put_long es) run ≡ cond (same_run (long_letters e.run) run) (Some e.weights) (long_among es run)
  unfolding below long_among
  among_put [] run n = refl
  among_put (f ∷ es) run n = go (ltb (long_rank f) (long_rank e)) (same_run (long_letters f.run) (long_letters e.run)) refl n (among_put es run)
    where
      turned : (b c : Bool) (x y : Option Weights) → (b ≡ true → c ≡ false) → cond b x (cond c (Some e.weights) y) ≡ cond c (Some e.weights) (cond b x y)
      turned true true x y h = absurd (let z : ◌≡◌ {A = Bool} true false = h refl in true≢false z)
      turned true false x y h = refl
      turned false c x y h = refl

      go : (a s : Bool) → same_run (long_letters f.run) (long_letters e.run) ≡ s → cond s (Some f.weights) (long_among es (long_letters e.run)) ≡ None
          → (long_among es (long_letters e.run) ≡ None → long_among (put_long es) run ≡ cond (same_run (long_letters e.run) run) (Some e.weights) (long_among es run))
          → long_among (insert (f ∷ es) (cond a (suc (below long_rank es (long_rank e))) 0) e) run
          ≡ cond (same_run (long_letters e.run) run) (Some e.weights) (cond (same_run (long_letters f.run) run) (Some f.weights) (long_among es run))
      go a true q n ih = absurd (none-some f.weights (sym n))
      go true false q n ih =
          ap (λ o. cond (same_run (long_letters f.run) run) (Some f.weights) o) (ih n)
          ∙ turned (same_run (long_letters f.run) run) (same_run (long_letters e.run) run) (Some f.weights) (long_among es run) (λ t. other (same_run (long_letters e.run) run) refl t)
        where
          other : (c : Bool) → same_run (long_letters e.run) run ≡ c → same_run (long_letters f.run) run ≡ true → c ≡ false
          other false r t = refl
          other true r t = absurd (true≢false (sym (ap₂ same_run (same_equal (long_letters f.run) run t) (same_equal (long_letters e.run) run r) ∙ equal_same run) ∙ q))
      go false false q n ih = refl

-- none is there twice
pub all_once : (es : List Long) (e : Long) → none_twice es ≡ true → long_among es (long_letters e.run) ≡ None → none_twice (put_in long_rank e es) ≡ true
unfolding none_twice below long_among
all_once [] e s n = refl
all_once (f ∷ es) e s n = go (ltb (long_rank f) (long_rank e)) (same_run (long_letters f.run) (long_letters e.run)) refl n (and_parts (not (is_some (long_among es (long_letters f.run)))) (none_twice es) s) (all_once es e)
  where
    go : (a t : Bool) → same_run (long_letters f.run) (long_letters e.run) ≡ t → cond t (Some f.weights) (long_among es (long_letters e.run)) ≡ None
        → (not (is_some (long_among es (long_letters f.run))) ≡ true) × (none_twice es ≡ true)
        → (none_twice es ≡ true → long_among es (long_letters e.run) ≡ None → none_twice (put_in long_rank e es) ≡ true)
        → none_twice (insert (f ∷ es) (cond a (suc (below long_rank es (long_rank e))) 0) e) ≡ true
    go a true q n p ih = absurd (none-some f.weights (sym n))
    go true false q n p ih =
        let i = ih p.1 n in
        let w = among_put e es (long_letters f.run) n ∙ cond-false _ _ _ (turned (same_run (long_letters e.run) (long_letters f.run)) refl) in
        let k = ap (λ o. not (is_some o)) w ∙ p.0 in
        grind arith
      where
        turned : (c : Bool) → same_run (long_letters e.run) (long_letters f.run) ≡ c → c ≡ false
        turned false r = refl
        turned true r = absurd (true≢false (sym (ap (λ xs. same_run xs (long_letters e.run)) (sym (same_equal (long_letters e.run) (long_letters f.run) r)) ∙ equal_same (long_letters e.run)) ∙ q))
    go false false q n p ih = let k = ap (λ o. not (is_some o)) n in grind arith

-- each is found, with what it weighs
pub long_listed : (es : List Long) (k : ℕ) (e : Long) → none_twice es ≡ true → slice_get es k ≡ Some e → long_among es (long_letters e.run) ≡ Some e.weights
unfolding none_twice long_among
long_listed [] k e s h = absurd (none-some e h)
long_listed (f ∷ es) zero e s h =
    let q = same_Some f e h in
    ap (λ x. cond (same_run (long_letters f.run) (long_letters x.run)) (Some f.weights) (long_among es (long_letters x.run))) (sym q)
    ∙ (cond-true _ _ _ (equal_same (long_letters f.run)) ∙ ap (λ x. Some x.weights) q)
long_listed (f ∷ es) (suc k) e s h =
    let p = and_parts (not (is_some (long_among es (long_letters f.run)))) (none_twice es) s in
    let ih = long_listed es k e p.1 h in
    cond-false _ _ _ (other (same_run (long_letters f.run) (long_letters e.run)) refl p.0 ih) ∙ ih
  where
    other : (c : Bool) → same_run (long_letters f.run) (long_letters e.run) ≡ c → not (is_some (long_among es (long_letters f.run))) ≡ true → long_among es (long_letters e.run) ≡ Some e.weights → c ≡ false
    other false r n i = refl
    other true r n i = absurd (let z = sym (ap (λ o. not (is_some o)) (ap (long_among es) (same_equal (long_letters f.run) (long_letters e.run) r) ∙ i)) ∙ n in true≢false (sym z))

-- what is found is one of them
pub long_has : (es : List Long) (run : List ℕ) → is_some (long_among es run) ≡ true → (k : ℕ) × (e : Long) × (slice_get es k ≡ Some e) × (run ≡ long_letters e.run)
unfolding long_among
long_has [] run h = absurd (true≢false (sym h))
long_has (e ∷ es) run h = go (same_run (long_letters e.run) run) refl h (long_has es run)
  where
    go : (b : Bool) → same_run (long_letters e.run) run ≡ b → is_some (cond b (Some e.weights) (long_among es run)) ≡ true
        → (is_some (long_among es run) ≡ true → (k : ℕ) × (f : Long) × (slice_get es k ≡ Some f) × (run ≡ long_letters f.run))
        → (k : ℕ) × (f : Long) × (slice_get (e ∷ es) k ≡ Some f) × (run ≡ long_letters f.run)
    go true q h ih = (0, e, refl, sym (same_equal (long_letters e.run) run q))
    go false q h ih = let i = ih h in (suc i.0, i.1, i.2, i.3)
