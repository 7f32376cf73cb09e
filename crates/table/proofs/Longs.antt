-- Longer runs beside letters and pairs.
use Rattle.std.proofs.Common.{◌≡◌, ℕ, zero, suc, ◌+◌, ◌%◌, ◌<◌, Bool, true, false, cond, not, ◌&&◌, ◌||◌, eqb, ltb, List, [], ◌∷◌, ◌++◌, get_or, is_some, length, map, set, Some, None, Option, refl, sym, ap, ap₂, ◌∙◌, inl, ⊎_elim, arith}
use mathlib.Core.Path.{fun_ext}
use Rattle.std.specs.List.{list_all, list_any, range_with_len, slice_get}
use Rattle.std.specs.Option.{unwrap_or}
use Rattle.std.proofs.lemmas.Bool.{and_parts, cases_eq, cond-false, eq-eqb, le-ltb, ltb-false, ne_eqb, or_parts, true≢false}
use Rattle.std.proofs.lemmas.List.{ext_get_or, length-set, get_or-set_same, get_or-set_other}
use Rattle.std.proofs.lemmas.List.Folds.{list_any-append}
use Rattle.std.proofs.lemmas.List.FromFn.{length-map-range_with_len, get_or-map-range_with_len, map-range_with_len_more}
use Rattle.std.proofs.lemmas.Option.{none-some}
use Rattle.pieces.specs.declared.piece.Letter.{Letter}
use Rattle.pieces.specs.declared.piece.Long.{Long}
use Rattle.pieces.specs.declared.piece.LongRun.{LongRun}
use Rattle.pieces.specs.declared.piece.Pair.{Pair}
use Rattle.pieces.specs.declared.piece.Weights.{Weights}
use Rattle.pieces.specs.Ranks.{put_in}
use Rattle.pieces.specs.Runs.{long_among, long_letters, long_rank, same_run}
use Rattle.pieces.proofs.Finding.{among_put, long_has, long_short, same_equal}
use Rattle.table.specs.Chain.{all_marks, begins_with, begun, marks_of}
use Rattle.table.specs.Meaning.{some_begins}
use Rattle.table.specs.Numbers.{first_at, pair_at, pairs_in}
use Rattle.table.specs.Refusals.{known_long, last_letter, unknown_run}
use Rattle.table.specs.Rules.{BeginsNone, Rules, contraction, longs_join, longs_weigh, joins_in, rules_by, with_letter, with_longs, with_pair, with_run}
use Rattle.table.proofs.Chaining.{none_begun, under}
use Rattle.table.proofs.Saying.{last_below, same_rules}

-- ---- what a table says with longer runs beside

module _ (t : Rules) (es : List Long) where
  one_short : (a : ℕ) → long_among es (a ∷ []) ≡ None
  one_short a = long_short es (a ∷ []) (inl (omega arith))

  two_short : (a b : ℕ) → long_among es (a ∷ (b ∷ [])) ≡ None
  two_short a b = long_short es (a ∷ (b ∷ [])) (inl (omega arith))

  pub longs_letter : (a : ℕ) → (with_longs t es).weighs (a ∷ []) ≡ t.weighs (a ∷ [])
  unfolding longs_join longs_weigh
  longs_letter a = ap (λ o. unwrap_or o (t.weighs (a ∷ []))) (one_short a)

  pub longs_pair_joins : (a b : ℕ) → (with_longs t es).joins (a ∷ (b ∷ [])) ≡ t.joins (a ∷ (b ∷ []))
  unfolding longs_join longs_weigh
  longs_pair_joins a b = ap (λ o. is_some o || t.joins (a ∷ (b ∷ []))) (two_short a b)

  pub longs_pair : (a b : ℕ) → contraction (with_longs t es) (a ∷ (b ∷ [])) ≡ contraction t (a ∷ (b ∷ []))
  unfolding longs_join longs_weigh
  longs_pair a b = ap (λ o. cond (is_some o || t.joins (a ∷ (b ∷ []))) (Some (unwrap_or o (t.weighs (a ∷ (b ∷ []))))) None) (two_short a b)

  -- where letters and pairs say nothing, longer runs alone do
  pub longs_alone : (run : List ℕ) → t.joins run ≡ false → contraction (with_longs t es) run ≡ long_among es run
  unfolding longs_join longs_weigh
  longs_alone run e = go (long_among es run)
    where
      go : (o : Option Weights) → cond (is_some o || t.joins run) (Some (unwrap_or o (t.weighs run))) None ≡ o
      go None = cond-false _ _ _ e
      go (Some w) = refl

  pub letter_beside : (a : ℕ) (w : Weights) → with_longs (with_letter t a w) es ≡ with_letter (with_longs t es) a w
  unfolding longs_join longs_weigh
  letter_beside a w = same_rules (with_longs (with_letter t a w) es) (with_letter (with_longs t es) a w) (λ run. refl) weighs (λ run. refl) refl
    where
      weighs : (run : List ℕ) → unwrap_or (long_among es run) (cond (same_run (a ∷ []) run) w (t.weighs run)) ≡ cond (same_run (a ∷ []) run) w (unwrap_or (long_among es run) (t.weighs run))
      weighs [] = refl
      weighs (b ∷ []) = ap (λ o. unwrap_or o (cond (eqb a b && true) w (t.weighs (b ∷ [])))) (one_short b) ∙ sym (ap (λ o. cond (eqb a b && true) w (unwrap_or o (t.weighs (b ∷ [])))) (one_short b))
      weighs (b ∷ (c ∷ run)) = go (eqb a b)
        where
          go : (s : Bool) → unwrap_or (long_among es (b ∷ (c ∷ run))) (cond (s && false) w (t.weighs (b ∷ (c ∷ run)))) ≡ cond (s && false) w (unwrap_or (long_among es (b ∷ (c ∷ run))) (t.weighs (b ∷ (c ∷ run))))
          go true = refl
          go false = refl

  or_turned : (x y z : Bool) → (x || (y || z)) ≡ (y || (x || z))
  or_turned true true z = refl
  or_turned true false z = refl
  or_turned false y z = refl

  pub pair_beside : (p : Pair) → with_longs (with_pair t p) es ≡ with_pair (with_longs t es) p
  unfolding longs_join longs_weigh
  pair_beside p = same_rules (with_longs (with_pair t p) es) (with_pair (with_longs t es) p)
      (λ run. or_turned (is_some (long_among es run)) (same_run (p.first ∷ (p.second ∷ [])) run) (t.joins run)) (λ run. weighs run (same_run (p.first ∷ (p.second ∷ [])) run) refl) (λ run. refl) refl
    where
      weighs : (run : List ℕ) (s : Bool) → same_run (p.first ∷ (p.second ∷ [])) run ≡ s → unwrap_or (long_among es run) (cond s p.weights (t.weighs run)) ≡ cond s p.weights (unwrap_or (long_among es run) (t.weighs run))
      weighs run false e = refl
      weighs run true e = ap (λ o. unwrap_or o p.weights) (sym (ap (long_among es) (same_equal (p.first ∷ (p.second ∷ [])) run e)) ∙ two_short p.first p.second)

  pub long_beside : (e : Long) → long_among es (long_letters e.run) ≡ None → with_longs t (put_in long_rank e es) ≡ with_run (with_longs t es) (long_letters e.run) e.weights
  unfolding longs_join longs_weigh
  long_beside e n = same_rules (with_longs t (put_in long_rank e es)) (with_run (with_longs t es) (long_letters e.run) e.weights) joins weighs (λ run. refl) refl
    where
      at : (s : Bool) (o : Option Weights) (j : Bool) → (is_some (cond s (Some e.weights) o) || j) ≡ (s || (is_some o || j))
      at true o j = refl
      at false o j = refl

      say : (s : Bool) (o : Option Weights) (w : Weights) → unwrap_or (cond s (Some e.weights) o) w ≡ cond s e.weights (unwrap_or o w)
      say true o w = refl
      say false o w = refl

      joins : (run : List ℕ) → (is_some (long_among (put_in long_rank e es) run) || t.joins run) ≡ (same_run (long_letters e.run) run || (is_some (long_among es run) || t.joins run))
      joins run = ap (λ o. is_some o || t.joins run) (among_put e es run n) ∙ at (same_run (long_letters e.run) run) (long_among es run) (t.joins run)

      weighs : (run : List ℕ) → unwrap_or (long_among (put_in long_rank e es) run) (t.weighs run) ≡ cond (same_run (long_letters e.run) run) e.weights (unwrap_or (long_among es run) (t.weighs run))
      weighs run = ap (λ o. unwrap_or o (t.weighs run)) (among_put e es run n) ∙ say (same_run (long_letters e.run) run) (long_among es run) (t.weighs run)

pub no_longs : (t : Rules) → with_longs t [] ≡ t
unfolding long_among longs_join longs_weigh
no_longs t = same_rules (with_longs t []) t (λ run. refl) (λ run. refl) (λ run. refl) refl

-- three and four letters are no pair
pub no_pair_joins : (ps : List ℕ) (n : ℕ) (r : LongRun) → joins_in ps n (long_letters r) ≡ false
unfolding joins_in
no_pair_joins ps n r = refl

-- ---- letters that are known

known_more : (u : Bool) (run : List ℕ) → unknown_run u run ≡ false → unknown_run true run ≡ false
known_more u [] h = refl
known_more u (a ∷ run) h =
    let p = or_parts (ltb (last_letter u) a) (unknown_run u run) h in
    let ih = known_more u run p.1 in
    let l = ltb-false (last_letter u) a p.0 in
    let b = last_below u in
    let m = le-ltb 65535 a (omega arith) in
    grind arith

pub longs_known : (u : Bool) (es : List Long) → list_all (known_long u) es ≡ true → list_all (known_long true) es ≡ true
longs_known u [] h = refl
longs_known u (e ∷ es) h =
    let p = and_parts (known_long u e) (list_all (known_long u) es) h in
    let ih = longs_known u es p.1 in
    let k = ap not (known_more u (long_letters e.run) (not_true (unknown_run u (long_letters e.run)) p.0)) in
    grind arith
  where
    not_true : (b : Bool) → not b ≡ true → b ≡ false
    not_true false h = refl
    not_true true h = absurd (true≢false (sym h))

-- ---- with which letters runs begin

module _ (ps : List ℕ) (n : ℕ) where
  pub mark_there : (es : List Long) (a : ℕ) → a < 256 → get_or (all_marks ps n es) a false ≡ begins_with ps n es a
  mark_there es a h = get_or-map-range_with_len (begins_with ps n es) 0 256 a a false h (omega arith)

  module _ (es : List Long) (e : Long) where
    abbrev r : ℕ
    r = e.run.first % 256

    one_more : (a : ℕ) → begins_with ps n (es ++ e ∷ []) a ≡ (begins_with ps n es a || eqb r a)
    one_more a = ap (λ b. begun ps n a || b) (list_any-append (λ f. eqb (f.run.first % 256) a) es (e ∷ [])) ∙ at (begun ps n a) (list_any (λ f. eqb (f.run.first % 256) a) es) (eqb r a)
      where
        at : (x y z : Bool) → (x || (y || (z || false))) ≡ ((x || y) || z)
        at true y z = refl
        at false true z = refl
        at false false true = refl
        at false false false = refl

    marked_at : (a : ℕ) → a < 256 → get_or (set (all_marks ps n es) r true) a false ≡ get_or (all_marks ps n (es ++ e ∷ [])) a false
    marked_at a l =
        let x = mark_there es a l in
        let y = mark_there (es ++ e ∷ []) a l in
        let m = one_more a in
        let k = length-map-range_with_len (begins_with ps n es) 0 256 in
        let h : r < 256 = omega arith in
        let i : r < length (all_marks ps n es) = omega arith in
        ⊎_elim
        (λ q. let s = get_or-set_same (all_marks ps n es) r true false i in let t = eq-eqb r a (sym q) in rw q (s ∙ sym (rw q at (y ∙ (m ∙ ap (λ b. begins_with ps n es a || b) t ∙ or_true (begins_with ps n es a))))))
        (λ q. get_or-set_other (all_marks ps n es) r a true false q ∙ (x ∙ sym (y ∙ (m ∙ ap (λ b. begins_with ps n es a || b) (ne_eqb r a (λ z. q (sym z))) ∙ or_false (begins_with ps n es a)))))
        (cases_eq a r)
      where
        or_true : (b : Bool) → (b || true) ≡ true
        or_true true = refl
        or_true false = refl

        or_false : (b : Bool) → (b || false) ≡ b
        or_false true = refl
        or_false false = refl

    pub marked_more : set (all_marks ps n es) r true ≡ all_marks ps n (es ++ e ∷ [])
    marked_more =
        let j = length-set (all_marks ps n es) r true in
        let k = length-map-range_with_len (begins_with ps n es) 0 256 in
        let m = length-map-range_with_len (begins_with ps n (es ++ e ∷ [])) 0 256 in
        ext_get_or false _ _ (j ∙ k ∙ sym m) (λ a l. marked_at a (under _ a 256 (j ∙ k) l))

  -- no run begins with a letter that is not marked
  pub none_begins : (u : Bool) (ls : List ℕ) (os : List Letter) (es : List Long) (a : ℕ) → begins_with ps n es (a % 256) ≡ false → BeginsNone (with_longs (rules_by u ls os ps n) es) a
  unfolding joins_in longs_join
  none_begins u ls os es a h run =
      let p = or_parts (begun ps n (a % 256)) (list_any (λ e. eqb (e.run.first % 256) (a % 256)) es) h in
      ap₂ (λ o b. is_some o || b) (none_long es p.1) (no_pair run p.0)
    where
      no_pair : (run : List ℕ) → begun ps n (a % 256) ≡ false → joins_in ps n (a ∷ run) ≡ false
      no_pair [] q = refl
      no_pair (b ∷ []) q = ap is_some (sym (none_begun ps n a b q))
      no_pair (b ∷ (c ∷ run)) q = refl

      none_long : (es : List Long) → list_any (λ e. eqb (e.run.first % 256) (a % 256)) es ≡ false → long_among es (a ∷ run) ≡ None
      none_long es q = go (long_among es (a ∷ run)) refl
        where
          found : (es : List Long) (k : ℕ) (e : Long) → slice_get es k ≡ Some e → list_any (λ f. eqb (f.run.first % 256) (a % 256)) es ≡ false → eqb (e.run.first % 256) (a % 256) ≡ false
          found [] k e g q = absurd (none-some e g)
          found (f ∷ es) zero e g q = let p = or_parts (eqb (f.run.first % 256) (a % 256)) (list_any (λ f. eqb (f.run.first % 256) (a % 256)) es) q in grind arith
          found (f ∷ es) (suc k) e g q = found es k e g (or_parts (eqb (f.run.first % 256) (a % 256)) (list_any (λ f. eqb (f.run.first % 256) (a % 256)) es) q).1

          go : (o : Option Weights) → long_among es (a ∷ run) ≡ o → o ≡ None
          go None e = refl
          go (Some w) e =
              let i = long_has es (a ∷ run) (ap is_some e) in
              let f = found es i.0 i.1 i.2 q in
              let s : i.1.run.first ≡ a = ap (λ xs. get_or xs 0 0) (sym i.3) in
              absurd (let t = eq-eqb (i.1.run.first % 256) (a % 256) (ap (λ x. x % 256) s) in true≢false (sym t ∙ f))

-- what the marks of pairs say of their list
some_pair : (ps : List ℕ) (n a : ℕ) → begun ps n a ≡ list_any (λ p. eqb (p.first % 256) a) (pairs_in ps n)
unfolding begun
some_pair ps zero a = refl
some_pair ps (suc n) a =
    let ih = some_pair ps n a in
    let m = map-range_with_len_more (pair_at ps) 0 n n (omega arith) in
    let s = list_any-append (λ p. eqb (p.first % 256) a) (pairs_in ps n) (pair_at ps n ∷ []) in
    ap (λ b. eqb (first_at ps n % 256) a || b) ih
    ∙ (turned (eqb (first_at ps n % 256) a) (list_any (λ p. eqb (p.first % 256) a) (pairs_in ps n))
    ∙ sym (ap (list_any (λ p. eqb (p.first % 256) a)) (add_one m) ∙ s))
  where
    turned : (x y : Bool) → (x || y) ≡ (y || (x || false))
    turned true true = refl
    turned true false = refl
    turned false true = refl
    turned false false = refl

    add_one : map (pair_at ps) (range_with_len 0 (n + 1)) ≡ pairs_in ps n ++ pair_at ps n ∷ [] → pairs_in ps (suc n) ≡ pairs_in ps n ++ pair_at ps n ∷ []
    add_one e = ap (λ k. pairs_in ps k) {x = suc n} {y = n + 1} (omega arith) ∙ e

pub marks_say : (ps : List ℕ) (n : ℕ) (es : List Long) (a : ℕ) → begins_with ps n es (a % 256) ≡ some_begins (pairs_in ps n) es a
marks_say ps n es a = ap (λ b. b || list_any (λ e. eqb (e.run.first % 256) (a % 256)) es) (some_pair ps n (a % 256))

-- where there are no longer runs the marks are those of pairs
pub no_marks_more : (ps : List ℕ) (n : ℕ) → marks_of ps n ≡ all_marks ps n []
no_marks_more ps n = ap (λ f. map f (range_with_len 0 256)) (fun_ext (λ a. at (begun ps n a)))
  where
    at : (b : Bool) → b ≡ (b || false)
    at true = refl
    at false = refl
