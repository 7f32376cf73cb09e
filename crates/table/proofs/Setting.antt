-- The weights of one letter written over those it had.
use Rattle.std.proofs.Common.{◌≡◌, ℕ, zero, suc, ◌+◌, ◌*◌, ◌<◌, ◌≤◌, Bool, true, false, cond, ltb, ◌≢◌, List, [], ◌∷◌, length, get_or, replicate, set, refl, ap, ◌∙◌, ⊎_elim, add-one, arith}
use Rattle.std.proofs.lemmas.List.{length-set, get_or-set_same, get_or-set_other}
use Rattle.std.proofs.lemmas.Bool.{cases_eq, cond-false, eq-eqb, lt-ltb, ne_eqb}
use Rattle.std.proofs.lemmas.List.Edits.{length-insert}
use Rattle.std.proofs.lemmas.Bool.Decides.{nat_tests}
use Rattle.pieces.specs.declared.piece.Letter.{Letter}
use Rattle.pieces.specs.declared.piece.Weights.{Weights}
use Rattle.table.specs.Numbers.{weights_set}
use Rattle.pieces.specs.Runs.{letter_rank, weights_at, counts, same_run}
use Rattle.table.specs.Buffer.{letters_weighing, many_below}
use Rattle.pieces.specs.Ranks.{below}
use Rattle.table.specs.Rules.{letter_weighs, weighs_in, weights_among, rules_by, with_letter}
use Rattle.table.proofs.Entries.{put, weighs_put}
use Rattle.pieces.proofs.Ranking.{below_most}
use Rattle.table.proofs.Saying.{same_rules, same_weights, zero_weights}

pub length_written : (ls : List ℕ) (i : ℕ) (w : Weights) → length (weights_set ls i w) ≡ length ls
length_written ls i w = simp length-set

module _ (ls : List ℕ) (i : ℕ) (w : Weights) where
  elsewhere : (j : ℕ) → j ≢ i → j ≢ i + 1 → j ≢ i + 2 → get_or (weights_set ls i w) j 0 ≡ get_or ls j 0
  elsewhere j a b c = get_or-set_other _ (i + 2) j _ 0 c ∙ get_or-set_other _ (i + 1) j _ 0 b ∙ get_or-set_other ls i j _ 0 a

  weights_here : i + 2 < length ls → weights_at (weights_set ls i w) i ≡ w
  weights_here l =
      let one = set ls i w.primary in
      let two = set one (i + 1) w.secondary in
      let m : length one ≡ length ls = length-set ls i w.primary in
      let n : length two ≡ length one = length-set one (i + 1) w.secondary in
      same_weights _ w
      (get_or-set_other two (i + 2) i _ 0 (omega arith) ∙ get_or-set_other one (i + 1) i _ 0 (omega arith) ∙ get_or-set_same ls i _ 0 (omega arith))
      (get_or-set_other two (i + 2) (i + 1) _ 0 (omega arith) ∙ get_or-set_same one (i + 1) _ 0 (omega arith))
      (get_or-set_same two (i + 2) _ 0 (omega arith))

weights_elsewhere : (ls : List ℕ) (a b : ℕ) (w : Weights) → a ≢ b → weights_at (weights_set ls (3 * a) w) (3 * b) ≡ weights_at ls (3 * b)
weights_elsewhere ls a b w h =
    same_weights _ _
    (elsewhere ls (3 * a) w (3 * b) (omega arith) (omega arith) (omega arith))
    (elsewhere ls (3 * a) w (3 * b + 1) (omega arith) (omega arith) (omega arith))
    (elsewhere ls (3 * a) w (3 * b + 2) (omega arith) (omega arith) (omega arith))

-- one number more passes the test
many_same : (f g : ℕ → Bool) (n : ℕ) → ((b : ℕ) → b < n → g b ≡ f b) → many_below g n ≡ many_below f n
unfolding many_below
many_same f g zero h = refl
many_same f g (suc n) h = let ih = many_same f g n (λ b l. h b (omega arith)) in let e = h n (omega arith) in rw (ih, e)

many_more : (f g : ℕ → Bool) (a : ℕ) → f a ≡ false → g a ≡ true → ((b : ℕ) → a ≢ b → g b ≡ f b) → (n : ℕ) → a < n → many_below g n ≡ many_below f n + 1
unfolding many_below
many_more f g a x y h zero l = absurd (omega arith)
many_more f g a x y h (suc n) l =
    ⊎_elim
    (λ e. let q : many_below g n ≡ many_below f n = many_same f g n (λ b m. h b (omega (arith, e, m))) in rw (q, ← e, x, y) (omega arith))
    (λ e. let q : many_below g n ≡ many_below f n + 1 = many_more f g a x y h n (omega (arith, l, e)) in let r = h n e in rw (q, r) (omega arith))
    (cases_eq a n)

many_none : (f : ℕ → Bool) (n : ℕ) → ((b : ℕ) → f b ≡ false) → many_below f n ≡ 0
unfolding many_below
many_none f zero h = refl
many_none f (suc n) h = let ih = many_none f n h in let e = h n in rw (ih, e)

pub many_most : (f : ℕ → Bool) (n : ℕ) → many_below f n ≤ n
unfolding many_below
many_most f zero = omega arith
many_most f (suc n) = let ih = many_most f n in grind (arith, nat_tests)

pub none_below : (f : ℕ → Bool) → many_below f 0 ≡ 0
unfolding many_below
none_below f = refl

pub many_next : (f : ℕ → Bool) (n : ℕ) → many_below f (n + 1) ≡ many_below f n + cond (f n) 1 0
unfolding many_below
many_next f n = rw (add-one n)

-- where there are only zeros no letter weighs anything
pub none_weigh : letters_weighing (replicate 768 0) [] ≡ 0
none_weigh =
    let e = many_none (λ a. counts (weights_at (replicate 768 0) (3 * a))) 256 (λ b. ap counts (zero_weights (3 * b))) in
    omega arith

module _ (u : Bool) (ls : List ℕ) (os : List Letter) (ps : List ℕ) (n : ℕ) where
  -- a letter below 256
  module _ (a : ℕ) (w : Weights) (h : a < 256) (l : length ls ≡ 768) where
    weighs_set : (run : List ℕ) → weighs_in (weights_set ls (3 * a) w) os ps n run ≡ cond (same_run (a ∷ []) run) w (weighs_in ls os ps n run)
    unfolding weighs_in
    weighs_set [] = refl
    weighs_set (b ∷ []) =
        ⊎_elim
        (λ e. let t = eq-eqb a b e in let m = lt-ltb a 256 h in rw (t, ← e, m) (weights_here ls (3 * a) w (omega (arith, h, l))))
        (λ e. let t = ne_eqb a b e in let q = weights_elsewhere ls a b w e in rw (t, q))
        (cases_eq a b)
    weighs_set (b ∷ (c ∷ [])) = grind (arith, nat_tests)
    weighs_set (b ∷ (c ∷ (d ∷ run))) = grind (arith, nat_tests)

    pub letter_set : rules_by u (weights_set ls (3 * a) w) os ps n ≡ with_letter (rules_by u ls os ps n) a w
    letter_set = same_rules (rules_by u (weights_set ls (3 * a) w) os ps n) (with_letter (rules_by u ls os ps n) a w) (λ run. refl) weighs_set (λ run. refl) refl

    -- the other letters weigh what they did
    pub beside_set : (b : ℕ) → (a ≡ b → ⊥) → letter_weighs (weights_set ls (3 * a) w) os b ≡ letter_weighs ls os b
    beside_set b ne = ap (λ x. cond (ltb b 256) x (weights_among os b)) (weights_elsewhere ls a b w ne)

    pub one_more_set : counts w ≡ true → counts (weights_at ls (3 * a)) ≡ false → letters_weighing (weights_set ls (3 * a) w) os ≡ letters_weighing ls os + 1
    one_more_set c f =
        let m = many_more (λ b. counts (weights_at ls (3 * b))) (λ b. counts (weights_at (weights_set ls (3 * a) w) (3 * b))) a f (ap counts (weights_here ls (3 * a) w (omega (arith, h, l))) ∙ c)
        (λ b ne. ap counts (weights_elsewhere ls a b w ne)) 256 h in
        omega arith

  -- another letter
  module _ (e : Letter) (h : 256 ≤ e.letter) where
    weighs_other : (run : List ℕ) → weighs_in ls (put e os) ps n run ≡ cond (same_run (e.letter ∷ []) run) e.weights (weighs_in ls os ps n run)
    unfolding weighs_in
    weighs_other [] = refl
    weighs_other (b ∷ []) = let q = weighs_put e os b in grind (arith, nat_tests)
    weighs_other (b ∷ (c ∷ [])) = grind (arith, nat_tests)
    weighs_other (b ∷ (c ∷ (d ∷ run))) = grind (arith, nat_tests)

    pub other_set : rules_by u ls (put e os) ps n ≡ with_letter (rules_by u ls os ps n) e.letter e.weights
    other_set = same_rules (rules_by u ls (put e os) ps n) (with_letter (rules_by u ls os ps n) e.letter e.weights) (λ run. refl) weighs_other (λ run. refl) refl

    pub beside_other : (b : ℕ) → (e.letter ≡ b → ⊥) → letter_weighs ls (put e os) b ≡ letter_weighs ls os b
    beside_other b ne = ap (λ x. cond (ltb b 256) (weights_at ls (3 * b)) x) (weighs_put e os b ∙ cond-false _ _ _ (ne_eqb e.letter b ne))

    pub one_more_other : letters_weighing ls (put e os) ≡ letters_weighing ls os + 1
    one_more_other = let m = length-insert os (below letter_rank os e.letter) e (below_most letter_rank os e.letter) in omega arith
