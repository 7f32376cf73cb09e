-- Reading one piece at the front of letters.
use Rattle.std.proofs.Common.{◌≡◌, ℕ, zero, suc, ◌-◌, ◌<◌, ◌≤◌, Bool, true, false, cond, ◌&&◌, leb, List, [], ◌∷◌, length, take, drop, Some, None, refl, sym, ap, ap₂, ◌∙◌, arith}
use Rattle.std.specs.List.{list_all}
use Rattle.std.proofs.lemmas.Bool.{and_parts, le-leb, leb-true}
use Rattle.std.proofs.lemmas.Bool.Decides.{nat_tests}
use Rattle.std.proofs.lemmas.Option.{none-some, same_Some}
use Rattle.pieces.specs.declared.piece.Weights.{Weights}
use Rattle.table.specs.Rules.{BeginsNone, Rules, contraction}
use Rattle.keys.specs.Pieces.{met, pieces, pieces_behind, taken}

module _ (j : List ℕ → Bool) where
  -- letters that are too few for a run, or enough
  pub met_short : (k : ℕ) (n : List ℕ) → length n < k → met j k n ≡ false
  met_short k n l = let e : leb k (length n) ≡ false = grind (arith, nat_tests) in rw e refl

  pub met_there : (k : ℕ) (n : List ℕ) → k ≤ length n → met j k n ≡ j (take k n)
  met_there k n l = ap (λ b. b && j (take k n)) (le-leb k (length n) l)

  pub met_fits : (k : ℕ) (n : List ℕ) → met j k n ≡ true → (k ≤ length n) × (j (take k n) ≡ true)
  met_fits k n e = let p = and_parts (leb k (length n)) (j (take k n)) e in (leb-true k (length n) p.0, p.1)

  -- how many are taken, case by case
  pub by_taken : (n : List ℕ) (P : ℕ → Type 0)
      → (met j 4 n ≡ true → P 4) → (met j 4 n ≡ false → met j 3 n ≡ true → P 3) → (met j 4 n ≡ false → met j 3 n ≡ false → met j 2 n ≡ true → P 2)
      → (met j 4 n ≡ false → met j 3 n ≡ false → met j 2 n ≡ false → P 1) → P (taken j n)
  by_taken n P p q r s = go (met j 4 n) (met j 3 n) (met j 2 n) refl refl refl
    where
      go : (a b c : Bool) → met j 4 n ≡ a → met j 3 n ≡ b → met j 2 n ≡ c → P (cond a 4 (cond b 3 (cond c 2 1)))
      go true b c x y z = p x
      go false true c x y z = q x y
      go false false true x y z = r x y z
      go false false false x y z = s x y z

  pub taken_one : (n : List ℕ) → met j 4 n ≡ false → met j 3 n ≡ false → met j 2 n ≡ false → taken j n ≡ 1
  taken_one n a b c = rw (a, b, c) refl

  pub taken_two : (n : List ℕ) → met j 4 n ≡ false → met j 3 n ≡ false → met j 2 n ≡ true → taken j n ≡ 2
  taken_two n a b c = rw (a, b, c) refl

  pub taken_three : (n : List ℕ) → met j 4 n ≡ false → met j 3 n ≡ true → taken j n ≡ 3
  taken_three n a b = rw (a, b) refl

  pub taken_four : (n : List ℕ) → met j 4 n ≡ true → taken j n ≡ 4
  taken_four n a = rw a refl

  pub taken_some : (n : List ℕ) → 0 < taken j n
  taken_some n = by_taken n (λ k. 0 < k) (λ a. omega arith) (λ a b. omega arith) (λ a b c. omega arith) (λ a b c. omega arith)

  pub taken_fits : (a : ℕ) (n : List ℕ) → taken j (a ∷ n) ≤ length (a ∷ n)
  taken_fits a n =
      by_taken (a ∷ n) (λ k. k ≤ length (a ∷ n)) (λ e. (met_fits 4 (a ∷ n) e).0) (λ e f. (met_fits 3 (a ∷ n) f).0) (λ e f g. (met_fits 2 (a ∷ n) g).0) (λ e f g. omega arith)

  -- what is taken is one letter, or a run
  pub taken_piece : (a : ℕ) (n : List ℕ) (P : List ℕ → Type 0) → ((a : ℕ) → P (a ∷ [])) → ((run : List ℕ) → j run ≡ true → P run) → P (take (taken j (a ∷ n)) (a ∷ n))
  taken_piece a n P one run =
      by_taken (a ∷ n) (λ k. P (take k (a ∷ n))) (λ e. run _ (met_fits 4 (a ∷ n) e).1) (λ e f. run _ (met_fits 3 (a ∷ n) f).1) (λ e f g. run _ (met_fits 2 (a ∷ n) g).1) (λ e f g. one a)

  -- letters passed over are letters left out
  pub passed_over : (k : ℕ) (n : List ℕ) → pieces_behind j k n ≡ pieces j (drop k n)
  unfolding pieces_behind
  passed_over zero [] = refl
  passed_over (suc k) [] = refl
  passed_over zero (a ∷ n) = refl
  passed_over (suc k) (a ∷ n) = passed_over k n

  drop_first : (k a : ℕ) (n : List ℕ) → 0 < k → drop k (a ∷ n) ≡ drop (k - 1) n
  drop_first zero a n l = absurd (omega arith)
  drop_first (suc k) a n l = ap (λ i. drop i n) {x = k} {y = suc k - 1} (omega arith)

  pub one_piece : (a : ℕ) (n : List ℕ) → pieces j (a ∷ n) ≡ take (taken j (a ∷ n)) (a ∷ n) ∷ pieces j (drop (taken j (a ∷ n)) (a ∷ n))
  unfolding pieces_behind
  one_piece a n =
      let k = taken j (a ∷ n) in
      ap (λ ps. take k (a ∷ n) ∷ ps) (passed_over (k - 1) n ∙ ap (pieces j) (sym (drop_first k a n (taken_some (a ∷ n)))))

-- what holds of all letters holds of those that are taken
pub all_taken : (old : ℕ → Bool) (k : ℕ) (n : List ℕ) → list_all old n ≡ true → list_all old (take k n) ≡ true
all_taken old zero n o = refl
all_taken old (suc k) [] o = refl
all_taken old (suc k) (a ∷ n) o = let p = and_parts (old a) (list_all old n) o in let ih = all_taken old k n p.1 in grind arith

-- letters that are old have the same pieces where the same runs of old letters are one, and old pieces
module _ (old : ℕ → Bool) (j k : List ℕ → Bool) where
  module _ (s : (run : List ℕ) → list_all old run ≡ true → j run ≡ k run) where
    same_met : (i : ℕ) (n : List ℕ) → list_all old n ≡ true → met j i n ≡ met k i n
    same_met i n o = ap (λ b. leb i (length n) && b) (s (take i n) (all_taken old i n o))

    same_taken : (n : List ℕ) → list_all old n ≡ true → taken j n ≡ taken k n
    same_taken n o = ap₂ (λ a b. cond a 4 b) (same_met 4 n o) (ap₂ (λ a b. cond a 3 b) (same_met 3 n o) (ap (λ a. cond a 2 1) (same_met 2 n o)))

    same_behind : (i : ℕ) (n : List ℕ) → list_all old n ≡ true → pieces_behind j i n ≡ pieces_behind k i n
    unfolding pieces_behind
    same_behind zero [] o = refl
    same_behind (suc i) [] o = refl
    same_behind (suc i) (a ∷ n) o = same_behind i n (and_parts (old a) (list_all old n) o).1
    same_behind zero (a ∷ n) o =
        let p = and_parts (old a) (list_all old n) o in
        let ih = same_behind (taken j (a ∷ n) - 1) n p.1 in
        ap₂ (λ x xs. x ∷ xs) (ap (λ m. take m (a ∷ n)) (same_taken (a ∷ n) o)) (ih ∙ ap (λ m. pieces_behind k (m - 1) n) (same_taken (a ∷ n) o))

    pub same_pieces : (n : List ℕ) → list_all old n ≡ true → pieces j n ≡ pieces k n
    same_pieces n o = same_behind 0 n o

  old_behind : (i : ℕ) (n : List ℕ) → list_all old n ≡ true → list_all (list_all old) (pieces_behind j i n) ≡ true
  unfolding pieces_behind
  old_behind zero [] o = refl
  old_behind (suc i) [] o = refl
  old_behind (suc i) (a ∷ n) o = old_behind i n (and_parts (old a) (list_all old n) o).1
  old_behind zero (a ∷ n) o =
      let ih = old_behind (taken j (a ∷ n) - 1) n (and_parts (old a) (list_all old n) o).1 in
      let h = all_taken old (taken j (a ∷ n)) (a ∷ n) o in
      both (list_all old (take (taken j (a ∷ n)) (a ∷ n))) (list_all (list_all old) (pieces_behind j (taken j (a ∷ n) - 1) n)) h ih
    where
      both : (x y : Bool) → x ≡ true → y ≡ true → (x && y) ≡ true
      both x y e f = rw (e, f) refl

  pub old_pieces : (n : List ℕ) → list_all old n ≡ true → list_all (list_all old) (pieces j n) ≡ true
  old_pieces n o = old_behind 0 n o

-- what a table's answer for a run says
module _ (t : Rules) (run : List ℕ) where
  pub none_joins : contraction t run ≡ None → t.joins run ≡ false
  none_joins e = go (t.joins run) refl e
    where
      go : (b : Bool) → t.joins run ≡ b → cond b (Some (t.weighs run)) None ≡ None → b ≡ false
      go false q e = refl
      go true q e = absurd (none-some (t.weighs run) (sym e))

  pub one_joins : (v : Weights) → contraction t run ≡ Some v → (t.joins run ≡ true) × (v ≡ t.weighs run)
  one_joins v e = go (t.joins run) refl e
    where
      go : (b : Bool) → t.joins run ≡ b → cond b (Some (t.weighs run)) None ≡ Some v → (b ≡ true) × (v ≡ t.weighs run)
      go false q e = absurd (none-some v e)
      go true q e = (refl, sym (same_Some (t.weighs run) v e))

-- a letter with which no run begins is taken alone
pub alone : (t : Rules) (a : ℕ) (n : List ℕ) → BeginsNone t a → taken t.joins (a ∷ n) ≡ 1
alone t a n h = taken_one t.joins (a ∷ n) (none 3) (none 2) (none 1)
  where
    none : (k : ℕ) → met t.joins (suc k) (a ∷ n) ≡ false
    none k = go (leb (suc k) (length (a ∷ n)))
      where
        go : (b : Bool) → (b && t.joins (a ∷ take k n)) ≡ false
        go true = h (take k n)
        go false = refl
