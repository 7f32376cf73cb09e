-- A name's pieces in other words: the only reading of it.
use Rattle.std.proofs.Common.{◌≡◌, ℕ, zero, suc, ◌<◌, ◌≤◌, inl, inr, Bool, true, false, cond, List, [], ◌∷◌, ◌++◌, length, map, get_or, take, drop, sym, refl, ap, ap₂, ◌∙◌, arith}
use Rattle.std.proofs.Math.Seq.{drop-append_seam, take-append_seam}
use Rattle.std.proofs.lemmas.Bool.{true≢false}
use Rattle.std.proofs.lemmas.List.{length-append, length-drop, length-take-le, take-append-drop}
use Rattle.table.proofs.Lawful.{lent_pairs, runs_fit}
use Rattle.keys.specs.Laws.{IsPiece, OneReading, NoneExpands, OnlyPairs, PlainRead, PairsRead, Reads, RunsFit, SameReading, TablesFit, pair_pieces}
use Rattle.keys.specs.declared.level.Level.{Level}
use Rattle.table.specs.Rules.{Rules}
use Rattle.keys.specs.Letters.{letters_in}
use Rattle.keys.specs.Pieces.{met, pieces, pieces_behind, taken, together}
use Rattle.keys.specs.Rows.{on, row, row_of, weighed, weight, without_zeros}
use Rattle.keys.proofs.Pieces.{by_taken, met_fits, met_short, met_there, one_piece, taken_fits, taken_one, taken_piece, taken_some, taken_two}

module _ (j : List ℕ → Bool) where
  -- no longer run is met than what is taken
  taken_most : (i : ℕ) (n : List ℕ) → 2 ≤ i → i ≤ 4 → met j i n ≡ true → i ≤ taken j n
  taken_most i n l m e =
      by_taken j n (λ k. i ≤ k) (λ a. m) (λ a b. go 4 a (λ q. omega arith)) (λ a b c. go 4 a (λ q. go 3 b (λ r. omega arith))) (λ a b c. go 4 a (λ q. go 3 b (λ r. go 2 c (λ s. omega arith))))
    where
      go : {P : Type 0} (k : ℕ) → met j k n ≡ false → ((i ≡ k → ⊥) → P) → P
      go k a f = f (λ q. true≢false (sym (ap (λ x. met j x n) (sym q) ∙ e) ∙ a))

  -- a run in front is met
  met_front : (run rest n : List ℕ) → j run ≡ true → n ≡ run ++ rest → met j (length run) n ≡ true
  met_front run rest n h e =
      let l = length-append run rest in
      let m = ap length e in
      met_there j (length run) n (omega arith) ∙ (ap (λ x. j (take (length run) x)) e ∙ (ap j (take-append_seam run rest) ∙ h))

  -- the reading without its first piece
  later : (n : List ℕ) (p : List ℕ) (ps : List (List ℕ)) → Reads j n (p ∷ ps) → Reads j (together ps) ps
  unfolding together
  later n p ps r = record { whole = refl; each = λ k h. r.each (suc k) (omega arith); longest = λ k h. r.longest (suc k) (omega arith) }

  -- a piece in front of a reading
  sooner : (p n : List ℕ) (ps : List (List ℕ)) → IsPiece j p → ((run rest : List ℕ) → j run ≡ true → p ++ n ≡ run ++ rest → length run ≤ length p) → Reads j n ps → Reads j (p ++ n) (p ∷ ps)
  unfolding together
  sooner p n ps e m r = record { whole = ap (λ l. p ++ l) r.whole; each = each; longest = longest }
    where
      each : (k : ℕ) → k < length (p ∷ ps) → IsPiece j (get_or (p ∷ ps) k [])
      each zero h = e
      each (suc k) h = r.each k (omega arith)

      longest : (k : ℕ) → k < length (p ∷ ps) → (run rest : List ℕ) → j run ≡ true → together (drop k (p ∷ ps)) ≡ run ++ rest → length run ≤ length (get_or (p ∷ ps) k [])
      longest zero h run rest u q = m run rest u (ap (λ l. p ++ l) (sym r.whole) ∙ q)
      longest (suc k) h run rest u q = r.longest k (omega arith) run rest u q

  module _ (fit : RunsFit j) where
    -- what is taken in front is a piece, and no longer run is met there
    first_reads : (a : ℕ) (n : List ℕ) → Reads j (drop (taken j (a ∷ n)) (a ∷ n)) (pieces j (drop (taken j (a ∷ n)) (a ∷ n))) → Reads j (a ∷ n) (pieces j (a ∷ n))
    first_reads a n r =
        let k = taken j (a ∷ n) in
        let p = take k (a ∷ n) in
        let q = drop k (a ∷ n) in
        let whole = take-append-drop k (a ∷ n) in
        let l = length-take-le k (a ∷ n) (taken_fits j a n) in
        let s = sooner p q (pieces j q) (taken_piece j a n (IsPiece j) (λ b. inl refl) (λ run e. inr e))
        (λ run rest h e. let f = fit run h in let m = taken_most (length run) (a ∷ n) f.0 f.1 (met_front run rest (a ∷ n) h (sym whole ∙ e)) in omega arith) r in
        read_as (p ++ q) (a ∷ n) (p ∷ pieces j q) (pieces j (a ∷ n)) whole (sym (one_piece j a n)) s
      where
        read_as : (n m : List ℕ) (ps qs : List (List ℕ)) → n ≡ m → ps ≡ qs → Reads j n ps → Reads j m qs
        read_as n m ps qs e f r = rw (← e, ← f) r

    reads_to : (m : ℕ) (n : List ℕ) → length n ≤ m → Reads j n (pieces j n)
    unfolding pieces_behind together
    reads_to m [] l = record { whole = refl; each = λ k h. absurd (omega arith); longest = λ k h. absurd (omega arith) }
    reads_to zero (a ∷ n) l = absurd (omega arith)
    reads_to (suc m) (a ∷ n) l =
        let k = taken j (a ∷ n) in
        let s = taken_some j (a ∷ n) in
        let d = length-drop k (a ∷ n) in
        first_reads a n (reads_to m (drop k (a ∷ n)) (omega arith))

    -- a piece in front of a reading has as many letters as are taken
    as_many : (n p : List ℕ) (ps : List (List ℕ)) → Reads j n (p ∷ ps) → n ≡ p ++ together ps → taken j n ≡ length p
    unfolding together
    as_many n p ps r e = same (at_most r) (at_least (r.each 0 (omega arith)))
      where
        same : taken j n ≤ length p → length p ≤ taken j n → taken j n ≡ length p
        same l m = omega arith

        run_most : (k : ℕ) → met j k n ≡ true → Reads j n (p ∷ ps) → k ≤ length p
        run_most k h r =
            let f = met_fits j k n h in
            let l = length-take-le k n f.0 in
            let m = r.longest 0 (omega arith) (take k n) (drop k n) f.1 (sym e ∙ sym (take-append-drop k n)) in
            omega arith

        some : IsPiece j p → 1 ≤ length p
        some (inl e) = omega arith
        some (inr e) = let f = fit p e in let l = f.0 in omega arith

        at_most : Reads j n (p ∷ ps) → taken j n ≤ length p
        at_most r = by_taken j n (λ k. k ≤ length p) (λ a. run_most 4 a r) (λ a b. run_most 3 b r) (λ a b c. run_most 2 c r) (λ a b c. some (r.each 0 (omega arith)))

        at_least : IsPiece j p → length p ≤ taken j n
        at_least (inl q) = let s = taken_some j n in omega arith
        at_least (inr q) = let f = fit p q in taken_most (length p) n f.0 f.1 (met_front p (together ps) n q e)

    only : (ps : List (List ℕ)) (n : List ℕ) → Reads j n ps → ps ≡ pieces j n
    unfolding together pieces_behind
    only [] n r = ap (pieces_behind j 0) r.whole
    only (p ∷ ps) n r =
        let ih = only ps (together ps) (later n p ps r) in
        let m = as_many n p ps r (sym r.whole) in
        front n p ps ih m (sym r.whole) (taken_some j n)
      where
        front : (n p : List ℕ) (ps : List (List ℕ)) → ps ≡ pieces j (together ps) → taken j n ≡ length p → n ≡ p ++ together ps → 0 < taken j n → p ∷ ps ≡ pieces j n
        front [] [] ps ih m e s = absurd (omega arith)
        front [] (a ∷ p) ps ih m e s = absurd (let l = ap length e in omega arith)
        front (a ∷ n) p ps ih m e s =
            sym (one_piece j a n ∙ ap₂ (λ x y. x ∷ pieces j y) (ap₂ take m e ∙ take-append_seam p (together ps)) (ap₂ drop m e ∙ drop-append_seam p (together ps)) ∙ ap (λ x. p ∷ x) (sym ih))

pub one_reading : OneReading
one_reading j n fit = (reads_to j fit (length n) n (omega arith), λ ps r. only j fit ps n r)

pub same_reading : SameReading
same_reading j n ps qs fit r s = only j fit ps n r ∙ sym (only j fit qs n s)

pub tables_fit : TablesFit
tables_fit t = runs_fit t

-- where only two letters are one
module _ (j : List ℕ → Bool) (only : OnlyPairs j) where
  pub no_other : (k : ℕ) (n : List ℕ) → (k ≡ 2 → ⊥) → met j k n ≡ false
  no_other k n h = go (met j k n) refl
    where
      go : (b : Bool) → met j k n ≡ b → b ≡ false
      go false e = refl
      go true e =
          absurd (let f = met_fits j k n e in let l = length-take-le k n f.0 in let o = only (take k n) f.1 in h (omega arith))

  pairs_read : (m : ℕ) (n : List ℕ) → length n ≤ m → pieces j n ≡ pair_pieces j n
  unfolding pair_pieces pieces_behind
  pairs_read m [] l = refl
  pairs_read zero (a ∷ n) l = absurd (omega arith)
  pairs_read (suc m) (a ∷ []) l =
      let one = taken_one j (a ∷ []) (no_other 4 (a ∷ []) (λ e. omega arith)) (no_other 3 (a ∷ []) (λ e. omega arith)) (met_short j 2 (a ∷ []) (omega arith)) in
      one_piece j a [] ∙ ap₂ (λ x y. x ∷ pieces j y) (ap (λ k. take k (a ∷ [])) one) (ap (λ k. drop k (a ∷ [])) one)
  pairs_read (suc m) (a ∷ (b ∷ n)) l = go (j (a ∷ (b ∷ []))) refl (pairs_read m n (omega arith)) (pairs_read m (b ∷ n) (omega arith))
    where
      met_two : met j 2 (a ∷ (b ∷ n)) ≡ j (a ∷ (b ∷ []))
      met_two = met_there j 2 (a ∷ (b ∷ n)) (omega arith)

      go : (t : Bool) → j (a ∷ (b ∷ [])) ≡ t → pieces j n ≡ pair_pieces j n → pieces j (b ∷ n) ≡ pair_pieces j (b ∷ n)
          → pieces j (a ∷ (b ∷ n)) ≡ cond t ((a ∷ (b ∷ [])) ∷ pair_pieces j n) ((a ∷ []) ∷ pair_pieces j (b ∷ n))
      go true e two one =
          let ls : List ℕ = a ∷ (b ∷ n) in
          let k = taken_two j ls (no_other 4 ls (λ e. omega arith)) (no_other 3 ls (λ e. omega arith)) (met_two ∙ e) in
          one_piece j a (b ∷ n) ∙ (ap₂ (λ x y. x ∷ pieces j y) (ap (λ k. take k ls) k) (ap (λ k. drop k ls) k) ∙ ap (λ x. (a ∷ (b ∷ [])) ∷ x) two)
      go false e two one =
          let ls : List ℕ = a ∷ (b ∷ n) in
          let k = taken_one j ls (no_other 4 ls (λ e. omega arith)) (no_other 3 ls (λ e. omega arith)) (met_two ∙ e) in
          one_piece j a (b ∷ n) ∙ (ap₂ (λ x y. x ∷ pieces j y) (ap (λ k. take k ls) k) (ap (λ k. drop k ls) k) ∙ ap (λ x. (a ∷ []) ∷ x) one)

pub plain_read : PlainRead
unfolding row row_of weighed
plain_read l t n e = ap without_zeros (one_each (pieces t.joins (letters_in t.utf8 n)))
  where
    one_each : (ps : List (List ℕ)) → map (on l) (weighed t ps) ≡ map (weight l t) ps
    one_each [] = refl
    one_each (p ∷ ps) = ap (λ vs. map (on l) ((t.weighs p ∷ vs) ++ weighed t ps)) (e p) ∙ ap (λ xs. weight l t p ∷ xs) (one_each ps)

row_read : (l : Level) (t : Rules) (n : List ℕ) → OnlyPairs t.joins → NoneExpands t → row l t n ≡ without_zeros (map (weight l t) (pair_pieces t.joins (letters_in t.utf8 n)))
row_read l t n o e = let ls = letters_in t.utf8 n in plain_read l t n e ∙ ap (λ ps. without_zeros (map (weight l t) ps)) (pairs_read t.joins o (length ls) ls (omega arith))

pub pairs_are_read : PairsRead
pairs_are_read = record {
  read = λ j n o. pairs_read j o (length n) n (omega arith);
  rows = row_read;
  lent = λ ls ps n. (lent_pairs ls ps n, λ p. refl);
}
