-- Letters that are written out leave the first row as it is.
use Rattle.std.proofs.Common.{◌≡◌, ℕ, zero, suc, ◌+◌, ◌<◌, ◌≤◌, ◌⊎◌, inl, inr, Bool, true, false, cond, ◌||◌, eqb, List, [], ◌∷◌, ◌++◌, length, map, get_or, take, drop, subst, ⊎_elim, refl, sym, ap, ap₂, ◌∙◌, arith}
use mathlib.Core.Path.{subst⁻¹}
use Rattle.std.specs.List.{list_any}
use Rattle.std.proofs.Math.Seq.{drop-append_seam, take-append_seam}
use Rattle.std.proofs.lemmas.Bool.{cases_lt, cond-true, cond-false, eq-eqb, eqb-true, true≢false}
use Rattle.std.proofs.lemmas.List.{append-nil, append_assoc, length-append, length-drop, length-take-le, map-append, take-append-drop, take_all}
use Rattle.table.specs.Rules.{Rules, triples}
use Rattle.keys.specs.declared.level.Level.TheVariants.{Primary}
use Rattle.keys.specs.Expansions.{CoversNone, HasNone, SameFirstRow, WeighsAs, written_out}
use Rattle.keys.specs.Letters.{letters_in}
use Rattle.keys.specs.Pieces.{met, pieces, taken}
use Rattle.keys.specs.Rows.{on, row, row_of, weighed, without_zeros}
use Rattle.keys.proofs.Bounding.{zeros_parted}
use Rattle.keys.proofs.Pieces.{by_taken, met_fits, met_there, one_piece, taken_fits, taken_one, taken_some}

module _ (a : ℕ) where
  -- whether the letter is among letters
  abbrev among : List ℕ → Bool
  among ls = list_any (λ x. eqb x a) ls

  -- where it is among the first letters it stands behind fewer, none of which it is
  first_place : (k : ℕ) (ls : List ℕ) → among (take k ls) ≡ true → (f : List ℕ) × (b : List ℕ) × (ls ≡ f ++ (a ∷ b)) × (among f ≡ false) × (length f < k)
  first_place zero ls e = absurd (true≢false (sym e))
  first_place (suc k) [] e = absurd (true≢false (sym e))
  first_place (suc k) (x ∷ ls) e = go (eqb x a) refl (first_place k ls)
    where
      go : (c : Bool) → eqb x a ≡ c → (among (take k ls) ≡ true → (f : List ℕ) × (b : List ℕ) × (ls ≡ f ++ (a ∷ b)) × (among f ≡ false) × (length f < k))
          → (f : List ℕ) × (b : List ℕ) × (x ∷ ls ≡ f ++ (a ∷ b)) × (among f ≡ false) × (length f < suc k)
      go true c later = ([], ls, ap (λ y. y ∷ ls) (eqb-true x a c), refl, omega arith)
      go false c later =
          let h : among (take k ls) ≡ true = grind arith in
          let (f, b, g, o, l) = later h in
          (x ∷ f, b, ap (λ n. x ∷ n) g, grind arith, omega arith)

  module _ (ds : List ℕ) where
    -- letters in front of which none is written out stay as they are
    kept : (p r : List ℕ) → among p ≡ false → written_out a ds (p ++ r) ≡ p ++ written_out a ds r
    unfolding written_out
    kept [] r e = refl
    kept (x ∷ p) r e = let ih = kept p r in grind arith

    all_kept : (p : List ℕ) → among p ≡ false → written_out a ds p ≡ p
    unfolding written_out
    all_kept p e = ap (written_out a ds) (sym (append-nil p)) ∙ (kept p [] e ∙ append-nil p)

    -- the letter itself in front
    replaced : (r : List ℕ) → written_out a ds (a ∷ r) ≡ ds ++ written_out a ds r
    unfolding written_out
    replaced r = cond-true _ _ _ (eq-eqb a a refl)

    module _ (j : List ℕ → Bool) where
      -- no run of so many letters is met where none is one
      unmet : (k : ℕ) (n : List ℕ) → (k ≤ length n → j (take k n) ≡ true → ⊥) → met j k n ≡ false
      unmet k n h = go (met j k n) refl
        where
          go : (b : Bool) → met j k n ≡ b → b ≡ false
          go false e = refl
          go true e = let f = met_fits j k n e in absurd (h f.0 f.1)

      -- the letter is not in what is met in front
      run_free : (n : List ℕ) (k : ℕ) → HasNone j a n → met j k n ≡ true → among (take k n) ≡ false
      run_free n k h e = h [] (take k n) (drop k n) ((met_fits j k n e).1, sym (take-append-drop k n))

      -- behind letters too no run has the letter, and none covers what is written in
      none_later : (p n : List ℕ) → HasNone j a (p ++ n) → HasNone j a n
      none_later p n h before run after (e, g) = h (p ++ before) run after (e, ap (λ m. p ++ m) g ∙ sym (append_assoc p before (run ++ after)))

      covers_later : (p q n : List ℕ) → ((m : List ℕ) → written_out a ds (p ++ m) ≡ q ++ written_out a ds m) → CoversNone j a ds (p ++ n) → CoversNone j a ds n
      covers_later p q n w h front behind before run after e (g, m) =
          let i = length-append q before in
          let k = ap length (w front) ∙ length-append q (written_out a ds front) in
          nearer (length before) (length run) (length (written_out a ds front)) (length ds) (length q) _ _ i k
          (h (p ++ front) behind (q ++ before) run after (ap (λ m. p ++ m) e ∙ sym (append_assoc p front (a ∷ behind))) (g, w n ∙ (ap (λ m. q ++ m) m ∙ sym (append_assoc q before (run ++ after)))))
        where
          nearer : (b r f d q bb ff : ℕ) → bb ≡ q + b → ff ≡ q + f → (bb + r ≤ ff) ⊎ (ff + d ≤ bb) → (b + r ≤ f) ⊎ (f + d ≤ b)
          nearer b r f d q bb ff i k (inl l) = inl (omega arith)
          nearer b r f d q bb ff i k (inr l) = inr (omega arith)

      -- a run of so many letters is met alike where the letter is not among them
      met_free : (k : ℕ) (n : List ℕ) → among (take k n) ≡ false → met j k (written_out a ds n) ≡ met j k n
      met_free k n e = ⊎_elim short enough (cases_lt (length n) k)
        where
          short : length n < k → met j k (written_out a ds n) ≡ met j k n
          short l = ap (met j k) (all_kept n (ap among (sym (take_all k n (omega arith))) ∙ e))

          enough : k ≤ length n → met j k (written_out a ds n) ≡ met j k n
          enough l =
              let p = take k n in
              let q = drop k n in
              let w = ap (written_out a ds) (sym (take-append-drop k n)) ∙ kept p q e in
              let c = length-take-le k n l in
              let d = ap length w ∙ length-append p (written_out a ds q) in
              met_there j k (written_out a ds n) (omega arith)
              ∙ (ap j (ap₂ take (sym c) w ∙ take-append_seam p (written_out a ds q)) ∙ sym (met_there j k n l))

      -- with another letter in front
      module _ (x : ℕ) (ls : List ℕ) (other : eqb x a ≡ false) (none : HasNone j a (x ∷ ls)) (covers : CoversNone j a ds (x ∷ ls)) where
        -- the letter is not the first
        some_front : (f b : List ℕ) → x ∷ ls ≡ f ++ (a ∷ b) → 0 < length f
        some_front [] b e = absurd (true≢false (sym (eq-eqb x a (ap (λ n. get_or n 0 0) e)) ∙ other))
        some_front (y ∷ f) b e = omega arith

        -- the same runs are met, and so as many letters are taken
        same_met : (k : ℕ) → met j k (written_out a ds (x ∷ ls)) ≡ met j k (x ∷ ls)
        same_met k = go (among (take k (x ∷ ls))) refl
          where
            go : (b : Bool) → among (take k (x ∷ ls)) ≡ b → met j k (written_out a ds (x ∷ ls)) ≡ met j k (x ∷ ls)
            go false e = met_free k (x ∷ ls) e
            go true e =
                let (f, b, g, o, l) = first_place k (x ∷ ls) e in
                let w : List ℕ = written_out a ds (x ∷ ls) in
                let c = ap length (all_kept f o) in
                let s = some_front f b g in
                unmet k w
                (λ m r. let d = length-take-le k w m in ⊎_elim (λ u. omega arith) (λ u. omega arith) (covers f b [] (take k w) (drop k w) g (r, sym (take-append-drop k w))))
                ∙ sym (unmet k (x ∷ ls) (λ m r. true≢false (sym e ∙ none [] (take k (x ∷ ls)) (drop k (x ∷ ls)) (r, sym (take-append-drop k (x ∷ ls))))))

        same_taken : taken j (written_out a ds (x ∷ ls)) ≡ taken j (x ∷ ls)
        same_taken = ap₂ (λ a b. cond a 4 b) (same_met 4) (ap₂ (λ a b. cond a 3 b) (same_met 3) (ap (λ a. cond a 2 1) (same_met 2)))

        -- the letter is not among them
        taken_free : among (take (taken j (x ∷ ls)) (x ∷ ls)) ≡ false
        taken_free =
            let n : List ℕ = x ∷ ls in
            by_taken j n (λ k. among (take k n) ≡ false) (λ e. run_free n 4 none e) (λ e f. run_free n 3 none f) (λ e f g. run_free n 2 none g) (λ e f g. grind arith)

        -- the same piece is taken, and what is behind it is written out
        same_piece : pieces j (written_out a ds (x ∷ ls)) ≡ take (taken j (x ∷ ls)) (x ∷ ls) ∷ pieces j (written_out a ds (drop (taken j (x ∷ ls)) (x ∷ ls)))
        unfolding written_out
        same_piece =
            let k = taken j (x ∷ ls) in
            let p = take k (x ∷ ls) in
            let r = written_out a ds (drop k (x ∷ ls)) in
            let w = ap (written_out a ds) (sym (take-append-drop k (x ∷ ls))) ∙ kept p (drop k (x ∷ ls)) taken_free in
            let c = length-take-le k (x ∷ ls) (taken_fits j x ls) in
            ap (pieces j) (cond-false _ _ _ other) ∙ one_piece j x (written_out a ds ls)
            ∙ ap (λ n. take (taken j n) n ∷ pieces j (drop (taken j n) n)) (sym (cond-false _ _ _ other))
            ∙ ap (λ i. take i (written_out a ds (x ∷ ls)) ∷ pieces j (drop i (written_out a ds (x ∷ ls)))) (same_taken ∙ sym c)
            ∙ ap (λ n. take (length p) n ∷ pieces j (drop (length p) n)) w
            ∙ ap₂ (λ u v. u ∷ pieces j v) (take-append_seam p r) (drop-append_seam p r)

      -- where no run is met a letter is taken alone
      alone : (x : ℕ) (n : List ℕ) → ((k : ℕ) → 0 < k → met j k (x ∷ n) ≡ false) → pieces j (x ∷ n) ≡ (x ∷ []) ∷ pieces j n
      alone x n h =
          one_piece j x n
          ∙ ap (λ k. take k (x ∷ n) ∷ pieces j (drop k (x ∷ n))) (taken_one j (x ∷ n) (h 4 (omega arith)) (h 3 (omega arith)) (h 2 (omega arith)))

      -- so is the letter that is written out
      replaced_alone : (ls : List ℕ) → HasNone j a (a ∷ ls) → pieces j (a ∷ ls) ≡ (a ∷ []) ∷ pieces j ls
      replaced_alone ls h = alone a ls none
        where
          none : (k : ℕ) → 0 < k → met j k (a ∷ ls) ≡ false
          none zero l = absurd (omega arith)
          none (suc k) l =
              unmet (suc k) (a ∷ ls)
              (λ m r. true≢false (sym (ap (λ b. b || among (take k ls)) (eq-eqb a a refl)) ∙ h [] (a ∷ take k ls) (drop k ls) (r, ap (λ n. a ∷ n) (sym (take-append-drop k ls)))))

      -- and so is each that is written in
      written_alone : (before es ls : List ℕ) → ds ≡ before ++ es → CoversNone j a ds (a ∷ ls) → pieces j (es ++ written_out a ds ls) ≡ map (λ d. d ∷ []) es ++ pieces j (written_out a ds ls)
      unfolding written_out
      written_alone before [] ls e h = refl
      written_alone before (d ∷ es) ls e h =
          let w = written_out a ds ls in
          let ih = written_alone (before ++ (d ∷ [])) es ls (e ∙ sym (append_assoc before (d ∷ []) es)) h in
          alone d (es ++ w) none ∙ ap (λ ps. (d ∷ []) ∷ ps) ih
        where
          none : (k : ℕ) → 0 < k → met j k (d ∷ (es ++ written_out a ds ls)) ≡ false
          none k l =
              let n : List ℕ = d ∷ (es ++ written_out a ds ls) in
              let c = ap length e ∙ length-append before (d ∷ es) in
              let g = replaced ls ∙ (ap (λ m. m ++ written_out a ds ls) e ∙ append_assoc before (d ∷ es) (written_out a ds ls)) in
              unmet k n
              (λ m r. let q = length-take-le k n m in ⊎_elim (λ u. omega arith) (λ u. omega arith)
              (h [] ls before (take k n) (drop k n) refl (r, g ∙ ap (λ m. before ++ m) (sym (take-append-drop k n)))))

-- the numbers that pieces give the first row
module _ (t : Rules) where
  abbrev numbers : List (List ℕ) → List ℕ
  numbers ps = without_zeros (map (on Primary) (weighed t ps))

  -- of a first piece and of those behind it
  numbers_first : (p : List ℕ) (ps : List (List ℕ)) → numbers (p ∷ ps) ≡ without_zeros (map (on Primary) (triples t p)) ++ numbers ps
  unfolding weighed
  numbers_first p ps = ap without_zeros (map-append (on Primary) (triples t p) (weighed t ps)) ∙ zeros_parted _ _

  numbers_parted : (ps qs : List (List ℕ)) → numbers (ps ++ qs) ≡ numbers ps ++ numbers qs
  unfolding weighed without_zeros
  numbers_parted [] qs = refl
  numbers_parted (p ∷ ps) qs =
      let f = without_zeros (map (on Primary) (triples t p)) in
      numbers_first p (ps ++ qs) ∙ (ap (λ m. f ++ m) (numbers_parted ps qs) ∙ (sym (append_assoc f (numbers ps) (numbers qs)) ∙ ap (λ m. m ++ numbers qs) (sym (numbers_first p ps))))

  module _ (a : ℕ) (ds : List ℕ) (weighs : WeighsAs t a ds) where
    -- written out or not, letters give the same numbers
    abbrev Same : List ℕ → Type 0
    Same ls = numbers (pieces t.joins (written_out a ds ls)) ≡ numbers (pieces t.joins ls)

    -- with the letter in front
    same_with : (ls : List ℕ) → HasNone t.joins a (a ∷ ls) → CoversNone t.joins a ds (a ∷ ls) → Same ls → Same (a ∷ ls)
    same_with ls h c ih =
        let w = written_out a ds ls in
        let singles = map (λ d. d ∷ []) ds in
        ap (λ n. numbers (pieces t.joins n)) (replaced a ds ls)
        ∙ (ap numbers (written_alone a ds t.joins [] ds ls refl c)
        ∙ (numbers_parted singles (pieces t.joins w)
        ∙ (ap₂ (λ m n. m ++ n) (sym weighs) ih
        ∙ (sym (numbers_first (a ∷ []) (pieces t.joins ls)) ∙ ap numbers (sym (replaced_alone a ds t.joins ls h))))))

    -- with another in front
    same_other : (x : ℕ) (ls : List ℕ) → eqb x a ≡ false → HasNone t.joins a (x ∷ ls) → CoversNone t.joins a ds (x ∷ ls) → Same (drop (taken t.joins (x ∷ ls)) (x ∷ ls)) → Same (x ∷ ls)
    same_other x ls o h c ih =
        let k = taken t.joins (x ∷ ls) in
        let p = take k (x ∷ ls) in
        let q = drop k (x ∷ ls) in
        let f = without_zeros (map (on Primary) (triples t p)) in
        ap numbers (same_piece a ds t.joins x ls o h c)
        ∙ (numbers_first p (pieces t.joins (written_out a ds q))
        ∙ (ap (λ m. f ++ m) ih ∙ (sym (numbers_first p (pieces t.joins q)) ∙ ap numbers (sym (one_piece t.joins x ls)))))

    -- letter by letter, at most so many of them
    same_numbers : (m : ℕ) (ls : List ℕ) → length ls ≤ m → HasNone t.joins a ls → CoversNone t.joins a ds ls → Same ls
    unfolding written_out
    same_numbers m [] l h c = refl
    same_numbers zero (x ∷ ls) l h c = absurd (omega arith)
    same_numbers (suc m) (x ∷ ls) l h c = go (eqb x a) refl (λ n s. same_numbers m n s)
      where
        go : (b : Bool) → eqb x a ≡ b → ((n : List ℕ) → length n ≤ m → HasNone t.joins a n → CoversNone t.joins a ds n → Same n) → Same (x ∷ ls)
        go true e ih =
            let q : a ∷ ls ≡ x ∷ ls = ap (λ y. y ∷ ls) (sym (eqb-true x a e)) in
            let h = subst⁻¹ (HasNone t.joins a) q h in
            let c = subst⁻¹ (CoversNone t.joins a ds) q c in
            subst Same q
            (same_with ls h c (ih ls (omega arith) (none_later a ds t.joins (a ∷ []) ls h) (covers_later a ds t.joins (a ∷ []) ds ls (replaced a ds) c)))
        go false e ih =
            let k = taken t.joins (x ∷ ls) in
            let p = take k (x ∷ ls) in
            let q = drop k (x ∷ ls) in
            let f = taken_free a ds t.joins x ls e h c in
            let s = taken_some t.joins (x ∷ ls) in
            let d = length-drop k (x ∷ ls) in
            let g = take-append-drop k (x ∷ ls) in
            same_other x ls e h c
            (ih q (omega arith) (none_later a ds t.joins p q (subst⁻¹ (HasNone t.joins a) g h)) (covers_later a ds t.joins p p q (λ m. kept a ds p m f) (subst⁻¹ (CoversNone t.joins a ds) g c)))

pub same_first_row : SameFirstRow
unfolding row row_of
same_first_row t a ds n m w =
    let ls = letters_in t.utf8 n in
    ap (row_of Primary t) w.letters ∙ same_numbers t a ds w.weighs_as (length ls) ls (omega arith) w.has_none w.covers_none
