-- Newer tables: what the tests on old pieces say of names.
use Rattle.std.proofs.Common.{◌≡◌, ℕ, zero, suc, ◌-◌, ◌<◌, ◌++◌, slice_index_or, Bool, true, false, ◌&&◌, ◌||◌, ◌==◌, length, take, eqb, List, [], ◌∷◌, map, refl, sym, ap, ap₂, ◌∙◌, arith}
use Rattle.std.specs.List.{list_all}
use Rattle.std.specs.Ordering.{nat_cmp}
use Rattle.std.proofs.lemmas.Bool.{and_parts}
use Rattle.std.proofs.lemmas.Bool.Decides.{nat_tests}
use Rattle.keys.specs.declared.level.Level.{Level}
use Rattle.keys.specs.declared.level.Level.TheVariants.{Primary, Secondary, Tertiary}
use Rattle.keys.specs.Pieces.{pieces, pieces_behind, taken}
use Rattle.keys.specs.Letters.{letters_in}
use Rattle.keys.specs.Rows.{on, row, row_of, weighed, without_zeros}
use Rattle.pieces.specs.declared.piece.Weights.{Weights}
use Rattle.pieces.specs.Runs.{nothing}
use Rattle.keys.proofs.Pieces.{all_taken, same_pieces, taken_piece}
use Rattle.table.specs.Rules.{Rules, triples}
use Rattle.order.specs.Rows.{row_order}
use Rattle.order.specs.Newer.{is_piece, KeepsLevel, Rises, SameMany, SameRuns, Scaled, many, old_piece, weight_at}
use Rattle.order.specs.Laws.{NewerByScales, NewerTables}
use Rattle.order.proofs.Names.{levels}

module _ (old : ℕ → Bool) (t u : Rules) where
  -- old letters have old pieces
  old_behind : (k : ℕ) (n : List ℕ) → list_all old n ≡ true → list_all (old_piece old t) (pieces_behind t.joins k n) ≡ true
  unfolding pieces_behind
  old_behind zero [] o = refl
  old_behind (suc k) [] o = refl
  old_behind (suc k) (a ∷ n) o = old_behind k n (and_parts (old a) (list_all old n) o).1
  old_behind zero (a ∷ n) o =
      let k = taken t.joins (a ∷ n) in
      let p = take k (a ∷ n) in
      let ih = old_behind (k - 1) n (and_parts (old a) (list_all old n) o).1 in
      let q = taken_piece t.joins a n (λ r. is_piece t r ≡ true) (λ b. refl) (λ run e. ap (λ j. length run == 1 || j) e ∙ or_true (length run == 1)) in
      both (old_piece old t p) (list_all (old_piece old t) (pieces_behind t.joins (k - 1) n)) (both (list_all old p) (is_piece t p) (all_taken old k (a ∷ n) o) q) ih
    where
      or_true : (b : Bool) → (b || true) ≡ true
      or_true true = refl
      or_true false = refl

      both : (x y : Bool) → x ≡ true → y ≡ true → (x && y) ≡ true
      both x y e f = rw (e, f) refl

  old_pieces : (n : List ℕ) → list_all old n ≡ true → list_all (old_piece old t) (pieces t.joins n) ≡ true
  old_pieces n o = old_behind 0 n o

  -- a triple of an old piece, under the older table and under the newer
  abbrev Part : Weights → Weights → Type 0
  Part v w = (p : List ℕ) × (old_piece old t p ≡ true) × (i : ℕ) × (i < many t p) × (v ≡ slice_index_or (triples t p) i nothing) × (w ≡ slice_index_or (triples u p) i nothing)

  -- such triples, one behind the other
  abbrev Aligned : (older newer : List Weights) → Type 0
  Aligned [] [] = Unit {0}
  Aligned [] (w ∷ ws) = ⊥
  Aligned (v ∷ vs) [] = ⊥
  Aligned (v ∷ vs) (w ∷ ws) = Part v w × Aligned vs ws

  both_aligned : (vs ws xs ys : List Weights) → Aligned vs ws → Aligned xs ys → Aligned (vs ++ xs) (ws ++ ys)
  both_aligned [] [] xs ys a b = b
  both_aligned [] (w ∷ ws) xs ys a b = absurd a
  both_aligned (v ∷ vs) [] xs ys a b = absurd a
  both_aligned (v ∷ vs) (w ∷ ws) xs ys a b = (a.0, both_aligned vs ws xs ys a.1 b)

  -- those of one piece, as many as there are
  each_aligned : (vs ws : List Weights) → length ws ≡ length vs → ((i : ℕ) → i < length vs → Part (slice_index_or vs i nothing) (slice_index_or ws i nothing)) → Aligned vs ws
  each_aligned [] [] e h = tt
  each_aligned [] (w ∷ ws) e h = absurd (omega arith)
  each_aligned (v ∷ vs) [] e h = absurd (omega arith)
  each_aligned (v ∷ vs) (w ∷ ws) e h = (h 0 (omega arith), each_aligned vs ws (omega arith) (λ i l. h (suc i) (omega arith)))

  module _ (m : (p : List ℕ) → old_piece old t p ≡ true → SameMany t u p) where
    all_aligned : (ps : List (List ℕ)) → list_all (old_piece old t) ps ≡ true → Aligned (weighed t ps) (weighed u ps)
    unfolding weighed
    all_aligned [] o = tt
    all_aligned (p ∷ ps) o =
        let h = and_parts (old_piece old t p) (list_all (old_piece old t) ps) o in
        both_aligned (triples t p) (triples u p) (weighed t ps) (weighed u ps) (each_aligned (triples t p) (triples u p) (m p h.0) (λ i l. (p, h.0, i, l, refl, refl))) (all_aligned ps h.1)

  module _ (l : Level) (k : KeepsLevel old t u l) where
    -- the row of a level that triples make
    abbrev says : List Weights → List ℕ
    says ws = without_zeros (map (on l) ws)

    zero_kept : (v w : Weights) → Part v w → (on l w == 0) ≡ (on l v == 0)
    zero_kept v w (p, o, i, m, e, f) = ap (λ x. on l x == 0) f ∙ (k.zeros p o i m ∙ ap (λ x. on l x == 0) (sym e))

    order_kept : (v w x y : Weights) → Part v w → Part x y → nat_cmp (on l w) (on l y) ≡ nat_cmp (on l v) (on l x)
    order_kept v w x y (p, o, i, m, e, f) (q, r, j, n, g, h) =
        ap₂ (λ a b. nat_cmp (on l a) (on l b)) f h ∙ (k.order p q o r i j m n ∙ ap₂ (λ a b. nat_cmp (on l a) (on l b)) (sym e) (sym g))

    same_order : (vs ws xs ys : List Weights) → Aligned vs ws → Aligned xs ys → row_order (says ws) (says ys) ≡ row_order (says vs) (says xs)
    unfolding without_zeros
    same_order [] [] [] [] a b = refl
    same_order [] (w ∷ ws) xs ys a b = absurd a
    same_order (v ∷ vs) [] xs ys a b = absurd a
    same_order [] [] [] (y ∷ ys) a b = absurd b
    same_order [] [] (x ∷ xs) [] a b = absurd b
    same_order (v ∷ vs) (w ∷ ws) [] (y ∷ ys) a b = absurd b
    same_order (v ∷ vs) (w ∷ ws) (x ∷ xs) [] a b = absurd b
    same_order [] [] (x ∷ xs) (y ∷ ys) a b = let z = zero_kept x y b.0 in let ih = same_order [] [] xs ys tt b.1 in grind arith
    same_order (v ∷ vs) (w ∷ ws) [] [] a b = let z = zero_kept v w a.0 in let ih = same_order vs ws [] [] a.1 tt in grind arith
    same_order (v ∷ vs) (w ∷ ws) (x ∷ xs) (y ∷ ys) a b =
        let i = zero_kept v w a.0 in let z = zero_kept x y b.0 in let c = order_kept v w x y a.0 b.0 in
        let both = same_order vs ws xs ys a.1 b.1 in let left = same_order vs ws (x ∷ xs) (y ∷ ys) a.1 b in let right = same_order (v ∷ vs) (w ∷ ws) xs ys a b.1 in
        grind arith

  letters_keep : SameRuns old t u → ((p : List ℕ) → old_piece old t p ≡ true → SameMany t u p) → (l : Level) → KeepsLevel old t u l → (a b : List ℕ) → list_all old a ≡ true → list_all old b ≡ true
      → row_order (row_of l u a) (row_of l u b) ≡ row_order (row_of l t a) (row_of l t b)
  unfolding row_of
  letters_keep s m l k a b oa ob =
      rw (same_pieces old u.joins t.joins s a oa, same_pieces old u.joins t.joins s b ob)
      (same_order l k (weighed t (pieces t.joins a)) (weighed u (pieces t.joins a)) (weighed t (pieces t.joins b)) (weighed u (pieces t.joins b))
      (all_aligned m (pieces t.joins a) (old_pieces a oa)) (all_aligned m (pieces t.joins b) (old_pieces b ob)))

  -- the letters of a name are the same where both read bytes the same way
  rows_keep : u.utf8 ≡ t.utf8 → SameRuns old t u → ((p : List ℕ) → old_piece old t p ≡ true → SameMany t u p) → (l : Level) → KeepsLevel old t u l → (a b : List ℕ) → list_all old (letters_in t.utf8 a) ≡ true → list_all old (letters_in t.utf8 b) ≡ true
      → row_order (row l u a) (row l u b) ≡ row_order (row l t a) (row l t b)
  unfolding row
  rows_keep e s m l k a b oa ob =
      ap (λ v. row_order (row_of l u (letters_in v a)) (row_of l u (letters_in v b))) e
      ∙ letters_keep s m l k (letters_in t.utf8 a) (letters_in t.utf8 b) oa ob

pub newer_tables : NewerTables
newer_tables old t u k a b oa ob =
    let one = rows_keep old t u k.reads k.runs k.many Primary (k.levels Primary) a b oa ob in
    let two = rows_keep old t u k.reads k.runs k.many Secondary (k.levels Secondary) a b oa ob in
    let three = rows_keep old t u k.reads k.runs k.many Tertiary (k.levels Tertiary) a b oa ob in
    levels u a b ∙ rw (one, two, three) (sym (levels t a b))

module _ (f : ℕ → ℕ) (r : Rises f) where
  same_zero : (x : ℕ) → eqb (f x) 0 ≡ eqb x 0
  same_zero x = let a = r.0 in let b = r.1 0 x in grind (arith, nat_tests)

  same_cmp : (x y : ℕ) → nat_cmp (f x) (f y) ≡ nat_cmp x y
  same_cmp x y = let a = r.1 x y in let b = r.1 y x in grind (arith, nat_tests)

scaled : (old : ℕ → Bool) (t u : Rules) (l : Level) → Scaled old t u l → KeepsLevel old t u l
scaled old t u l (f, g, rf, rg, e) = record {
  zeros = λ p o i m. sym (same_zero g rg (weight_at l u p i)) ∙ (ap (λ x. eqb x 0) (e p i o m) ∙ same_zero f rf (weight_at l t p i));
  order = λ p q o r i j m n. sym (same_cmp g rg (weight_at l u p i) (weight_at l u q j)) ∙ (ap₂ nat_cmp (e p i o m) (e q j r n) ∙ same_cmp f rf (weight_at l t p i) (weight_at l t q j));
}

pub newer_by_scales : NewerByScales
newer_by_scales old t u e s m k = newer_tables old t u (record { reads = e; runs = s; many = m; levels = λ l. scaled old t u l (k l) })
