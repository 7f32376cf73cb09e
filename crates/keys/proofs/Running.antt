-- The longest run that begins with a letter that was read.
use Rattle.std.proofs.Common.{◌≡◌, ℕ, ◌+◌, ◌<◌, ◌≤◌, false, List, [], ◌∷◌, length, take, drop, Some, None, Bor, refl, sym, ap, ap₂, ◌∙◌, arith}
use Rattle.std.proofs.lemmas.List.{drop-drop}
use Rattle.pieces.specs.declared.piece.Weights.{Weights}
use Rattle.table.specs.Rules.{Rules, contraction}
use Rattle.keys.specs.Letters.{Split, letters_in}
use Rattle.keys.specs.Pieces.{met, taken}
use Rattle.keys.specs.Reading.{PieceAt}
use Rattle.keys.proofs.Lettering.{no_letters, read_first, read_none}
use Rattle.keys.proofs.Pieces.{met_short, met_there, none_joins, one_joins, taken_four, taken_one, taken_three, taken_two}

-- further behind what is behind
pub further_on : (n m l : List ℕ) (i k : ℕ) → m ≡ drop i n → l ≡ drop k m → (j : ℕ) × (l ≡ drop j n)
further_on n m l i k d e = (i + k, e ∙ (ap (drop k) d ∙ drop-drop k i n))

module _ (t : Rules) where
  -- two letters or more do not expand
  abbrev pub RunsAlone : Type 0
  RunsAlone = (p : List ℕ) → 2 ≤ length p → t.expands p ≡ []

  -- what is read first
  pub split_letters : (n : List ℕ) (a : ℕ) (rest : Bor (List ℕ)) → Split t.utf8 n (Some (a, rest)) → letters_in t.utf8 n ≡ a ∷ letters_in t.utf8 rest.now
  split_letters n a rest s = (read_first t.utf8 n a s.0 s.1).0 ∙ ap (λ m. a ∷ letters_in t.utf8 m) (sym s.2)

  pub split_none : (n : List ℕ) → Split t.utf8 n None → letters_in t.utf8 n ≡ []
  split_none n s = ap (letters_in t.utf8) (read_none t.utf8 n s) ∙ no_letters t.utf8

  -- three and four letters, of which two were read
  module _ (a b : ℕ) (ls : List ℕ) where
    abbrev all : List ℕ
    all = a ∷ (b ∷ ls)

    short : (k : ℕ) (ms : List ℕ) → ls ≡ ms → length ms + 2 < k → met t.joins k all ≡ false
    short k ms e l = let m = ap length e in met_short t.joins k all (omega arith)

    pub none_behind : ls ≡ [] → (met t.joins 4 all ≡ false) × (met t.joins 3 all ≡ false)
    none_behind e = (short 4 [] e (omega arith), short 3 [] e (omega arith))

    pub one_behind : (c : ℕ) → ls ≡ c ∷ [] → met t.joins 4 all ≡ false
    one_behind c e = short 4 (c ∷ []) e (omega arith)

    there : (k : ℕ) (ms run : List ℕ) → ls ≡ ms → k ≤ length ms + 2 → take k (a ∷ (b ∷ ms)) ≡ run → met t.joins k all ≡ t.joins run
    there k ms run e l r = let m = ap length e in met_there t.joins k all (omega arith) ∙ ap t.joins (ap (λ x. take k (a ∷ (b ∷ x))) e ∙ r)

    module _ (c d : ℕ) (ms : List ℕ) (e : ls ≡ c ∷ (d ∷ ms)) where
      pub four_not : contraction t (a ∷ (b ∷ (c ∷ (d ∷ [])))) ≡ None → met t.joins 4 all ≡ false
      four_not n = there 4 (c ∷ (d ∷ ms)) (a ∷ (b ∷ (c ∷ (d ∷ [])))) e (omega arith) refl ∙ none_joins t (a ∷ (b ∷ (c ∷ (d ∷ [])))) n

      pub four_met : (w : Weights) → RunsAlone → contraction t (a ∷ (b ∷ (c ∷ (d ∷ [])))) ≡ Some w → PieceAt t all ms w
      four_met w x h =
          let run = a ∷ (b ∷ (c ∷ (d ∷ []))) in
          let o = one_joins t run w h in
          let k = taken_four t.joins all (there 4 (c ∷ (d ∷ ms)) run e (omega arith) refl ∙ o.0) in (
            o.1 ∙ ap t.weighs (sym (ap₂ take k (ap (λ x. a ∷ (b ∷ x)) e))),
            ap t.expands (ap₂ take k (ap (λ x. a ∷ (b ∷ x)) e)) ∙ x run (omega arith),
            sym (ap₂ drop k (ap (λ x. a ∷ (b ∷ x)) e)),
          )

    module _ (c : ℕ) (ms : List ℕ) (e : ls ≡ c ∷ ms) where
      pub three_not : contraction t (a ∷ (b ∷ (c ∷ []))) ≡ None → met t.joins 3 all ≡ false
      three_not n = there 3 (c ∷ ms) (a ∷ (b ∷ (c ∷ []))) e (omega arith) refl ∙ none_joins t (a ∷ (b ∷ (c ∷ []))) n

      pub three_met : (w : Weights) → RunsAlone → met t.joins 4 all ≡ false → contraction t (a ∷ (b ∷ (c ∷ []))) ≡ Some w → PieceAt t all ms w
      three_met w x f h =
          let run = a ∷ (b ∷ (c ∷ [])) in
          let o = one_joins t run w h in
          let k = taken_three t.joins all f (there 3 (c ∷ ms) run e (omega arith) refl ∙ o.0) in (
            o.1 ∙ ap t.weighs (sym (ap₂ take k (ap (λ x. a ∷ (b ∷ x)) e))),
            ap t.expands (ap₂ take k (ap (λ x. a ∷ (b ∷ x)) e)) ∙ x run (omega arith),
            sym (ap₂ drop k (ap (λ x. a ∷ (b ∷ x)) e)),
          )

    -- two letters, or one
    module _ (f : met t.joins 4 all ≡ false) (g : met t.joins 3 all ≡ false) where
      pub two_not : contraction t (a ∷ (b ∷ [])) ≡ None → taken t.joins all ≡ 1
      two_not n = taken_one t.joins all f g (there 2 ls (a ∷ (b ∷ [])) refl (omega arith) refl ∙ none_joins t (a ∷ (b ∷ [])) n)

      pub two_met : (w : Weights) → RunsAlone → contraction t (a ∷ (b ∷ [])) ≡ Some w → PieceAt t all ls w
      two_met w x h =
          let run = a ∷ (b ∷ []) in
          let o = one_joins t run w h in
          let k = taken_two t.joins all f g (there 2 ls run refl (omega arith) refl ∙ o.0) in
          (o.1 ∙ ap (λ i. t.weighs (take i all)) (sym k), ap (λ i. t.expands (take i all)) k ∙ x run (omega arith), ap (λ i. drop i all) (sym k))

  -- one letter that is the last
  pub last_alone : (a : ℕ) (ls : List ℕ) → ls ≡ [] → taken t.joins (a ∷ ls) ≡ 1
  last_alone a ls e =
      let l = ap length e in
      taken_one t.joins (a ∷ ls) (met_short t.joins 4 (a ∷ ls) (omega arith)) (met_short t.joins 3 (a ∷ ls) (omega arith)) (met_short t.joins 2 (a ∷ ls) (omega arith))
