-- The parts of a text, joined, are the text; and the parts of two texts with the mark between.
use Rattle.std.proofs.Common.{◌≡◌, ℕ, zero, suc, ◌<◌, ◌⊎◌, inl, inr, Bool, true, false, cond, eqb, List, [], ◌∷◌, ◌++◌, length, refl, arith}
use Rattle.std.proofs.lemmas.Bool.{eq-eqb, ne_eqb, cases_eq}
use Rattle.std.proofs.lemmas.List.Elements.{All-nil, All-cons, All-head, All-tail}
use Rattle.std.proofs.lemmas.List.Splits.{join_with_byte-slice_split}
use Rattle.std.specs.List.{All, onto_first}
use Rattle.texts.specs.Laws.{IsWithout, PartsApart, PartsJoin}
use Rattle.texts.specs.Parts.{parts}
use Rattle.texts.proofs.Cutting.{parts_some}

module _ (m : ℕ) where
  -- no mark stands in any of them
  without_more : (x : ℕ) (w : List ℕ) → (x ≡ m → ⊥) → IsWithout m w → IsWithout m (x ∷ w)
  without_more x w n f zero l e = n e
  without_more x w n f (suc k) l e = f k (omega arith) e

  onto_without : (x : ℕ) (ws : List (List ℕ)) → (x ≡ m → ⊥) → All (IsWithout m) ws → All (IsWithout m) (onto_first x ws)
  onto_without x [] n h = All-cons (IsWithout m) (x ∷ []) [] (without_more x [] n (λ k l e. omega arith)) h
  onto_without x (w ∷ ws) n h = All-cons (IsWithout m) (x ∷ w) ws (without_more x w n (All-head (IsWithout m) w ws h)) (All-tail (IsWithout m) w ws h)

  parts_without : (xs : List ℕ) → All (IsWithout m) (parts m xs)
  parts_without [] = All-cons (IsWithout m) [] [] (λ k l e. omega arith) (All-nil (IsWithout m))
  parts_without (x ∷ xs) = go (cases_eq x m) (parts_without xs)
    where
      go : ((x ≡ m) ⊎ (x ≡ m → ⊥)) → All (IsWithout m) (parts m xs) → All (IsWithout m) (parts m (x ∷ xs))
      go (inl e) h = rw (eq-eqb x m e) (All-cons (IsWithout m) [] (parts m xs) (λ k l e. omega arith) h)
      go (inr n) h = rw (ne_eqb x m n) (onto_without x (parts m xs) n h)

pub parts_join : PartsJoin
parts_join m t = (parts_some m t, parts_without m t, join_with_byte-slice_split m t)

-- what is put before the first of some is put before the first of them with others behind
onto_both : (x : ℕ) (vs ws : List (List ℕ)) → 0 < length vs → onto_first x (vs ++ ws) ≡ onto_first x vs ++ ws
onto_both x [] ws l = absurd (omega arith)
onto_both x (v ∷ vs) ws l = refl

pub parts_apart : PartsApart
parts_apart m [] t = rw (eq-eqb m m refl)
parts_apart m (x ∷ s) t = go (eqb x m) (parts_apart m s t)
  where
    go : (b : Bool) → parts m (s ++ m ∷ t) ≡ parts m s ++ parts m t →
        cond b ([] ∷ parts m (s ++ m ∷ t)) (onto_first x (parts m (s ++ m ∷ t))) ≡ cond b ([] ∷ parts m s) (onto_first x (parts m s)) ++ parts m t
    go true e = rw e refl
    go false e = rw e (onto_both x (parts m s) (parts m t) (parts_some m s))
