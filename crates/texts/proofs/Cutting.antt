-- A text cut at its first mark.
use Rattle.std.proofs.Common.{◌≡◌, ℕ, suc, ◌+◌, ◌<◌, ◌≤◌, ◌⊎◌, inl, inr, Bool, true, false, cond, eqb, List, [], ◌∷◌, ◌++◌, length, get_or, take, drop, Some, None, refl, ap, ◌∙◌, arith, sym}
use Rattle.std.proofs.lemmas.Bool.{eq-eqb, ne_eqb, cases_eq}
use Rattle.std.proofs.lemmas.List.{drop_more, get_or-take, length-take, take-append-drop}
use Rattle.std.specs.List.{onto_first}
use Rattle.texts.specs.Parts.{behind, front, parts, parts_left}

module _ (m : ℕ) where
  -- the first part is up to the first mark, and the others are those of what stands behind it
  pub parts_first : (xs : List ℕ) → parts m xs ≡ front m xs ∷ parts_left m (behind m xs)
  unfolding front behind
  parts_first [] = refl
  parts_first (x ∷ xs) = go (eqb x m) (parts_first xs)
    where
      go : (b : Bool) → parts m xs ≡ front m xs ∷ parts_left m (behind m xs) →
          cond b ([] ∷ parts m xs) (onto_first x (parts m xs)) ≡ cond b [] (x ∷ front m xs) ∷ parts_left m (cond b (Some xs) (behind m xs))
      go true e = refl
      go false e = rw e refl

  -- a text that holds no mark
  abbrev pub IsFree : List ℕ → Type 0
  IsFree [] = Unit {0}
  IsFree (x ∷ xs) = (x ≡ m → ⊥) × IsFree xs

  pub free_places : (xs : List ℕ) → ((k : ℕ) → k < length xs → get_or xs k 0 ≡ m → ⊥) → IsFree xs
  free_places [] h = tt
  free_places (x ∷ xs) h = (h 0 (omega arith), free_places xs (λ k l. h (suc k) (omega arith)))

  pub free_append : (xs ys : List ℕ) → IsFree xs → IsFree ys → IsFree (xs ++ ys)
  free_append [] ys f g = g
  free_append (x ∷ xs) ys f g = (f.0, free_append xs ys f.1 g)

  -- its first part, where it holds no mark, and where one stands behind p
  pub front_free : (xs : List ℕ) → IsFree xs → front m xs ≡ xs
  unfolding front
  front_free [] f = refl
  front_free (x ∷ xs) f = rw (ne_eqb x m f.0, front_free xs f.1)

  pub behind_free : (xs : List ℕ) → IsFree xs → behind m xs ≡ None
  unfolding behind
  behind_free [] f = refl
  behind_free (x ∷ xs) f = rw (ne_eqb x m f.0, behind_free xs f.1)

  pub front_of : (p r : List ℕ) → IsFree p → front m (p ++ m ∷ r) ≡ p
  unfolding front
  front_of [] r f = rw (eq-eqb m m refl)
  front_of (x ∷ p) r f = rw (ne_eqb x m f.0, front_of p r f.1)

  pub behind_of : (p r : List ℕ) → IsFree p → behind m (p ++ m ∷ r) ≡ Some r
  unfolding behind
  behind_of [] r f = rw (eq-eqb m m refl)
  behind_of (x ∷ p) r f = rw (ne_eqb x m f.0, behind_of p r f.1)

  -- the same, where its first mark is at place i
  pub cut_at : (xs : List ℕ) (i : ℕ) → i < length xs → ((k : ℕ) → k < i → get_or xs k 0 ≡ m → ⊥) → get_or xs i 0 ≡ m → (front m xs ≡ take i xs) × (behind m xs ≡ Some (drop (i + 1) xs))
  cut_at xs i l h e =
      let s : xs ≡ take i xs ++ m ∷ drop (i + 1) xs = sym (take-append-drop i xs) ∙ ap (λ ys. take i xs ++ ys) (drop_more xs i 0 l ∙ ap (λ x. x ∷ drop (i + 1) xs) e) in
      let n : length (take i xs) ≡ i = grind (arith, length-take) in
      let f = free_places (take i xs) (λ k b q. h k (omega arith) (sym (get_or-take i xs k 0 (omega arith)) ∙ q)) in
      (ap (front m) s ∙ front_of (take i xs) (drop (i + 1) xs) f, ap (behind m) s ∙ behind_of (take i xs) (drop (i + 1) xs) f)

  pub parts_free : (xs : List ℕ) → IsFree xs → parts m xs ≡ xs ∷ []
  parts_free xs f = parts_first xs ∙ rw (front_free xs f, behind_free xs f) refl

  pub parts_of : (p r xs : List ℕ) → IsFree p → xs ≡ p ++ m ∷ r → parts m xs ≡ p ∷ parts m r
  parts_of p r xs f e = rw (e, parts_first (p ++ m ∷ r), front_of p r f, behind_of p r f) refl

  -- any text holds no mark, or falls in two at its first mark
  abbrev pub IsCut : List ℕ → Type 0
  IsCut xs = IsFree xs ⊎ ((p : List ℕ) × (r : List ℕ) × IsFree p × (xs ≡ p ++ m ∷ r))

  pub cut : (xs : List ℕ) → IsCut xs
  cut [] = inl tt
  cut (x ∷ xs) = go (cases_eq x m) (cut xs)
    where
      go : ((x ≡ m) ⊎ (x ≡ m → ⊥)) → IsCut xs → IsCut (x ∷ xs)
      go (inl e) h = inr ([], xs, tt, ap (λ y. y ∷ xs) e)
      go (inr n) (inl f) = inl (n, f)
      go (inr n) (inr h) = inr (x ∷ h.0, h.1, (n, h.2), ap (λ l. x ∷ l) h.3)

-- a text has a part, if an empty one, and at most one more than bytes
length_onto_first : (x : ℕ) (ws : List (List ℕ)) → 0 < length ws → length (onto_first x ws) ≡ length ws
length_onto_first x [] l = absurd (omega arith)
length_onto_first x (w ∷ ws) l = refl

pub parts_some : (m : ℕ) (xs : List ℕ) → 0 < length (parts m xs)
parts_some m xs = rw (parts_first m xs) (omega arith)

pub parts_most : (m : ℕ) (xs : List ℕ) → length (parts m xs) ≤ length xs + 1
parts_most m [] = omega arith
parts_most m (x ∷ xs) = go (eqb x m) (parts_some m xs) (parts_most m xs)
  where
    go : (b : Bool) → 0 < length (parts m xs) → length (parts m xs) ≤ length xs + 1 → length (cond b ([] ∷ parts m xs) (onto_first x (parts m xs))) ≤ suc (length xs) + 1
    go true l h = omega arith
    go false l h = let e = length_onto_first x (parts m xs) l in omega arith
