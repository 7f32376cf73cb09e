-- The numbers of pairs in fives, as `chunks_exact(5)` gives them.
use Rattle.std.proofs.Common.{◌≡◌, ℕ, ◌+◌, ◌*◌, ◌/◌, ◌<◌, false, List, ◌++◌, length, get_or, drop, Some, None, Option, Bool, true, Bor, zero, suc, [], ◌∷◌, sym, refl, ap, ap₂, ◌∙◌, arith}
use Rattle.std.proofs.Math.Seq.{drop-append_seam}
use Rattle.std.proofs.lemmas.List.{drop-drop, get_or-drop, get_or_append_left, length-append, length-drop}
use Rattle.std.specs.List.{AllWithin, HoldsAt}
use Rattle.std.specs.Option.{MatchOption}
use Rattle.std.specs.declared.slice.ChunksExact.{ChunksExact}
use Rattle.std.specs.Slice.Iter.{chunks_exact_rest, chunks_exact_size, chunks_exact_steps}
use Rattle.std.proofs.lemmas.Iterator.{YieldsList}
use Rattle.std.proofs.lemmas.Iterator.Splits.{YieldsList-from_shown_while}
use Rattle.table.specs.Numbers.{first_at, second_at}
use Rattle.table.specs.Refusals.{first_place, foreign, unknown}
use Rattle.table.proofs.Firsts.{looked_through}

module _ (ps : List ℕ) (k : ℕ) (xs rest : List ℕ) (e : drop (5 * k) ps ≡ xs ++ rest) (l : length xs ≡ 5) where
  in_chunk : (i j : ℕ) → i ≡ 5 * k + j → j < 5 → get_or xs j 0 ≡ get_or ps i 0
  in_chunk i j d h =
      sym (get_or_append_left xs rest 0 j (omega arith)) ∙ (ap (λ l. get_or l j 0) (sym e) ∙ (get_or-drop (5 * k) ps j 0 ∙ ap (λ n. get_or ps n 0) (sym d)))

  pub first_in : get_or xs 0 0 ≡ first_at ps k
  first_in = in_chunk (5 * k) 0 (omega arith) (omega arith)

  pub second_in : get_or xs 1 0 ≡ second_at ps k
  second_in = in_chunk (5 * k + 1) 1 refl (omega arith)

  pub behind_chunk : rest ≡ drop (5 * (k + 1)) ps
  behind_chunk =
      let i : 5 * k + length xs ≡ 5 * (k + 1) = omega arith in
      sym (drop-append_seam xs rest) ∙ (ap (drop (length xs)) (sym e) ∙ (drop-drop (length xs) (5 * k) ps ∙ ap (λ n. drop n ps) i))

  pub chunk_there : k < length ps / 5
  chunk_there = let d = length-drop (5 * k) ps in let a = ap length e in let b = length-append xs rest in omega arith

-- the numbers of all pairs, each with its five
pub fives : List ℕ → List (List ℕ)
fives [] = []
fives (a ∷ []) = []
fives (a ∷ (b ∷ [])) = []
fives (a ∷ (b ∷ (c ∷ []))) = []
fives (a ∷ (b ∷ (c ∷ (d ∷ [])))) = []
fives (a ∷ (b ∷ (c ∷ (d ∷ (e ∷ ps))))) = (a ∷ (b ∷ (c ∷ (d ∷ (e ∷ []))))) ∷ fives ps

many_fives : (ps : List ℕ) → length (fives ps) ≡ length ps / 5
unfolding fives
many_fives [] = omega arith
many_fives (a ∷ []) = omega arith
many_fives (a ∷ (b ∷ [])) = omega arith
many_fives (a ∷ (b ∷ (c ∷ []))) = omega arith
many_fives (a ∷ (b ∷ (c ∷ (d ∷ [])))) = omega arith
many_fives (a ∷ (b ∷ (c ∷ (d ∷ (e ∷ ps))))) = let ih = many_fives ps in omega arith

-- the letters of the five at a place
five_at : (ps : List ℕ) (k : ℕ) (d : List ℕ) → k < length (fives ps) → unknown false (get_or (get_or (fives ps) k d) 0 0) (get_or (get_or (fives ps) k d) 1 0) ≡ foreign false ps k
unfolding fives
five_at [] k z l = absurd (omega arith)
five_at (a ∷ []) k z l = absurd (omega arith)
five_at (a ∷ (b ∷ [])) k z l = absurd (omega arith)
five_at (a ∷ (b ∷ (c ∷ []))) k z l = absurd (omega arith)
five_at (a ∷ (b ∷ (c ∷ (d ∷ [])))) k z l = absurd (omega arith)
five_at (a ∷ (b ∷ (c ∷ (d ∷ (e ∷ ps))))) zero z l = refl
five_at (a ∷ (b ∷ (c ∷ (d ∷ (e ∷ ps))))) (suc k) z l =
    let ih = five_at ps k z (omega arith) in
    let m : 5 * suc k ≡ suc (suc (suc (suc (suc (5 * k))))) = omega arith in
    let n : 5 * suc k + 1 ≡ suc (suc (suc (suc (suc (5 * k + 1))))) = omega arith in
    ih ∙ ap₂ (λ i j. unknown false (get_or (a ∷ (b ∷ (c ∷ (d ∷ (e ∷ ps))))) i 0) (get_or (a ∷ (b ∷ (c ∷ (d ∷ (e ∷ ps))))) j 0)) (sym m) (sym n)

front_five : (xs ps : List ℕ) → length xs ≡ 5 → fives (xs ++ ps) ≡ xs ∷ fives ps
unfolding fives
front_five [] ps l = absurd (omega arith)
front_five (a ∷ []) ps l = absurd (omega arith)
front_five (a ∷ (b ∷ [])) ps l = absurd (omega arith)
front_five (a ∷ (b ∷ (c ∷ []))) ps l = absurd (omega arith)
front_five (a ∷ (b ∷ (c ∷ (d ∷ [])))) ps l = absurd (omega arith)
front_five (a ∷ (b ∷ (c ∷ (d ∷ (e ∷ []))))) ps l = refl
front_five (a ∷ (b ∷ (c ∷ (d ∷ (e ∷ (f ∷ xs)))))) ps l = absurd (omega arith)

-- whether the letters of a five are known
abbrev pub Tests : Bool → List ℕ → Type 0
Tests b xs = unknown false (get_or xs 0 0) (get_or xs 1 0) ≡ b

-- the first five that has a letter above 255
pub first_of_fives : (ps : List ℕ) (r : Option ℕ) →
    MatchOption r (AllWithin (Tests false) (fives ps) 0 (length (fives ps))) (λ i. (i < length (fives ps)) × HoldsAt (Tests true) (fives ps) i × AllWithin (Tests false) (fives ps) 0 i) →
    first_place (foreign false ps) (length ps / 5) ≡ r
first_of_fives ps None h =
    let n = many_fives ps in
    looked_through (foreign false ps) (length ps / 5) None (λ k g l. sym (five_at ps k [] (omega arith)) ∙ h k [] g (omega arith))
first_of_fives ps (Some i) h =
    let n = many_fives ps in
    looked_through (foreign false ps) (length ps / 5) (Some i)
    (omega arith, omega arith, sym (five_at ps i [] h.0) ∙ h.1 [], λ k g l. (let m = h.0 in sym (five_at ps k [] (omega arith)) ∙ h.2 k [] g l))

-- what `chunks_exact(5)` gives
module _ {s : ChunksExact ℕ} where
  pub fives_given : chunks_exact_size s ≡ 5 → YieldsList (chunks_exact_steps {A = ℕ}) (λ x. x.now) s (fives (chunks_exact_rest s))
  fives_given z = YieldsList-from_shown_while chunks_exact_steps (λ x. x.now) (λ t. fives (chunks_exact_rest t)) (λ t. chunks_exact_size t ≡ 5) none some s z
    where
      none : (t u : ChunksExact ℕ) → chunks_exact_size t ≡ 5 → chunks_exact_steps t None u → length (fives (chunks_exact_rest t)) ≡ 0
      none t u p q = let m = many_fives (chunks_exact_rest t) in let l = q.1.0 in omega arith

      some : (t : ChunksExact ℕ) (x : Bor (List ℕ)) (u : ChunksExact ℕ) → chunks_exact_size t ≡ 5 → chunks_exact_steps t (Some x) u → (chunks_exact_size u ≡ 5) × (fives (chunks_exact_rest t) ≡ x.now ∷ fives (chunks_exact_rest u))
      some t x u p q = (q.0 ∙ p, ap fives q.1.0 ∙ front_five x.now (chunks_exact_rest u) (q.1.1 ∙ p))
