-- The lines of a table's letters and runs, one more at a time.
use Rattle.std.proofs.Common.{◌≡◌, ℕ, ◌+◌, ◌<◌, Some, Option, List, [], ◌∷◌, ◌++◌, length, get_or, take, sym, refl, ap, ◌∙◌, add-one, arith}
use Rattle.std.proofs.lemmas.List.{flat_map_more, take_more}
use Rattle.std.proofs.lemmas.Option.{get_or_from_slice_get, slice_get-get_or, slice_get_within}
use Rattle.std.specs.List.{slice_get}
use Rattle.nullahbowl.specs.Writing.{entry_line, letter_line, letters_text, longs_text, pairs_text}
use Rattle.table.specs.Rules.{Rules, letter_triples}
use Rattle.pieces.specs.declared.piece.Long as long
use Rattle.pieces.specs.declared.piece.Pair as pair
use Rattle.texts.specs.declared.line.Entry.TheVariants.{Long, Pair}

pub letters_none : (t : Rules) → letters_text t 0 ≡ []
unfolding letters_text
letters_none t = refl

pub letters_more : (t : Rules) (n : ℕ) → letters_text t (n + 1) ≡ letters_text t n ++ letter_line (record { letter = n; weights = letter_triples t n })
unfolding letters_text
letters_more t n = rw add-one refl

pub pairs_more : (ps : List pair.Pair) (k : ℕ) (p : pair.Pair) → slice_get ps k ≡ Some p
    → pairs_text (take (k + 1) ps) ≡ pairs_text (take k ps) ++ entry_line (Pair p)
pairs_more ps k p e =
    let there = get_or_from_slice_get ps k p p e in
    let next = take_more ps k p (slice_get_within ps k p e) in
    ap pairs_text (next ∙ ap (λ x. take k ps ++ x ∷ []) there) ∙ sym (flat_map_more (λ q. entry_line (Pair q)) [] (take k ps) p)

pub longs_more : (es : List long.Long) (k : ℕ) (e : long.Long) → slice_get es k ≡ Some e
    → longs_text (take (k + 1) es) ≡ longs_text (take k es) ++ entry_line (Long e)
longs_more es k e q =
    let there = get_or_from_slice_get es k e e q in
    let next = take_more es k e (slice_get_within es k e q) in
    ap longs_text (next ∙ ap (λ x. take k es ++ x ∷ []) there) ∙ sym (flat_map_more (λ f. entry_line (Long f)) [] (take k es) e)

-- at each place before the end there is one
pub one_there : {A : Type 0} (xs : List A) (k : ℕ) (r : Option A) → r ≡ slice_get xs k → k < length xs → (x : A) × (r ≡ Some x)
one_there {A} [] k r e h = absurd (k_not k h)
  where
    k_not : (n : ℕ) → n < length {A = A} [] → ⊥
    k_not n l = omega arith
one_there (x ∷ xs) k r e h = (get_or (x ∷ xs) k x, e ∙ slice_get-get_or (x ∷ xs) k x h)
