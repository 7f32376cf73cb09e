-- What is read of a letter and its triples of weights, by the form that they have.
use Rattle.std.proofs.Common.{◌≡◌, ℕ, ◌≤◌, inl, inr, List, [], ◌∷◌, ◌++◌, length, Some, None, Option, sym, refl, ap, ◌∙◌, subst, arith}
use Rattle.std.proofs.lemmas.List.{append_assoc}
use Rattle.std.specs.Option.{option_map}
use Rattle.pieces.specs.declared.piece.Expanded.{Expanded}
use Rattle.pieces.specs.declared.piece.Triples.{Triples}
use Rattle.pieces.specs.declared.piece.Triples.TheVariants.{Excess, One, Several}
use Rattle.pieces.specs.declared.piece.Weights.{Weights}
use Rattle.pieces.specs.Runs.{expanded, one_or_none}
use Rattle.texts.specs.declared.line.Entry.{Entry}
use Rattle.texts.specs.declared.line.Entry.TheVariants.{Letter}
use Rattle.texts.specs.Forms.{AreSeveral, AreTriples, IsLetter}
use Rattle.texts.specs.Lines.{as_triples, in_front, in_threes, letter_entry, letter_weighs, three_weights, weights_from}
use Rattle.texts.specs.Numerals.{letter_of, number_of}
use Rattle.texts.specs.Parts.{words}
use Rattle.texts.proofs.Cutting.{IsCut, cut, parts_free, parts_of}
use Rattle.texts.proofs.Entering.{letter_form, letter_free, letter_read, next_word, none_some, three_form, weight_form, weight_read, weights_form, weights_words}
use Rattle.texts.proofs.Joining.{parts_apart}

-- one more behind those that are read is one more in front of the others
more_behind : (us : List Weights) (w : Weights) (r : Option (List Weights)) → option_map (λ vs. (us ++ w ∷ []) ++ vs) r ≡ option_map (λ vs. us ++ vs) (in_front (Some w) r)
more_behind us w None = refl
more_behind us w (Some vs) = ap Some (append_assoc us (w ∷ []) vs)

pub threes_more : (us : List Weights) (w : Weights) (a b c : List ℕ) (ws : List (List ℕ)) → Some w ≡ weights_from (number_of a) (number_of b) (number_of c) →
    option_map (λ vs. (us ++ w ∷ []) ++ vs) (in_threes ws) ≡ option_map (λ vs. us ++ vs) (in_threes (a ∷ (b ∷ (c ∷ ws))))
threes_more us w a b c ws e = more_behind us w (in_threes ws) ∙ ap (λ o. option_map (λ vs. us ++ vs) (in_front o (in_threes ws))) e

-- the first triple of several, and the others
front_parts : (o : Option Weights) (r : Option (List Weights)) (w : Weights) (ws : List Weights) → in_front o r ≡ Some (w ∷ ws) → (o ≡ Some w) × (r ≡ Some ws)
front_parts None r w ws e = none_some (w ∷ ws) e
front_parts (Some v) None w ws e = none_some (w ∷ ws) e
front_parts (Some v) (Some vs) w ws e = (cc, cc)

front_some : (o : Option Weights) (r : Option (List Weights)) → in_front o r ≡ Some [] → ⊥
front_some None r e = none_some [] e
front_some (Some v) None e = none_some [] e
front_some (Some v) (Some vs) e = absurd cc

-- words are no triple fewer than one
threes_some : (a : List ℕ) (ws : List (List ℕ)) → in_threes (a ∷ ws) ≡ Some [] → ⊥
threes_some a [] e = none_some [] e
threes_some a (b ∷ []) e = none_some [] e
threes_some a (b ∷ (c ∷ ws)) e = front_some _ _ e

-- several triples
behind_three : (a b c r : List ℕ) → a ++ 32 ∷ (b ++ 32 ∷ (c ++ 32 ∷ r)) ≡ (a ++ 32 ∷ (b ++ 32 ∷ c)) ++ 32 ∷ r
behind_three a b c r = sym (append_assoc a (32 ∷ (b ++ 32 ∷ c)) (32 ∷ r) ∙ ap (λ l. a ++ 32 ∷ l) (append_assoc b (32 ∷ c) (32 ∷ r)))

threes_form : (w : Weights) (ws : List Weights) (y : List ℕ) (ps : List (List ℕ)) → words y ≡ ps → in_threes ps ≡ Some (w ∷ ws) → AreSeveral y (w ∷ ws)
threes_form w ws y [] q e = absurd cc
threes_form w ws y (a ∷ []) q e = none_some (w ∷ ws) e
threes_form w ws y (a ∷ (b ∷ [])) q e = none_some (w ∷ ws) e
threes_form w [] y (a ∷ (b ∷ (c ∷ []))) q e = weights_form y w (ap three_weights q ∙ (front_parts _ _ w [] e).0)
threes_form w (v ∷ ws) y (a ∷ (b ∷ (c ∷ []))) q e = let h = (front_parts _ _ w (v ∷ ws) e).1 in absurd cc
threes_form w [] y (a ∷ (b ∷ (c ∷ (d ∷ ps)))) q e = absurd (threes_some d ps (front_parts _ _ w [] e).1)
threes_form w (v ∷ ws) y (a ∷ (b ∷ (c ∷ (d ∷ ps)))) q e =
    let h = front_parts _ _ w (v ∷ ws) e in
    let k = three_form (number_of a) (number_of b) (number_of c) w h.0 in
    let i = next_word y a b (c ∷ (d ∷ ps)) q in
    let j = next_word i.0 b c (d ∷ ps) i.2 in
    let l = next_word j.0 c d ps j.2 in (
      a ++ 32 ∷ (b ++ 32 ∷ c),
      l.0,
      (a, b, c, weight_form a w.primary k.0, weight_form b w.secondary k.1, weight_form c w.tertiary k.2, refl),
      threes_form v ws l.0 (d ∷ ps) l.2 h.1,
      i.3 ∙ (ap (λ x. a ++ 32 ∷ x) (j.3 ∙ ap (λ x. b ++ 32 ∷ x) l.3) ∙ behind_three a b c l.0),
    )

threes_read : (w : Weights) (ws : List Weights) (y : List ℕ) → AreSeveral y (w ∷ ws) → in_threes (words y) ≡ Some (w ∷ ws)
threes_read w [] y h = rw (weights_words y w h, weight_read h.0 w.primary h.3, weight_read h.1 w.secondary h.4, weight_read h.2 w.tertiary h.5) refl
threes_read w (v ∷ ws) y h =
    rw (
      h.4,
      parts_apart 32 h.0 h.1,
      weights_words h.0 w h.2,
      weight_read h.2.0 w.primary h.2.3,
      weight_read h.2.1 w.secondary h.2.4,
      weight_read h.2.2 w.tertiary h.2.5,
      threes_read v ws h.1 h.3,
    ) refl

-- triples by how many they are
triples_form : (y : List ℕ) (t : Triples) → as_triples (in_threes (words y)) ≡ Some t → AreTriples y t
triples_form y t e = go (in_threes (words y)) refl e
  where
    go : (o : Option (List Weights)) → in_threes (words y) ≡ o → as_triples o ≡ Some t → AreTriples y t
    go None q e = none_some t e
    go (Some []) q e = none_some t e
    go (Some (u ∷ [])) q e = let k : One u ≡ t = cc in subst (AreTriples y) k (threes_form u [] y (words y) refl q)
    go (Some (u ∷ (v ∷ []))) q e =
        let k : Several (record { first = u; second = v; third = None }) ≡ t = cc in
        subst (AreTriples y) k (threes_form u (v ∷ []) y (words y) refl q)
    go (Some (u ∷ (v ∷ (w ∷ [])))) q e =
        let k : Several (record { first = u; second = v; third = Some w }) ≡ t = cc in
        subst (AreTriples y) k (threes_form u (v ∷ (w ∷ [])) y (words y) refl q)
    go (Some (u ∷ (v ∷ (w ∷ (x ∷ ws))))) q e =
        let k : Excess ≡ t = cc in
        subst (AreTriples y) k (u ∷ (v ∷ (w ∷ (x ∷ ws))), omega arith, threes_form u (v ∷ (w ∷ (x ∷ ws))) y (words y) refl q)

two_or_three : (e : Expanded) → as_triples (Some (expanded e)) ≡ Some (Several e)
two_or_three e = go e.third refl
  where
    go : (o : Option Weights) → e.third ≡ o → as_triples (Some (e.first ∷ (e.second ∷ one_or_none o))) ≡ Some (Several e)
    go None q = ap (λ (o : Option Weights). Some (Several (record { first = e.first; second = e.second; third = o }))) (sym q)
    go (Some w) q = ap (λ (o : Option Weights). Some (Several (record { first = e.first; second = e.second; third = o }))) (sym q)

more_than_three : (y : List ℕ) (ws : List Weights) → 4 ≤ length ws → AreSeveral y ws → as_triples (in_threes (words y)) ≡ Some Excess
more_than_three y [] l h = absurd h
more_than_three y (u ∷ []) l h = absurd (omega arith)
more_than_three y (u ∷ (v ∷ [])) l h = absurd (omega arith)
more_than_three y (u ∷ (v ∷ (w ∷ []))) l h = absurd (omega arith)
more_than_three y (u ∷ (v ∷ (w ∷ (x ∷ ws)))) l h = ap as_triples (threes_read u (v ∷ (w ∷ (x ∷ ws))) y h)

triples_read : (y : List ℕ) (t : Triples) → AreTriples y t → as_triples (in_threes (words y)) ≡ Some t
triples_read y (One w) h = ap as_triples (threes_read w [] y h)
triples_read y (Several e) h = ap as_triples (threes_read e.first (e.second ∷ one_or_none e.third) y h) ∙ two_or_three e
triples_read y Excess h = more_than_three y h.0 h.1 h.2

-- a third triple behind two
pub third_behind : (e : Expanded) (w : Weights) (ws : List Weights) → e.third ≡ None → Some (Several e) ≡ as_triples (Some ws) →
    Some (Several (record { first = e.first; second = e.second; third = Some w })) ≡ as_triples (Some (ws ++ w ∷ []))
third_behind e w [] n q = absurd cc
third_behind e w (u ∷ []) n q = absurd cc
third_behind e w (u ∷ (v ∷ [])) n q = let k : e ≡ record { first = u; second = v; third = None } = cc in rw k refl
third_behind e w (u ∷ (v ∷ (x ∷ []))) n q = let k : e ≡ record { first = u; second = v; third = Some x } = cc in none_some x (sym n ∙ ap (λ (i : Expanded). i.third) k)
third_behind e w (u ∷ (v ∷ (x ∷ (y ∷ ws)))) n q = absurd cc

-- what stands behind the word letter
abbrev pub IsLetterEntry : List ℕ → Entry → Type 0
IsLetterEntry text e =
    (a : ℕ) × (t : Triples) × (x : List ℕ) × (y : List ℕ) × (e ≡ Letter (record { letter = a; weights = t })) × IsLetter x a × AreTriples y t × (text ≡ x ++ 32 ∷ y)

letter_parts : (a : Option ℕ) (v : Option Triples) (e : Entry) → letter_weighs a v ≡ Some e →
    (b : ℕ) × (t : Triples) × (a ≡ Some b) × (v ≡ Some t) × (e ≡ Letter (record { letter = b; weights = t }))
letter_parts None v e k = none_some e k
letter_parts (Some a) None e k = none_some e k
letter_parts (Some a) (Some t) e k = (a, t, refl, refl, cc)

pub letter_entry_form : (text : List ℕ) (e : Entry) → letter_entry (words text) ≡ Some e → IsLetterEntry text e
letter_entry_form text e k = go (cut 32 text)
  where
    go : IsCut 32 text → IsLetterEntry text e
    go (inl f) = let h = letter_parts (letter_of text) None e (ap letter_entry (sym (parts_free 32 text f)) ∙ k) in none_some h.1 h.3
    go (inr g) =
        let h = letter_parts (letter_of g.0) (as_triples (in_threes (words g.1))) e (ap letter_entry (sym (parts_of 32 g.0 g.1 text g.2 g.3)) ∙ k) in
        (h.0, h.1, g.0, g.1, h.4, letter_form g.0 h.0 g.2 h.2, triples_form g.1 h.1 h.3, g.3)

pub letter_entry_read : (a : ℕ) (t : Triples) (x y : List ℕ) → IsLetter x a → AreTriples y t → letter_entry (words (x ++ 32 ∷ y)) ≡ Some (Letter (record { letter = a; weights = t }))
letter_entry_read a t x y h k = rw (parts_of 32 x y (x ++ 32 ∷ y) (letter_free x a h) refl, letter_read x a h, triples_read y t k) refl
