-- What is read of the words of an entry, by the form that they have.
use Rattle.std.proofs.Common.{◌≡◌, ℕ, ◌≤◌, get_or, drop, inl, inr, Bool, true, false, cond, ◌&&◌, eqb, ltb, List, [], ◌∷◌, ◌++◌, Some, None, Option, sym, refl, ap, ◌∙◌, subst, arith}
use Rattle.std.proofs.lemmas.Bool.{ltb-true, ltb-false, eqb-true, and_parts, true≢false}
use Rattle.std.proofs.lemmas.Bool.Decides.{nat_tests}
use Rattle.std.specs.Char.{digit_value}
use Rattle.std.specs.Option.{SomeIff, option_map}
use Rattle.std.specs.Str.Parse.{AllDigits}
use Rattle.pieces.specs.declared.piece.LongRun.{LongRun}
use Rattle.pieces.specs.declared.piece.Weights.{Weights}
use Rattle.pieces.specs.Runs.{long_letters, one_or_none}
use Rattle.texts.specs.declared.line.Entry.{Entry}
use Rattle.texts.specs.declared.line.Entry.TheVariants.{Letter, Long, Pair}
use Rattle.texts.specs.Forms.{AreWeighed, AreWeights, IsLetter, IsWeight}
use Rattle.texts.specs.Lines.{long_weighs, pair_entry, pair_weighs, run_entry, three_weights, weights_from}
use Rattle.texts.specs.Numerals.{hex_of, letter_of, number_of, one_letter}
use Rattle.texts.specs.Parts.{words}
use Rattle.texts.proofs.Cutting.{IsCut, IsFree, cut, parts_first, parts_free, parts_of}
use Rattle.texts.proofs.Reading.{hex_reads, number_reads, same_some}
use Rattle.utf8.specs.Letters.{bytes_of, is_letter}
use Rattle.utf8.specs.Ranges.{are_letter}
use Rattle.utf8.specs.Ranges as utf8
use Rattle.utf8.proofs.Lawful.{by_ranges}
use Rattle.utf8.proofs.Numbers.{in_one, in_three, in_two}

-- `None` is no `Some`
pub none_some : {A B : Type 0} (x : A) → None ≡ Some x → B
none_some x e = absurd cc

-- `Some` just where P holds, from either side
some_tells : (r : Option ℕ) (P : Type 0) (v n : ℕ) → SomeIff r P v → r ≡ Some n → P × (v ≡ n)
some_tells None P v n h e = none_some n e
some_tells (Some x) P v n h e = (h.0, sym h.1 ∙ cc)

some_from : (r : Option ℕ) (P : Type 0) (v : ℕ) → SomeIff r P v → P → r ≡ Some v
some_from r P v h p = same_some r (Some v) P v h (p, refl)

-- a weight
pub weight_form : (w : List ℕ) (n : ℕ) → number_of w ≡ Some n → IsWeight w n
weight_form w n e = let h = some_tells (number_of w) _ _ n (number_reads w) e in (h.0.0, h.1, omega arith)

pub weight_read : (w : List ℕ) (n : ℕ) → IsWeight w n → number_of w ≡ Some n
weight_read w n h = some_from (number_of w) _ _ (number_reads w) (h.0, omega arith) ∙ ap Some h.1

-- a letter by its number
signed : (w : List ℕ) → (eqb (get_or w 0 0) 85 && eqb (get_or w 1 0) 43) ≡ true → w ≡ 85 ∷ (43 ∷ drop 2 w)
signed [] e = cc
signed (x ∷ []) e = let h = and_parts (eqb x 85) false e in absurd (true≢false (sym h.1))
signed (x ∷ (y ∷ w)) e = let h = and_parts (eqb x 85) (eqb y 43) e in rw (eqb-true x 85 h.0, eqb-true y 43 h.1)

unsigned : (a : ℕ) → (eqb (get_or (bytes_of a) 0 0) 85 && eqb (get_or (bytes_of a) 1 0) 43) ≡ false
unfolding bytes_of
unsigned a = grind (arith, nat_tests)

-- a letter as itself
itself_form : (w : List ℕ) (a : ℕ) → IsFree 32 w → one_letter w ≡ Some a → IsLetter w a
itself_form w a f e = go (are_letter w) refl e
  where
    go : (t : Bool) → are_letter w ≡ t → cond t (Some (utf8.letter_of w)) None ≡ Some a → IsLetter w a
    go true t e =
        let k : utf8.letter_of w ≡ a = cc in
        let h = by_ranges.1 w t in
        let b : w ≡ bytes_of a = sym h.1 ∙ ap bytes_of k in
        inl (b, ap is_letter (sym k) ∙ h.0, λ s. (subst (IsFree 32) (b ∙ (ap bytes_of s ∙ in_one 32 (omega arith))) f).0 refl)
    go false t e = none_some a e

itself_read : (a : ℕ) → is_letter a ≡ true → letter_of (bytes_of a) ≡ Some a
unfolding letter_of
itself_read a e = let h = by_ranges.0 a e in rw (unsigned a, h.0, h.1)

-- any letter
pub letter_form : (w : List ℕ) (a : ℕ) → IsFree 32 w → letter_of w ≡ Some a → IsLetter w a
unfolding letter_of
letter_form w a f e = go (eqb (get_or w 0 0) 85 && eqb (get_or w 1 0) 43) (signed w) e
  where
    go : (t : Bool) → (t ≡ true → w ≡ 85 ∷ (43 ∷ drop 2 w)) → cond t (hex_of (drop 2 w)) (one_letter w) ≡ Some a → IsLetter w a
    go true u e = let h = some_tells (hex_of (drop 2 w)) _ _ a (hex_reads (drop 2 w)) e in inr (drop 2 w, u refl, h.0.0.0, h.0.0.1, h.0.1, h.1)
    go false u e = itself_form w a f e

pub letter_read : (w : List ℕ) (a : ℕ) → IsLetter w a → letter_of w ≡ Some a
unfolding letter_of
letter_read w a (inl h) = ap letter_of h.0 ∙ itself_read a h.1
letter_read w a (inr h) = ap letter_of h.1 ∙ (some_from (hex_of h.0) _ _ (hex_reads h.0) ((h.2, h.3), h.4) ∙ ap Some h.5)

-- a mark that is no digit stands in no number; so no space stands in a weight or a letter
pub digits_free : (m base : ℕ) → digit_value m ≡ 36 → base ≤ 36 → (w : List ℕ) → AllDigits base w → IsFree m w
digits_free m base n l [] h = tt
digits_free m base n l (x ∷ w) h = (λ e. let k = ap digit_value e in omega arith, digits_free m base n l w h.1)

weight_free : (w : List ℕ) (n : ℕ) → IsWeight w n → IsFree 32 w
weight_free w n h = digits_free 32 10 refl (omega arith) w h.0.1

bytes_free : (a : ℕ) → (a ≡ 32 → ⊥) → IsFree 32 (bytes_of a)
bytes_free a n = one (ltb a 128) refl
  where
    two : (t : Bool) → 128 ≤ a → ltb a 2048 ≡ t → IsFree 32 (bytes_of a)
    two true h e = rw (in_two a h (ltb-true a 2048 e)) (λ k. omega arith, (λ k. omega arith, tt))
    two false h e = rw (in_three a (ltb-false a 2048 e)) (λ k. omega arith, (λ k. omega arith, (λ k. omega arith, tt)))

    one : (t : Bool) → ltb a 128 ≡ t → IsFree 32 (bytes_of a)
    one true e = rw (in_one a (ltb-true a 128 e)) (n, tt)
    one false e = two (ltb a 2048) (ltb-false a 128 e) refl

pub letter_free : (w : List ℕ) (a : ℕ) → IsLetter w a → IsFree 32 w
letter_free w a (inl h) = rw h.0 (bytes_free a h.2)
letter_free w a (inr h) = rw h.1 (λ e. absurd (omega arith), (λ e. absurd (omega arith), digits_free 32 16 refl (omega arith) h.0 h.4))

-- three weights
pub three_form : (a b c : Option ℕ) (w : Weights) → weights_from a b c ≡ Some w → (a ≡ Some w.primary) × (b ≡ Some w.secondary) × (c ≡ Some w.tertiary)
three_form None b c w e = none_some w e
three_form (Some p) None c w e = none_some w e
three_form (Some p) (Some s) None w e = none_some w e
three_form (Some p) (Some s) (Some t) w e =
    let k : (record { primary = p; secondary = s; tertiary = t }) ≡ w = cc in
    (ap (λ (v : Weights). Some v.primary) k, ap (λ (v : Weights). Some v.secondary) k, ap (λ (v : Weights). Some v.tertiary) k)

-- four words are too many
more_words : (p s t u : List ℕ) → three_weights (p ∷ (s ∷ (t ∷ words u))) ≡ None
more_words p s t u = rw (parts_first 32 u) refl

pub weights_form : (y : List ℕ) (w : Weights) → three_weights (words y) ≡ Some w → AreWeights y w
weights_form y w e = one (cut 32 y)
  where
    three : (p r s q : List ℕ) → y ≡ p ++ 32 ∷ r → r ≡ s ++ 32 ∷ q → three_weights (p ∷ (s ∷ words q)) ≡ Some w → IsCut 32 q → AreWeights y w
    three p r s q a b k (inl f) =
        let h = three_form (number_of p) (number_of s) (number_of q) w (ap (λ ws. three_weights (p ∷ (s ∷ ws))) (sym (parts_free 32 q f)) ∙ k) in
        (p, s, q, weight_form p w.primary h.0, weight_form s w.secondary h.1, weight_form q w.tertiary h.2, a ∙ ap (λ l. p ++ 32 ∷ l) b)
    three p r s q a b k (inr g) = none_some w (sym (more_words p s g.0 g.1) ∙ (ap (λ ws. three_weights (p ∷ (s ∷ ws))) (sym (parts_of 32 g.0 g.1 q g.2 g.3)) ∙ k))

    two : (p r : List ℕ) → y ≡ p ++ 32 ∷ r → three_weights (p ∷ words r) ≡ Some w → IsCut 32 r → AreWeights y w
    two p r a k (inl f) = none_some w (ap (λ ws. three_weights (p ∷ ws)) (sym (parts_free 32 r f)) ∙ k)
    two p r a k (inr g) = three p r g.0 g.1 a g.3 (ap (λ ws. three_weights (p ∷ ws)) (sym (parts_of 32 g.0 g.1 r g.2 g.3)) ∙ k) (cut 32 g.1)

    one : IsCut 32 y → AreWeights y w
    one (inl f) = none_some w (ap three_weights (sym (parts_free 32 y f)) ∙ e)
    one (inr g) = two g.0 g.1 g.3 (ap three_weights (sym (parts_of 32 g.0 g.1 y g.2 g.3)) ∙ e) (cut 32 g.1)

pub weights_words : (y : List ℕ) (w : Weights) (h : AreWeights y w) → words y ≡ h.0 ∷ (h.1 ∷ (h.2 ∷ []))
weights_words y w h =
    rw (
      parts_of 32 h.0 (h.1 ++ 32 ∷ h.2) y (weight_free h.0 w.primary h.3) h.6,
      parts_of 32 h.1 h.2 (h.1 ++ 32 ∷ h.2) (weight_free h.1 w.secondary h.4) refl,
      parts_free 32 h.2 (weight_free h.2 w.tertiary h.5),
    ) refl

weights_read : (y : List ℕ) (w : Weights) → AreWeights y w → three_weights (words y) ≡ Some w
weights_read y w h = rw (weights_words y w h, weight_read h.0 w.primary h.3, weight_read h.1 w.secondary h.4, weight_read h.2 w.tertiary h.5) refl

-- what stands behind the word pair
abbrev pub IsPairEntry : List ℕ → Entry → Type 0
IsPairEntry text e =
    (a : ℕ) × (b : ℕ) × (w : Weights) × (x : List ℕ) × (y : List ℕ) × (z : List ℕ) × (e ≡ Pair (record { first = a; second = b; weights = w }))
    × IsLetter x a × IsLetter y b × AreWeights z w × (text ≡ x ++ 32 ∷ (y ++ 32 ∷ z))

pair_parts : (a b : Option ℕ) (v : Option Weights) (e : Entry) → pair_weighs a b v ≡ Some e →
    (c : ℕ) × (d : ℕ) × (w : Weights) × (a ≡ Some c) × (b ≡ Some d) × (v ≡ Some w) × (e ≡ Pair (record { first = c; second = d; weights = w }))
pair_parts None b v e k = none_some e k
pair_parts (Some a) None v e k = none_some e k
pair_parts (Some a) (Some b) None e k = none_some e k
pair_parts (Some a) (Some b) (Some w) e k = (a, b, w, refl, refl, refl, cc)

pub pair_entry_form : (text : List ℕ) (e : Entry) → pair_entry (words text) ≡ Some e → IsPairEntry text e
pair_entry_form text e k = one (cut 32 text)
  where
    two : (x r : List ℕ) → IsFree 32 x → text ≡ x ++ 32 ∷ r → pair_entry (x ∷ words r) ≡ Some e → IsCut 32 r → IsPairEntry text e
    two x r f q k (inl g) = let h = pair_parts (letter_of x) (letter_of r) None e (ap (λ ws. pair_entry (x ∷ ws)) (sym (parts_free 32 r g)) ∙ k) in none_some h.2 h.5
    two x r f q k (inr g) =
        let h = pair_parts (letter_of x) (letter_of g.0) (three_weights (words g.1)) e (ap (λ ws. pair_entry (x ∷ ws)) (sym (parts_of 32 g.0 g.1 r g.2 g.3)) ∙ k) in
        (h.0, h.1, h.2, x, g.0, g.1, h.6, letter_form x h.0 f h.3, letter_form g.0 h.1 g.2 h.4, weights_form g.1 h.2 h.5, q ∙ ap (λ l. x ++ 32 ∷ l) g.3)

    one : IsCut 32 text → IsPairEntry text e
    one (inl f) = none_some e (ap pair_entry (sym (parts_free 32 text f)) ∙ k)
    one (inr g) = two g.0 g.1 g.2 g.3 (ap pair_entry (sym (parts_of 32 g.0 g.1 text g.2 g.3)) ∙ k) (cut 32 g.1)

pub pair_entry_read : (a b : ℕ) (w : Weights) (x y z : List ℕ) → IsLetter x a → IsLetter y b → AreWeights z w →
    pair_entry (words (x ++ 32 ∷ (y ++ 32 ∷ z))) ≡ Some (Pair (record { first = a; second = b; weights = w }))
pair_entry_read a b w x y z h i k =
    rw (parts_of 32 x (y ++ 32 ∷ z) (x ++ 32 ∷ (y ++ 32 ∷ z)) (letter_free x a h) refl, parts_of 32 y z (y ++ 32 ∷ z) (letter_free y b i) refl, letter_read x a h, letter_read y b i, weights_read z w k) refl

-- a first word with others behind it
pub next_word : (t x y : List ℕ) (ws : List (List ℕ)) → words t ≡ x ∷ (y ∷ ws) → (rest : List ℕ) × IsFree 32 x × (words rest ≡ y ∷ ws) × (t ≡ x ++ 32 ∷ rest)
next_word t x y ws q = go (cut 32 t)
  where
    go : IsCut 32 t → (rest : List ℕ) × IsFree 32 x × (words rest ≡ y ∷ ws) × (t ≡ x ++ 32 ∷ rest)
    go (inl f) = let k : t ∷ [] ≡ x ∷ (y ∷ ws) = sym (parts_free 32 t f) ∙ q in absurd cc
    go (inr g) =
        let k : g.0 ∷ words g.1 ≡ x ∷ (y ∷ ws) = sym (parts_of 32 g.0 g.1 t g.2 g.3) ∙ q in
        let e : g.0 ≡ x = cc in
        (g.1, subst (IsFree 32) e g.2, cc, g.3 ∙ ap (λ p. p ++ 32 ∷ g.1) e)

-- letters with their weights, word by word
letter_more : (a : ℕ) (bs : List ℕ) (w : Weights) (t x y : List ℕ) (ws : List (List ℕ)) → words t ≡ x ∷ (y ∷ ws) → letter_of x ≡ Some a →
    ((rest : List ℕ) → words rest ≡ y ∷ ws → AreWeighed bs w rest) → AreWeighed (a ∷ bs) w t
letter_more a bs w t x y ws q e more = let h = next_word t x y ws q in (x, h.0, letter_form x a h.1 e, more h.0 h.2, h.3)

weights_last : (w : Weights) (t p s r : List ℕ) → words t ≡ p ∷ (s ∷ (r ∷ [])) → weights_from (number_of p) (number_of s) (number_of r) ≡ Some w → AreWeighed [] w t
weights_last w t p s r q e = weights_form t w (ap three_weights q ∙ e)

-- what stands behind the word run
abbrev pub IsRunEntry : Entry → List ℕ → Type 0
IsRunEntry (Letter e) t = ⊥
IsRunEntry (Pair p) t = AreWeighed (p.first ∷ (p.second ∷ [])) p.weights t
IsRunEntry (Long e) t = AreWeighed (long_letters e.run) e.weights t

long_parts : (a b c : Option ℕ) (d : Option (Option ℕ)) (v : Option Weights) (e : Entry) → long_weighs a b c d v ≡ Some e →
    (r : LongRun) × (w : Weights) × (a ≡ Some r.first) × (b ≡ Some r.second) × (c ≡ Some r.third) × (d ≡ Some r.fourth) × (v ≡ Some w)
    × (e ≡ Long (record { run = r; weights = w }))
long_parts None b c d v e k = none_some e k
long_parts (Some x) None c d v e k = none_some e k
long_parts (Some x) (Some y) None d v e k = none_some e k
long_parts (Some x) (Some y) (Some z) None v e k = none_some e k
long_parts (Some x) (Some y) (Some z) (Some u) None e k = none_some e k
long_parts (Some x) (Some y) (Some z) (Some u) (Some w) e k = (record { first = x; second = y; third = z; fourth = u }, w, refl, refl, refl, refl, refl, cc)

-- a fourth letter that is said
fourth_said : (d : Option ℕ) (u : Option ℕ) → option_map Some d ≡ Some u → (a : ℕ) × (d ≡ Some a) × (u ≡ Some a)
fourth_said None u k = none_some u k
fourth_said (Some a) u k = (a, refl, cc)

pub run_words_form : (ws : List (List ℕ)) (t : List ℕ) (e : Entry) → words t ≡ ws → run_entry ws ≡ Some e → IsRunEntry e t
run_words_form [] t e q k = none_some e k
run_words_form (x ∷ []) t e q k = none_some e k
run_words_form (x ∷ (y ∷ [])) t e q k = none_some e k
run_words_form (x ∷ (y ∷ (z ∷ []))) t e q k = none_some e k
run_words_form (x ∷ (y ∷ (z ∷ (u ∷ [])))) t e q k = none_some e k
run_words_form (x ∷ (y ∷ (p ∷ (s ∷ (r ∷ []))))) t e q k =
    let h = pair_parts (letter_of x) (letter_of y) (weights_from (number_of p) (number_of s) (number_of r)) e k in
    subst (λ (i : Entry). IsRunEntry i t) (sym h.6)
    (letter_more h.0 (h.1 ∷ []) h.2 t x y (p ∷ (s ∷ (r ∷ []))) q h.3 (λ t1 q1. letter_more h.1 [] h.2 t1 y p (s ∷ (r ∷ [])) q1 h.4 (λ t2 q2. weights_last h.2 t2 p s r q2 h.5)))
run_words_form (x ∷ (y ∷ (z ∷ (p ∷ (s ∷ (r ∷ [])))))) t e q k =
    let h = long_parts (letter_of x) (letter_of y) (letter_of z) (Some None) (weights_from (number_of p) (number_of s) (number_of r)) e k in
    let f : h.0.fourth ≡ None = cc in
    subst (λ (i : Entry). IsRunEntry i t) (sym h.7)
    (letter_more h.0.first (h.0.second ∷ (h.0.third ∷ one_or_none h.0.fourth)) h.1 t x y (z ∷ (p ∷ (s ∷ (r ∷ [])))) q h.2
    (λ t1 q1. letter_more h.0.second (h.0.third ∷ one_or_none h.0.fourth) h.1 t1 y z (p ∷ (s ∷ (r ∷ []))) q1 h.3
    (λ t2 q2. letter_more h.0.third (one_or_none h.0.fourth) h.1 t2 z p (s ∷ (r ∷ [])) q2 h.4
    (λ t3 q3. rw f (weights_last h.1 t3 p s r q3 h.6)))))
run_words_form (x ∷ (y ∷ (z ∷ (u ∷ (p ∷ (s ∷ (r ∷ []))))))) t e q k =
    let h = long_parts (letter_of x) (letter_of y) (letter_of z) (option_map Some (letter_of u)) (weights_from (number_of p) (number_of s) (number_of r)) e k in
    let f = fourth_said (letter_of u) h.0.fourth h.5 in
    subst (λ (i : Entry). IsRunEntry i t) (sym h.7)
    (letter_more h.0.first (h.0.second ∷ (h.0.third ∷ one_or_none h.0.fourth)) h.1 t x y (z ∷ (u ∷ (p ∷ (s ∷ (r ∷ []))))) q h.2
    (λ t1 q1. letter_more h.0.second (h.0.third ∷ one_or_none h.0.fourth) h.1 t1 y z (u ∷ (p ∷ (s ∷ (r ∷ [])))) q1 h.3
    (λ t2 q2. letter_more h.0.third (one_or_none h.0.fourth) h.1 t2 z u (p ∷ (s ∷ (r ∷ []))) q2 h.4
    (λ t3 q3. rw f.2 (letter_more f.0 [] h.1 t3 u p (s ∷ (r ∷ [])) q3 f.1 (λ t4 q4. weights_last h.1 t4 p s r q4 h.6))))))
run_words_form (x ∷ (y ∷ (z ∷ (u ∷ (p ∷ (s ∷ (r ∷ (v ∷ ws)))))))) t e q k = none_some e k

-- and read again
letter_words : (a : ℕ) (bs : List ℕ) (w : Weights) (t : List ℕ) (h : AreWeighed (a ∷ bs) w t) → words t ≡ h.0 ∷ words h.1
letter_words a bs w t h = parts_of 32 h.0 h.1 t (letter_free h.0 a h.2) h.4

pub run_read : (e : Entry) (t : List ℕ) → IsRunEntry e t → run_entry (words t) ≡ Some e
run_read (Letter e) t h = absurd h
run_read (Pair p) t h =
    rw (
      letter_words p.first (p.second ∷ []) p.weights t h,
      letter_words p.second [] p.weights h.1 h.3,
      weights_words h.3.1 p.weights h.3.3,
      letter_read h.0 p.first h.2,
      letter_read h.3.0 p.second h.3.2,
      weight_read h.3.3.0 p.weights.primary h.3.3.3,
      weight_read h.3.3.1 p.weights.secondary h.3.3.4,
      weight_read h.3.3.2 p.weights.tertiary h.3.3.5,
    ) refl
run_read (Long e) t h = go e.run.fourth refl h.3.3.3
  where
    go : (o : Option ℕ) → e.run.fourth ≡ o → AreWeighed (one_or_none o) e.weights h.3.3.1 → run_entry (words t) ≡ Some (Long e)
    go None f k =
        rw (
          letter_words e.run.first (e.run.second ∷ (e.run.third ∷ one_or_none e.run.fourth)) e.weights t h,
          letter_words e.run.second (e.run.third ∷ one_or_none e.run.fourth) e.weights h.1 h.3,
          letter_words e.run.third (one_or_none e.run.fourth) e.weights h.3.1 h.3.3,
          weights_words h.3.3.1 e.weights k,
          letter_read h.0 e.run.first h.2,
          letter_read h.3.0 e.run.second h.3.2,
          letter_read h.3.3.0 e.run.third h.3.3.2,
          weight_read k.0 e.weights.primary k.3,
          weight_read k.1 e.weights.secondary k.4,
          weight_read k.2 e.weights.tertiary k.5,
        ) (ap (λ (o : Option ℕ). Some (Long (record { run = record { first = e.run.first; second = e.run.second; third = e.run.third; fourth = o }; weights = e.weights }))) (sym f))
    go (Some d) f k =
        rw (
          letter_words e.run.first (e.run.second ∷ (e.run.third ∷ one_or_none e.run.fourth)) e.weights t h,
          letter_words e.run.second (e.run.third ∷ one_or_none e.run.fourth) e.weights h.1 h.3,
          letter_words e.run.third (one_or_none e.run.fourth) e.weights h.3.1 h.3.3,
          letter_words d [] e.weights h.3.3.1 k,
          weights_words k.1 e.weights k.3,
          letter_read h.0 e.run.first h.2,
          letter_read h.3.0 e.run.second h.3.2,
          letter_read h.3.3.0 e.run.third h.3.3.2,
          letter_read k.0 d k.2,
          weight_read k.3.0 e.weights.primary k.3.3,
          weight_read k.3.1 e.weights.secondary k.3.4,
          weight_read k.3.2 e.weights.tertiary k.3.5,
        ) (ap (λ (o : Option ℕ). Some (Long (record { run = record { first = e.run.first; second = e.run.second; third = e.run.third; fourth = o }; weights = e.weights }))) (sym f))
