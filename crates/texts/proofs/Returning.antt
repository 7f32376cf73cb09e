-- What is written as a line is read again.
use Rattle.std.proofs.Common.{◌≡◌, ℕ, zero, suc, ◌-◌, ◌^◌, ◌<◌, ◌≤◌, inl, inr, Bool, true, false, cond, ◌&&◌, leb, ltb, None, List, [], ◌∷◌, ◌++◌, length, get_or, codes, decimal, sym, refl, ap, ◌∙◌, rules, arith}
use Rattle.std.proofs.lemmas.Bool.{ne_eqb, and_parts, leb-true, cond-true, lt-ltb}
use Rattle.std.proofs.lemmas.Bool.Decides.{nat_tests}
use Rattle.std.proofs.lemmas.Fmt.{decimal_is_IsNumeral}
use Rattle.std.proofs.lemmas.List.{append-nil, append_assoc, get_or-append_right, length-append}
use Rattle.std.proofs.lemmas.List.Elements.{All-head, All-tail}
use Rattle.std.specs.List.{All}
use Rattle.std.specs.Char.{digit_value}
use Rattle.std.specs.Str.Parse.{AllDigits}
use Rattle.pieces.specs.declared.piece.Triples.{Triples}
use Rattle.pieces.specs.declared.piece.Triples.TheVariants.{Excess, One, Several}
use Rattle.pieces.specs.declared.piece.Weights.{Weights}
use Rattle.pieces.specs.Runs.{expanded, long_letters, one_or_none}
use Rattle.texts.specs.declared.line.Entry.{Entry}
use Rattle.texts.specs.declared.line.Entry.TheVariants.{Letter, Long, Pair}
use Rattle.texts.specs.Forms.{AreSeveral, AreTriples, AreWeighed, AreWeights, HasForm, IsLetter, IsWeight}
use Rattle.texts.specs.Laws.{AreShort, MayStand, MayWeigh, ReadsBack}
use Rattle.texts.specs.Lines.{Saying, enters, finds, meaning_of, names, says, wants_key}
use Rattle.texts.specs.Parts.{without_return}
use Rattle.texts.specs.Written.{hex_text, letter_text, letters_text, saying_text, several_text, triples_text, weights_text}
use Rattle.texts.proofs.Cutting.{IsFree, free_append, free_places, parts_free}
use Rattle.texts.proofs.Forming.{form_read}
use Rattle.texts.proofs.Writing.{hex_again}
use Rattle.utf8.specs.Reading.{later, unread}
use Rattle.utf8.proofs.Letters.{first_one, unread_none, unread_read}
use Rattle.utf8.proofs.Numbers.{in_one, letter_holds}

-- a letter and weights that are written have their forms
letter_written : (a : ℕ) → a < 2 ^ 24 → IsLetter (letter_text a) a
letter_written a l = go (leb 33 a && leb a 126) (λ t. let h = and_parts (leb 33 a) (leb a 126) t in (leb-true 33 a h.0, leb-true a 126 h.1))
  where
    go : (t : Bool) → (t ≡ true → (33 ≤ a) × (a ≤ 126)) → IsLetter (cond t (a ∷ []) (codes "U+" ++ hex_text a)) a
    go true h = let k = h refl in inl (sym (in_one a (omega arith)), letter_holds a (omega arith) (λ e. omega arith), omega arith)
    go false h = let k = hex_again a l in inr (hex_text a, refl, k.0, k.1, k.2, k.3)

weight_written : (n : ℕ) → n < 2 ^ 16 → IsWeight (decimal n) n
weight_written n l = let h = decimal_is_IsNumeral n (omega arith) in (h.0, h.1, l)

weights_written : (w : Weights) → AreShort w → AreWeights (weights_text w) w
weights_written w l = (decimal w.primary, decimal w.secondary, decimal w.tertiary, weight_written w.primary l.0, weight_written w.secondary l.1, weight_written w.tertiary l.2, refl)

abbrev IsSmall : ℕ → Type 0
IsSmall a = a < 2 ^ 24

letters_written : (a : ℕ) (bs : List ℕ) (w : Weights) → All IsSmall (a ∷ bs) → AreShort w → AreWeighed (a ∷ bs) w (letters_text (a ∷ bs) ++ (codes " " ++ weights_text w))
letters_written a [] w h l = (letter_text a, weights_text w, letter_written a (All-head IsSmall a [] h), weights_written w l, refl)
letters_written a (b ∷ bs) w h l =
    let rest = letters_text (b ∷ bs) in (
      letter_text a,
      rest ++ (codes " " ++ weights_text w),
      letter_written a (All-head IsSmall a (b ∷ bs) h),
      letters_written b bs w (All-tail IsSmall a (b ∷ bs) h) l,
      append_assoc (letter_text a) (codes " " ++ rest) (codes " " ++ weights_text w),
    )

several_written : (w : Weights) (ws : List Weights) → All AreShort (w ∷ ws) → AreSeveral (several_text (w ∷ ws)) (w ∷ ws)
several_written w [] h = weights_written w (All-head AreShort w [] h)
several_written w (v ∷ ws) h = (weights_text w, several_text (v ∷ ws), weights_written w (All-head AreShort w (v ∷ ws) h), several_written v ws (All-tail AreShort w (v ∷ ws) h), refl)

triples_written : (t : Triples) → MayWeigh t → (x : List ℕ) × AreTriples x t × (triples_text t ≡ codes " " ++ x)
triples_written (One w) h = (weights_text w, weights_written w h, refl)
triples_written (Several e) h = (several_text (expanded e), several_written e.first (e.second ∷ one_or_none e.third) h, refl)
triples_written Excess h = absurd h

-- a command that is written has its form
form_written : (s : Saying) → MayStand s → HasForm s (saying_text s)
form_written (enters (Letter e)) h =
    let k = triples_written e.weights h.1 in
    (letter_text e.letter, k.0, letter_written e.letter h.0, k.1, ap (λ l. codes "letter " ++ (letter_text e.letter ++ l)) k.2)
form_written (enters (Pair p)) h = inl (letter_text p.first, letter_text p.second, weights_text p.weights, letter_written p.first h.0, letter_written p.second h.1, weights_written p.weights h.2, refl)
form_written (enters (Long e)) h = (letters_text (long_letters e.run) ++ (codes " " ++ weights_text e.weights), letters_written e.run.first (e.run.second ∷ (e.run.third ∷ one_or_none e.run.fourth)) e.weights h.0 h.1, refl)
form_written (finds n) h = inr refl
form_written (wants_key n) h = inr refl
form_written (names n) h = inl (inr refl)

-- letters, numbers and entries are written in bytes that can be seen, and the space
abbrev IsSeen : List ℕ → Type 0
IsSeen [] = Unit {0}
IsSeen (x ∷ xs) = (32 ≤ x) × (x < 128) × IsSeen xs

seen_append : (xs ys : List ℕ) → IsSeen xs → IsSeen ys → IsSeen (xs ++ ys)
seen_append [] ys f g = g
seen_append (x ∷ xs) ys f g = (f.0, f.1, seen_append xs ys f.2 g)

digit_seen : (x : ℕ) → digit_value x < 36 → (32 ≤ x) × (x < 128)
digit_seen x h = grind (arith, nat_tests)

digits_seen : (base : ℕ) → base ≤ 36 → (w : List ℕ) → AllDigits base w → IsSeen w
digits_seen base l [] h = tt
digits_seen base l (x ∷ w) h = let k = digit_seen x (omega arith) in (k.0, k.1, digits_seen base l w h.1)

letter_seen : (a : ℕ) → a < 2 ^ 24 → IsSeen (letter_text a)
letter_seen a l = go (leb 33 a && leb a 126) (λ t. let h = and_parts (leb 33 a) (leb a 126) t in (leb-true 33 a h.0, leb-true a 126 h.1))
  where
    go : (t : Bool) → (t ≡ true → (33 ≤ a) × (a ≤ 126)) → IsSeen (cond t (a ∷ []) (codes "U+" ++ hex_text a))
    go true h = let k = h refl in (omega arith, omega arith, tt)
    go false h = (omega arith, omega arith, (omega arith, omega arith, digits_seen 16 (omega arith) (hex_text a) (hex_again a l).2))

decimal_seen : (n : ℕ) → n < 2 ^ 16 → IsSeen (decimal n)
decimal_seen n l = digits_seen 10 (omega arith) (decimal n) (decimal_is_IsNumeral n (omega arith)).0.1

behind_space : (xs ys : List ℕ) → IsSeen xs → IsSeen ys → IsSeen (xs ++ (codes " " ++ ys))
behind_space xs ys f g = seen_append xs (codes " " ++ ys) f (omega arith, omega arith, g)

weights_seen : (w : Weights) → AreShort w → IsSeen (weights_text w)
weights_seen w l = behind_space (decimal w.primary) _ (decimal_seen w.primary l.0) (behind_space (decimal w.secondary) _ (decimal_seen w.secondary l.1) (decimal_seen w.tertiary l.2))

several_seen : (w : Weights) (ws : List Weights) → All AreShort (w ∷ ws) → IsSeen (several_text (w ∷ ws))
several_seen w [] h = weights_seen w (All-head AreShort w [] h)
several_seen w (v ∷ ws) h = behind_space (weights_text w) _ (weights_seen w (All-head AreShort w (v ∷ ws) h)) (several_seen v ws (All-tail AreShort w (v ∷ ws) h))

triples_seen : (t : Triples) → MayWeigh t → IsSeen (triples_text t)
triples_seen (One w) h = (omega arith, omega arith, weights_seen w h)
triples_seen (Several e) h = (omega arith, omega arith, several_seen e.first (e.second ∷ one_or_none e.third) h)
triples_seen Excess h = absurd h

letters_seen : (a : ℕ) (bs : List ℕ) → All IsSmall (a ∷ bs) → IsSeen (letters_text (a ∷ bs))
letters_seen a [] h = letter_seen a (All-head IsSmall a [] h)
letters_seen a (b ∷ bs) h = behind_space (letter_text a) _ (letter_seen a (All-head IsSmall a (b ∷ bs) h)) (letters_seen b bs (All-tail IsSmall a (b ∷ bs) h))

entry_seen : (e : Entry) → MayStand (enters e) → IsSeen (saying_text (enters e))
entry_seen (Letter e) h = seen_append (codes "letter ") _ (search (rules, arith)) (seen_append (letter_text e.letter) _ (letter_seen e.letter h.0) (triples_seen e.weights h.1))
entry_seen (Pair p) h =
    seen_append (codes "pair ") _ (search (rules, arith))
    (behind_space (letter_text p.first) _ (letter_seen p.first h.0) (behind_space (letter_text p.second) _ (letter_seen p.second h.1) (weights_seen p.weights h.2)))
entry_seen (Long e) h = seen_append (codes "run ") _ (search (rules, arith)) (behind_space (letters_text (long_letters e.run)) _ (letters_seen e.run.first (e.run.second ∷ (e.run.third ∷ one_or_none e.run.fourth)) h.0) (weights_seen e.weights h.1))

-- no mark below the space stands in them
seen_free : (m : ℕ) → m < 32 → (xs : List ℕ) → IsSeen xs → IsFree m xs
seen_free m l [] h = tt
seen_free m l (x ∷ xs) h = (λ e. omega arith, seen_free m l xs h.2)

-- and they are letters, with letters behind them too
seen_read : (xs ys : List ℕ) → IsSeen xs → unread ys ≡ None → unread (xs ++ ys) ≡ None
seen_read [] ys h u = u
seen_read (x ∷ xs) ys h u =
    unread_read (x ∷ (xs ++ ys)) x 1 (first_one x (xs ++ ys) h.1)
    ∙ (cond-true (ltb x 65536) _ _ (lt-ltb x 65536 (omega arith)) ∙ ap (later 1) (seen_read xs ys h.2 u))

all_read : (s : Saying) → MayStand s → unread (saying_text s) ≡ None
all_read (enters e) h = ap unread (sym (append-nil (saying_text (enters e)))) ∙ seen_read (saying_text (enters e)) [] (entry_seen e h) unread_none
all_read (finds n) h = seen_read (codes "find ") n (search (rules, arith)) h.0
all_read (wants_key n) h = seen_read (codes "key ") n (search (rules, arith)) h.0
all_read (names n) h = seen_read (codes "name ") n (search (rules, arith)) h.0

-- no line that is written has a line feed
one_line : (s : Saying) → MayStand s → IsFree 10 (saying_text s)
one_line (enters e) h = seen_free 10 (omega arith) (saying_text (enters e)) (entry_seen e h)
one_line (finds n) h = free_append 10 (codes "find ") n (search (rules, arith)) (free_places 10 n h.1)
one_line (wants_key n) h = free_append 10 (codes "key ") n (search (rules, arith)) (free_places 10 n h.1)
one_line (names n) h = free_append 10 (codes "name ") n (search (rules, arith)) (free_places 10 n h.1)

-- and none has a carriage return at its end
never_reads : (xs : List ℕ) (k : ℕ) → IsFree 13 xs → get_or xs k 0 ≡ 13 → ⊥
never_reads [] k f e = omega arith
never_reads (x ∷ xs) zero f e = f.0 e
never_reads (x ∷ xs) (suc k) f e = never_reads xs k f.1 e

end_behind : (p n : List ℕ) → IsFree 13 p → (get_or n (length n - 1) 0 ≡ 13 → ⊥) → get_or (p ++ n) (length (p ++ n) - 1) 0 ≡ 13 → ⊥
end_behind p [] f h = rw append-nil (never_reads p (length p - 1) f)
end_behind p (x ∷ n) f h =
    let l = length-append p (x ∷ n) in
    let e : length (p ++ x ∷ n) - 1 - length p ≡ length (x ∷ n) - 1 = omega arith in
    let k = get_or-append_right p (x ∷ n) (length p) (length (p ++ x ∷ n) - 1) 0 refl (omega arith) in
    λ q. h (sym (k ∙ ap (λ i. get_or (x ∷ n) i 0) e) ∙ q)

no_return : (s : Saying) → MayStand s → get_or (saying_text s) (length (saying_text s) - 1) 0 ≡ 13 → ⊥
no_return (enters e) h = never_reads (saying_text (enters e)) (length (saying_text (enters e)) - 1) (seen_free 13 (omega arith) (saying_text (enters e)) (entry_seen e h))
no_return (finds n) h = end_behind (codes "find ") n (search (rules, arith)) h.2
no_return (wants_key n) h = end_behind (codes "key ") n (search (rules, arith)) h.2
no_return (names n) h = end_behind (codes "name ") n (search (rules, arith)) h.2

kept : (l : List ℕ) → (get_or l (length l - 1) 0 ≡ 13 → ⊥) → without_return l ≡ l
kept l h = rw (ne_eqb (get_or l (length l - 1) 0) 13 h) refl

-- so it is read again
pub read_again : (s : Saying) → MayStand s → (l : List ℕ) → l ≡ saying_text s → meaning_of (without_return l) ≡ says s
read_again s h l e = ap (λ t. meaning_of (without_return t)) e ∙ (ap meaning_of (kept (saying_text s) (no_return s h)) ∙ form_read s (saying_text s) (all_read s h) (form_written s h))

pub reads_back : ReadsBack
reads_back s h = (parts_free 10 (saying_text s) (one_line s h), read_again s h (saying_text s) refl)
