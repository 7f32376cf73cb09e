-- The forms that lines have, as anybody would write them down.
use Rattle.std.specs.Prelude.{◌≡◌, ◌≢◌, ℕ, ◌^◌, ◌<◌, ◌≤◌, ◌⊎◌, true, List, [], ◌∷◌, ◌++◌, codes, length, take, drop}
use Rattle.std.specs.Str.Parse.{AllDigits, IsNumeral, digits_value}
use Rattle.pieces.specs.declared.piece.Triples.{Triples}
use Rattle.pieces.specs.declared.piece.Triples.TheVariants.{Excess, One, Several}
use Rattle.pieces.specs.declared.piece.Weights.{Weights}
use Rattle.pieces.specs.Runs.{expanded, long_letters}
use Rattle.texts.specs.declared.line.Entry.{Entry}
use Rattle.texts.specs.Lines.{Saying, enters, finds, names, wants_key}
use Rattle.texts.specs.declared.line.Entry.TheVariants.{Letter, Long, Pair}
use Rattle.utf8.specs.Laws.{all_letters}
use Rattle.utf8.specs.Letters.{bytes_of, is_letter, written}

-- bytes that are letters in UTF-8, one behind the other
abbrev pub AreLetters : List ℕ → Type 0
AreLetters n = (ls : List ℕ) × (all_letters ls ≡ true) × (written ls ≡ n)

-- the first byte at which no letter can be read: all bytes before it are letters, and none begins with it
abbrev pub IsDamage : (line : List ℕ) → (place : ℕ) → Type 0
IsDamage l k = (k < length l) × AreLetters (take k l) × ((a : ℕ) (rest : List ℕ) → is_letter a ≡ true → drop k l ≢ bytes_of a ++ rest)

-- a letter is written as itself, in UTF-8, if it is no space; or as U+ and four to six hexadecimal digits of its number
abbrev pub IsLetter : List ℕ → (letter : ℕ) → Type 0
IsLetter x a =
    ((x ≡ bytes_of a) × (is_letter a ≡ true) × (a ≡ 32 → ⊥))
    ⊎ ((d : List ℕ) × (x ≡ codes "U+" ++ d) × (4 ≤ length d) × (length d ≤ 6) × AllDigits 16 d × (digits_value 16 d ≡ a))

-- a weight is written as decimal digits, one or more, whose number is at most 65,535
abbrev pub IsWeight : List ℕ → (weight : ℕ) → Type 0
IsWeight x n = IsNumeral 10 x × (digits_value 10 x ≡ n) × (n < 2 ^ 16)

-- three weights have a space between
abbrev pub AreWeights : List ℕ → Weights → Type 0
AreWeights x w =
    (p : List ℕ) × (s : List ℕ) × (t : List ℕ) × IsWeight p w.primary × IsWeight s w.secondary × IsWeight t w.tertiary
    × (x ≡ p ++ (codes " " ++ (s ++ (codes " " ++ t))))

-- triples of weights, one or more, have a space between
abbrev pub AreSeveral : List ℕ → List Weights → Type 0
AreSeveral x [] = ⊥
AreSeveral x (w ∷ []) = AreWeights x w
AreSeveral x (w ∷ (v ∷ ws)) = (y : List ℕ) × (rest : List ℕ) × AreWeights y w × AreSeveral rest (v ∷ ws) × (x ≡ y ++ (codes " " ++ rest))

-- what a letter weighs is one triple, or two or three where it weighs so; more than three have a form too, and no table takes them
abbrev pub AreTriples : List ℕ → Triples → Type 0
AreTriples x (One w) = AreWeights x w
AreTriples x (Several e) = AreSeveral x (expanded e)
AreTriples x Excess = (ws : List Weights) × (4 ≤ length ws) × AreSeveral x ws

-- letters one after the other, a space behind each, and then their weights
abbrev pub AreWeighed : (letters : List ℕ) → Weights → List ℕ → Type 0
AreWeighed [] w t = AreWeights t w
AreWeighed (a ∷ bs) w t = (x : List ℕ) × (rest : List ℕ) × IsLetter x a × AreWeighed bs w rest × (t ≡ x ++ (codes " " ++ rest))

-- the line enters these letters and weights as a run: the word run, the letters and the weights
abbrev pub IsRunOf : (letters : List ℕ) → Weights → (line : List ℕ) → Type 0
IsRunOf bs w l = (t : List ℕ) × AreWeighed bs w t × (l ≡ codes "run " ++ t)

-- the line enters an entry as a run, of two letters or of three or four; what one letter weighs is entered by none
abbrev pub IsRun : Entry → (line : List ℕ) → Type 0
IsRun (Letter e) l = ⊥
IsRun (Pair p) l = IsRunOf (p.first ∷ (p.second ∷ [])) p.weights l
IsRun (Long e) l = IsRunOf (long_letters e.run) e.weights l

-- a word alone has no text behind it; else its text stands behind it and one space
abbrev pub HasText : (word text line : List ℕ) → Type 0
HasText w n l = ((l ≡ w) × (n ≡ [])) ⊎ (l ≡ w ++ (codes " " ++ n))

-- the five words that say what a line is, whatever stands behind them; run is none of them: a line with it that is no run is a name
abbrev pub IsReserved : List ℕ → Type 0
IsReserved w = (w ≡ codes "letter") ⊎ ((w ≡ codes "pair") ⊎ ((w ≡ codes "find") ⊎ ((w ≡ codes "key") ⊎ (w ≡ codes "name"))))

-- the line has the form of what is said: a word, and behind it what the word asks for, one space between; two letters that are
-- one may be entered as a pair or as a run; or a name alone, where the line is not empty, is none of the five words, neither alone
-- nor with a text behind, and is no run
abbrev pub HasForm : Saying → (line : List ℕ) → Type 0
HasForm (enters (Letter e)) l =
    (x : List ℕ) × (y : List ℕ) × IsLetter x e.letter × AreTriples y e.weights × (l ≡ codes "letter " ++ (x ++ (codes " " ++ y)))
HasForm (enters (Pair p)) l =
    ((x : List ℕ) × (y : List ℕ) × (z : List ℕ) × IsLetter x p.first × IsLetter y p.second × AreWeights z p.weights
    × (l ≡ codes "pair " ++ (x ++ (codes " " ++ (y ++ (codes " " ++ z))))))
    ⊎ IsRun (Pair p) l
HasForm (enters (Long e)) l = IsRun (Long e) l
HasForm (finds n) l = HasText (codes "find") n l
HasForm (wants_key n) l = HasText (codes "key") n l
HasForm (names n) l = HasText (codes "name") n l ⊎ ((l ≡ n) × (0 < length n) × ((w t : List ℕ) → IsReserved w → HasText w t n → ⊥) × ((e : Entry) → IsRun e n → ⊥))
