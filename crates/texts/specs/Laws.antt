-- What is promised of texts and lines.
use Rattle.std.specs.Prelude.{◌≡◌, ℕ, ◌-◌, ◌^◌, ◌<◌, List, [], ◌∷◌, ◌++◌, length, None, slice_index}
use Rattle.std.specs.List.{All, join_with_byte}
use Rattle.pieces.specs.declared.piece.Triples.{Triples}
use Rattle.pieces.specs.declared.piece.Triples.TheVariants.{Excess, One, Several}
use Rattle.pieces.specs.declared.piece.Weights.{Weights}
use Rattle.pieces.specs.Runs.{expanded, long_letters}
use Rattle.texts.specs.Forms.{AreLetters, HasForm, IsDamage}
use Rattle.texts.specs.Lines.{Saying, damaged, enters, finds, meaning_of, names, says, unreadable, wants_key}
use Rattle.texts.specs.Parts.{parts, without_return}
use Rattle.texts.specs.Written.{saying_text}
use Rattle.texts.specs.declared.line.Entry.TheVariants.{Letter, Long, Pair}
use Rattle.utf8.specs.Reading.{unread}

-- a text in which the mark does not stand
abbrev pub IsWithout : (mark : ℕ) → List ℕ → Type 0
IsWithout m t = (k : ℕ) → k < length t → slice_index t k ≡ m → ⊥

-- a text has a part, if an empty one; its parts hold no mark; and joined, with the mark between each and the next, they are the text
abbrev pub PartsJoin : Type 0
PartsJoin = (m : ℕ) (t : List ℕ) → (0 < length (parts m t)) × All (IsWithout m) (parts m t) × (join_with_byte m (parts m t) ≡ t)

-- the parts of two texts with the mark between are those of the one, and behind them those of the other
abbrev pub PartsApart : Type 0
PartsApart = (m : ℕ) (s t : List ℕ) → parts m (s ++ m ∷ t) ≡ parts m s ++ parts m t

-- a line means damage at a place exactly if no letter can be read there, and this is the first such byte
abbrev pub JustItsDamage : Type 0
JustItsDamage = (l : List ℕ) (k : ℕ) → (meaning_of l ≡ damaged k → IsDamage l k) × (IsDamage l k → meaning_of l ≡ damaged k)

-- any other line is letters, and says just what it has the form of
abbrev pub JustItsForm : Type 0
JustItsForm = (s : Saying) (l : List ℕ) → (meaning_of l ≡ says s → AreLetters l × HasForm s l) × (AreLetters l × HasForm s l → meaning_of l ≡ says s)

-- what has no form: letters, one or more, that are the form of nothing
abbrev pub HasNone : List ℕ → Type 0
HasNone l = AreLetters l × (0 < length l) × ((s : Saying) → HasForm s l → ⊥)

-- a line of letters that is not empty can't be read exactly if it has no form
abbrev pub NoOther : Type 0
NoOther = (l : List ℕ) → (meaning_of l ≡ unreadable → HasNone l) × (HasNone l → meaning_of l ≡ unreadable)

-- weights of 16 bits
abbrev pub AreShort : Weights → Type 0
AreShort w = (w.primary < 2 ^ 16) × (w.secondary < 2 ^ 16) × (w.tertiary < 2 ^ 16)

-- one, two or three triples of such
abbrev pub MayWeigh : Triples → Type 0
MayWeigh (One w) = AreShort w
MayWeigh (Several e) = All AreShort (expanded e)
MayWeigh Excess = ⊥

-- a text that can stand in a line: it is in UTF-8, no line feed is in it, and no carriage return at its end
abbrev pub IsInLine : List ℕ → Type 0
IsInLine n = (unread n ≡ None) × IsWithout 10 n × (slice_index n (length n - 1) ≡ 13 → ⊥)

-- a command that can stand in a line; six hexadecimal digits say letters below 16,777,216
abbrev pub MayStand : Saying → Type 0
MayStand (enters (Letter e)) = (e.letter < 2 ^ 24) × MayWeigh e.weights
MayStand (enters (Pair p)) = (p.first < 2 ^ 24) × (p.second < 2 ^ 24) × AreShort p.weights
MayStand (enters (Long e)) = All (λ a. a < 2 ^ 24) (long_letters e.run) × AreShort e.weights
MayStand (finds n) = IsInLine n
MayStand (wants_key n) = IsInLine n
MayStand (names n) = IsInLine n

-- a command that is written is one line, wherever it stands in a text, and is read again as what it was
abbrev pub ReadsBack : Type 0
ReadsBack = (s : Saying) → MayStand s → (parts 10 (saying_text s) ≡ saying_text s ∷ []) × (meaning_of (without_return (saying_text s)) ≡ says s)

-- all of these
pub record TextLaws : Type 0 where
  pub parts_join : PartsJoin
  pub parts_apart : PartsApart
  pub just_its_damage : JustItsDamage
  pub just_its_form : JustItsForm
  pub no_other : NoOther
  pub reads_back : ReadsBack
