-- What a line says.
use Rattle.std.specs.Prelude.{ℕ, cond, List, [], ◌∷◌, Some, None, codes, Option}
use Rattle.std.specs.Option.{option_map}
use Rattle.std.specs.Str.{bytes_eq}
use Rattle.pieces.specs.declared.piece.Triples.{Triples}
use Rattle.pieces.specs.declared.piece.Triples.TheVariants.{Excess, One, Several}
use Rattle.pieces.specs.declared.piece.Weights.{Weights}
use Rattle.texts.specs.declared.line.Command.{Command}
use Rattle.texts.specs.declared.line.Command.TheVariants.{Enter, Find, Key, Name}
use Rattle.texts.specs.declared.line.Entry.{Entry}
use Rattle.texts.specs.declared.line.Entry.TheVariants.{Letter, Long, Pair}
use Rattle.texts.specs.declared.line.Line.{Line}
use Rattle.texts.specs.declared.line.Line.TheVariants.{Blank, NotUtf8, Says, Unreadable}
use Rattle.texts.specs.declared.line.Word.{Word}
use Rattle.texts.specs.declared.line.Word.TheVariants as word
use Rattle.texts.specs.Numerals.{letter_of, number_of}
use Rattle.texts.specs.Parts.{behind, front, words}
use Rattle.utf8.specs.Reading.{unread}

-- three weights, where all are numbers
abbrev pub weights_from : Option ℕ → Option ℕ → Option ℕ → Option Weights
weights_from None b c = None
weights_from (Some p) None c = None
weights_from (Some p) (Some s) None = None
weights_from (Some p) (Some s) (Some t) = Some (record { primary = p; secondary = s; tertiary = t })

-- three numbers, and nothing behind
abbrev pub three_weights : List (List ℕ) → Option Weights
three_weights [] = None
three_weights (a ∷ []) = None
three_weights (a ∷ (b ∷ [])) = None
three_weights (a ∷ (b ∷ (c ∷ []))) = weights_from (number_of a) (number_of b) (number_of c)
three_weights (a ∷ (b ∷ (c ∷ (d ∷ ws)))) = None

-- a triple in front of others, where all are there
abbrev pub in_front : Option Weights → Option (List Weights) → Option (List Weights)
in_front None ws = None
in_front (Some w) None = None
in_front (Some w) (Some ws) = Some (w ∷ ws)

-- words in threes, each three the weights of a triple; none where words are left over, or one is no weight
abbrev pub in_threes : List (List ℕ) → Option (List Weights)
in_threes [] = Some []
in_threes (a ∷ []) = None
in_threes (a ∷ (b ∷ [])) = None
in_threes (a ∷ (b ∷ (c ∷ ws))) = in_front (weights_from (number_of a) (number_of b) (number_of c)) (in_threes ws)

-- triples by how many they are; more than three are for the table to turn away
abbrev pub as_triples : Option (List Weights) → Option Triples
as_triples None = None
as_triples (Some []) = None
as_triples (Some (u ∷ [])) = Some (One u)
as_triples (Some (u ∷ (v ∷ []))) = Some (Several (record { first = u; second = v; third = None }))
as_triples (Some (u ∷ (v ∷ (w ∷ [])))) = Some (Several (record { first = u; second = v; third = Some w }))
as_triples (Some (u ∷ (v ∷ (w ∷ (x ∷ ws))))) = Some Excess

-- a letter and what it weighs; whether it is one of the table is for the table to say
abbrev pub letter_weighs : Option ℕ → Option Triples → Option Entry
letter_weighs None w = None
letter_weighs (Some a) None = None
letter_weighs (Some a) (Some w) = Some (Letter (record { letter = a; weights = w }))

-- what stands behind the word letter
abbrev pub letter_entry : List (List ℕ) → Option Entry
letter_entry [] = None
letter_entry (x ∷ ws) = letter_weighs (letter_of x) (as_triples (in_threes ws))

-- a pair and its weights; whether its letters are known is for the table to say
abbrev pub pair_weighs : Option ℕ → Option ℕ → Option Weights → Option Entry
pair_weighs None b w = None
pair_weighs (Some a) None w = None
pair_weighs (Some a) (Some b) None = None
pair_weighs (Some a) (Some b) (Some w) = Some (Pair (record { first = a; second = b; weights = w }))

-- what stands behind the word pair
abbrev pub pair_entry : List (List ℕ) → Option Entry
pair_entry [] = None
pair_entry (x ∷ []) = None
pair_entry (x ∷ (y ∷ ws)) = pair_weighs (letter_of x) (letter_of y) (three_weights ws)

-- a run of three letters, or of four where a fourth is said, and its weights; whether its letters are known is for the table to say
abbrev pub long_weighs : Option ℕ → Option ℕ → Option ℕ → (fourth : Option (Option ℕ)) → Option Weights → Option Entry
long_weighs None b c d w = None
long_weighs (Some x) None c d w = None
long_weighs (Some x) (Some y) None d w = None
long_weighs (Some x) (Some y) (Some z) None w = None
long_weighs (Some x) (Some y) (Some z) (Some u) None = None
long_weighs (Some x) (Some y) (Some z) (Some u) (Some w) =
    Some (Long (record { run = record { first = x; second = y; third = z; fourth = u }; weights = w }))

-- what stands behind the word run: two letters and three weights are five words, three letters six, and four letters seven
abbrev pub run_entry : List (List ℕ) → Option Entry
run_entry [] = None
run_entry (x ∷ []) = None
run_entry (x ∷ (y ∷ [])) = None
run_entry (x ∷ (y ∷ (z ∷ []))) = None
run_entry (x ∷ (y ∷ (z ∷ (u ∷ [])))) = None
run_entry (x ∷ (y ∷ (p ∷ (s ∷ (t ∷ []))))) = pair_weighs (letter_of x) (letter_of y) (weights_from (number_of p) (number_of s) (number_of t))
run_entry (x ∷ (y ∷ (z ∷ (p ∷ (s ∷ (t ∷ [])))))) =
    long_weighs (letter_of x) (letter_of y) (letter_of z) (Some None) (weights_from (number_of p) (number_of s) (number_of t))
run_entry (x ∷ (y ∷ (z ∷ (u ∷ (p ∷ (s ∷ (t ∷ []))))))) =
    long_weighs (letter_of x) (letter_of y) (letter_of z) (option_map Some (letter_of u)) (weights_from (number_of p) (number_of s) (number_of t))
run_entry (x ∷ (y ∷ (z ∷ (u ∷ (p ∷ (s ∷ (t ∷ (v ∷ ws)))))))) = None

-- what a line may say, in plain values: an entry for the table; names that begin so, or the key of a name, are asked for; one
-- name more
pub data Saying : Type 0 where
  enters : Entry → Saying
  finds : List ℕ → Saying
  wants_key : List ℕ → Saying
  names : List ℕ → Saying

-- the text behind the first word and one space
abbrev pub text_of : Option (List ℕ) → List ℕ
text_of None = []
text_of (Some text) = text

-- the words at the front of a line that say what it is
abbrev pub word_of : List ℕ → Option Word
word_of w =
    cond (bytes_eq w (codes "letter")) (Some word.Letter)
    (cond (bytes_eq w (codes "pair")) (Some word.Pair)
    (cond (bytes_eq w (codes "run")) (Some word.Run)
    (cond (bytes_eq w (codes "find")) (Some word.Find)
    (cond (bytes_eq w (codes "key")) (Some word.Key)
    (cond (bytes_eq w (codes "name")) (Some word.Name) None)))))

-- a run is entered; a line with its word that is none is a name, whole
abbrev pub run_saying : Option Entry → (line : List ℕ) → Saying
run_saying None l = names l
run_saying (Some e) l = enters e

-- what a line says by its first word, and by the text behind it; a line with none of these words is a name, whole
abbrev pub by_word : Option Word → (text line : List ℕ) → Option Saying
by_word (Some word.Letter) text l = option_map enters (letter_entry (words text))
by_word (Some word.Pair) text l = option_map enters (pair_entry (words text))
by_word (Some word.Run) text l = Some (run_saying (run_entry (words text)) l)
by_word (Some word.Find) text l = Some (finds text)
by_word (Some word.Key) text l = Some (wants_key text)
by_word (Some word.Name) text l = Some (names text)
by_word None text l = Some (names l)

-- what a line says that is not empty
abbrev pub command_of : List ℕ → Option Saying
command_of l = by_word (word_of (front 32 l)) (text_of (behind 32 l)) l

-- what any line may mean: nothing, or what it says; or it can't be read, or has a byte at which no letter can be read: its place
pub data Meaning : Type 0 where
  blank : Meaning
  says : Saying → Meaning
  unreadable : Meaning
  damaged : ℕ → Meaning

-- what is no command can't be read
abbrev pub said : Option Saying → Meaning
said None = unreadable
said (Some s) = says s

-- what a line means all of which is letters
abbrev pub whole_meaning : List ℕ → Meaning
whole_meaning [] = blank
whole_meaning (x ∷ xs) = said (command_of (x ∷ xs))

-- the first byte at which no letter can be read is told before all else
abbrev pub unless_damaged : Option ℕ → Meaning → Meaning
unless_damaged None m = m
unless_damaged (Some k) m = damaged k

-- what a line means
unfoldable pub meaning_of : List ℕ → Meaning
meaning_of l = unless_damaged (unread l) (whole_meaning l)

-- a command in plain values
abbrev pub saying : Command → Saying
saying (Enter e) = enters e
saying (Find n) = finds n.now
saying (Key n) = wants_key n.now
saying (Name n) = names n.now

-- a line that was read in plain values
abbrev pub meaning : Line → Meaning
meaning Blank = blank
meaning (Says c) = says (saying c)
meaning Unreadable = unreadable
meaning (NotUtf8 k) = damaged k
