-- How letters, entries, commands, numbers, changes and messages are written.
use Rattle.std.specs.Prelude.{ℕ, ◌-◌, true, cond, ◌&&◌, List, [], ◌∷◌, ◌++◌, codes, decimal, length, nat_le, replicate}
use Rattle.std.specs.Fmt.{digits}
use Rattle.keys.specs.declared.level.Level.{Level}
use Rattle.keys.specs.declared.level.Level.TheVariants.{Primary, Secondary, Tertiary}
use Rattle.keys.specs.declared.fault.NameRefusal.{NameRefusal}
use Rattle.keys.specs.declared.fault.NameRefusal.TheVariants.{NotUtf8, TooLong}
use Rattle.keys.specs.Refusals.{name_refusal_number, name_refusal_place}
use Rattle.order.specs.declared.newer.Change.{Change}
use Rattle.order.specs.declared.newer.Change.TheVariants.{Utf8, Joins, Expands, Counts, Order}
use Rattle.order.specs.declared.piece.Piece.{Piece}
use Rattle.order.specs.Pieces.{run_in}
use Rattle.table.specs.declared.fault.Refusal.{Refusal}
use Rattle.table.specs.declared.fault.Refusal.TheVariants.{Letters, Shape, TooMany, Foreign, Twice, TooManyLetters, NoLetter, LetterTwice, RunLength, TooManyTriples}
use Rattle.pieces.specs.declared.piece.Triples.{Triples}
use Rattle.pieces.specs.declared.piece.Triples.TheVariants.{Excess, One, Several}
use Rattle.pieces.specs.declared.piece.Weights.{Weights}
use Rattle.pieces.specs.Runs.{expanded, long_letters}
use Rattle.table.specs.Refusals.{refusal_number, refusal_place}
use Rattle.texts.specs.declared.fault.Fault.{Fault}
use Rattle.texts.specs.declared.fault.Fault.TheVariants.{Table, Name, Question, Text, Bytes}
use Rattle.texts.specs.declared.line.Entry.{Entry}
use Rattle.texts.specs.declared.line.Entry.TheVariants as entry
use Rattle.texts.specs.Lines.{Saying, enters, finds, names, wants_key}

-- large hexadecimal digits, with zeros in front where there are fewer than four
abbrev pub hex_text : ℕ → List ℕ
hex_text a = replicate (4 - length (digits 16 true a)) 48 ++ digits 16 true a

-- a letter is written as itself where it can be seen and is one byte, else by its number
abbrev pub letter_text : ℕ → List ℕ
letter_text a = cond (nat_le 33 a && nat_le a 126) (a ∷ []) (codes "U+" ++ hex_text a)

-- three numbers with a space between
abbrev pub weights_text : Weights → List ℕ
weights_text w = decimal w.primary ++ (codes " " ++ (decimal w.secondary ++ (codes " " ++ decimal w.tertiary)))

-- triples with a space between
abbrev pub several_text : List Weights → List ℕ
several_text [] = []
several_text (w ∷ []) = weights_text w
several_text (w ∷ (v ∷ ws)) = weights_text w ++ (codes " " ++ several_text (v ∷ ws))

-- what stands behind a letter: a space and its triples; nothing where they are more than three, which no letter of a table has
abbrev pub triples_text : Triples → List ℕ
triples_text (One w) = codes " " ++ weights_text w
triples_text (Several e) = codes " " ++ several_text (expanded e)
triples_text Excess = []

-- letters with a space between
abbrev pub letters_text : List ℕ → List ℕ
letters_text [] = []
letters_text (a ∷ []) = letter_text a
letters_text (a ∷ (b ∷ bs)) = letter_text a ++ (codes " " ++ letters_text (b ∷ bs))

-- an entry, as the line that says it
abbrev pub entry_text : Entry → List ℕ
entry_text (entry.Letter e) = codes "letter " ++ (letter_text e.letter ++ triples_text e.weights)
entry_text (entry.Pair p) = codes "pair " ++ (letter_text p.first ++ (codes " " ++ (letter_text p.second ++ (codes " " ++ weights_text p.weights))))
entry_text (entry.Long e) = codes "run " ++ (letters_text (long_letters e.run) ++ (codes " " ++ weights_text e.weights))

-- a command, as the line that says it
abbrev pub saying_text : Saying → List ℕ
saying_text (enters e) = entry_text e
saying_text (finds n) = codes "find " ++ n
saying_text (wants_key n) = codes "key " ++ n
saying_text (names n) = codes "name " ++ n

-- numbers with one space between
unfoldable pub numbers_text : List ℕ → List ℕ
numbers_text [] = []
numbers_text (x ∷ []) = decimal x
numbers_text (x ∷ (y ∷ xs)) = decimal x ++ (codes " " ++ numbers_text (y ∷ xs))

-- the number of what is turned away: 1 a table, 2 a name, 3 a text, 4 a letter, 5 bytes, 6 how many letters a run has, 7 how many
-- triples a letter has
abbrev pub fault_number : Fault → ℕ
fault_number (Table why) = refusal_number why
fault_number (Name why) = name_refusal_number why
fault_number (Question why) = name_refusal_number why
fault_number (Text line) = 3
fault_number (Bytes byte) = 5

-- its place: the table's, the name's, the line, or the byte
abbrev pub fault_place : Fault → ℕ
fault_place (Table why) = refusal_place why
fault_place (Name why) = name_refusal_place why
fault_place (Question why) = name_refusal_place why
fault_place (Text line) = line
fault_place (Bytes byte) = byte

-- what is wrong with a table
abbrev pub refusal_sentence : Refusal → List ℕ
refusal_sentence Letters = codes "a table has three weights for each of 256 letters"
refusal_sentence Shape = codes "each pair is five numbers, two letters and three weights"
refusal_sentence TooMany = codes "a table has at most 200 pairs and longer runs"
refusal_sentence (Foreign k) = codes "the letters of a pair or a longer run are at most U+FFFF, and U+00FF where each byte is one"
refusal_sentence (Twice k) = codes "these letters are one together already"
refusal_sentence TooManyLetters = codes "a table has at most 2000 letters that weigh something"
refusal_sentence (NoLetter k) = codes "letters are U+0000 to U+FFFF, without U+D800 to U+DFFF"
refusal_sentence (LetterTwice k) = codes "this letter weighs something already"
refusal_sentence (RunLength k) = codes "a run has two to four letters"
refusal_sentence (TooManyTriples k) = codes "a letter weighs as three at the most"

-- what is wrong with bytes
abbrev pub bytes_sentence : List ℕ
bytes_sentence = codes "names are bytes in UTF-8, with letters up to U+FFFF"

-- what is wrong with a name
abbrev pub name_sentence : NameRefusal → List ℕ
name_sentence (TooLong k) = codes "a name has at most 1000 letters"
name_sentence (NotUtf8 k) = bytes_sentence

-- what is wrong with a name that is asked about
abbrev pub question_sentence : NameRefusal → List ℕ
question_sentence (TooLong k) = codes "a name that is asked about has at most 1000 letters"
question_sentence (NotUtf8 k) = bytes_sentence

-- what is wrong
abbrev pub sentence_of : Fault → List ℕ
sentence_of (Table why) = refusal_sentence why
sentence_of (Name why) = name_sentence why
sentence_of (Question why) = question_sentence why
sentence_of (Text line) = codes "a line that begins so is 'letter X a b c', with six or nine weights where X weighs as two or three, or 'pair X Y a b c', one space between, letters as themselves or as U+ and four to six hexadecimal digits, weights up to 65535; a name that begins so needs 'name ' in front"
sentence_of (Bytes byte) = bytes_sentence

-- the message: number, place and sentence
abbrev pub fault_text : Fault → List ℕ
fault_text f = codes "turned away with " ++ (decimal (fault_number f) ++ (codes " at " ++ (decimal (fault_place f) ++ (codes ": " ++ sentence_of f))))

-- the letters of a piece, one space between
abbrev pub piece_text : Piece → List ℕ
piece_text p = letters_text (run_in p)

-- levels are counted from 1 where they are written
abbrev pub level_number : Level → ℕ
level_number Primary = 1
level_number Secondary = 2
level_number Tertiary = 3

-- what a newer table changes
abbrev pub change_text : Change → List ℕ
change_text Utf8 = codes "names are in UTF-8 under only one of the tables"
change_text (Joins p) = piece_text p ++ codes " are one together in only one of the tables"
change_text (Expands p) = piece_text p ++ codes " weighs as another number of letters than before"
change_text (Counts p l) = piece_text p ++ (codes " weighs 0 on level " ++ (decimal (level_number l) ++ codes " in only one of the tables"))
change_text (Order p q l) = piece_text p ++ (codes " and " ++ (piece_text q ++ (codes " stand otherwise on level " ++ decimal (level_number l))))
