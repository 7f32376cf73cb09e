-- What lines ask for, and what is written, as a text is read line after line.
use Rattle.std.specs.Prelude.{◌≡◌, ℕ, ◌+◌, ◌-◌, Bool, true, false, cond, List, [], ◌∷◌, ◌++◌, length, take, Ok, Err, Result, ◌==◌, slice_index, vec_items}
use Rattle.catalogue.specs.Filling.{held_rules}
use Rattle.nullahbowl.specs.Sessions.{Settled, Taken, found_names}
use Rattle.nullahbowl.specs.Writing.{found_text, table_text}
use Rattle.nullahbowl.specs.declared.answer.Answer.{Answer}
use Rattle.nullahbowl.specs.declared.answer.Answer.TheVariants.{Find, Key, Nothing}
use Rattle.nullahbowl.specs.declared.answer.TakeError.{TakeError}
use Rattle.nullahbowl.specs.declared.answer.TakeError.TheVariants.{Full, NoMemory, Refused}
use Rattle.nullahbowl.specs.declared.argument.Options.{Options}
use Rattle.nullahbowl.specs.declared.session.Session.{Session}
use Rattle.table.specs.Buffer.{buffer_longs, buffer_pairs}
use Rattle.texts.specs.declared.fault.Fault.{Fault}
use Rattle.texts.specs.declared.fault.Fault.TheVariants.{Bytes, Name, Question, Table, Text}
use Rattle.texts.specs.Lines.{meaning_of}
use Rattle.texts.specs.Parts.{parts, without_return}
use Rattle.texts.specs.Written.{numbers_text}

-- a text without the line feed at its end, if it has one
abbrev pub without_feed : List ℕ → List ℕ
without_feed t = cond (slice_index t (length t - 1) == 10) (take (length t - 1) t) t

-- the lines of a text, in their order: a line feed stands between each and the next, and may stand behind the last
abbrev pub lines_in : List ℕ → List (List ℕ)
lines_in t = parts 10 (without_feed t)

-- a line that was taken asks for something
abbrev pub asks : Answer → Bool
asks Nothing = false
asks (Key v) = true
asks (Find n) = true

-- so does one that is turned away as a question
abbrev pub is_question : Fault → Bool
is_question (Question why) = true
is_question (Table why) = false
is_question (Name why) = false
is_question (Text k) = false
is_question (Bytes k) = false

-- how many questions a line is: one or none
abbrev pub asked_in : Result Answer TakeError → ℕ
asked_in (Ok a) = cond (asks a) 1 0
asked_in (Err (Refused why)) = cond (is_question why) 1 0
asked_in (Err Full) = 0
asked_in (Err NoMemory) = 0

-- how many lines of this one are turned away: one or none
abbrev pub faults_in : Result Answer TakeError → ℕ
faults_in (Ok a) = 0
faults_in (Err why) = 1

-- what is written where a line was taken: the key that it asks for, as its numbers, or the names that begin so
abbrev pub answer_text : Options → Session → Answer → List ℕ
answer_text o s Nothing = []
answer_text o s (Key v) = numbers_text (vec_items v) ++ 10 ∷ []
answer_text o s (Find n) = found_text o (found_names s n.now)

-- for a line that is turned away nothing is
abbrev pub line_text : Options → Session → Result Answer TakeError → List ℕ
line_text o s (Ok a) = answer_text o s a
line_text o s (Err why) = []

-- the line at place k is taken or turned away, and memory is not wanting; so many lines are turned away and so many ask for
-- something, none or one; and w is written
abbrev pub LineTaken : Options → Session → (line : List ℕ) → (k faults asked : ℕ) → (w : List ℕ) → Session → Type 0
LineTaken o s l k f q w t =
    (r : Result Answer TakeError)
    × Taken s (meaning_of (without_return l)) k r t × (r ≡ Err NoMemory → ⊥)
    × (f ≡ faults_in r) × (q ≡ asked_in r) × (w ≡ line_text o t r)

-- so are these lines, one after the other, of which the first is at place k
unfoldable pub LinesTaken : Options → Session → (lines : List (List ℕ)) → (k faults asked : ℕ) → (w : List ℕ) → Session → Type 0
LinesTaken o s [] k f q w t = (f ≡ 0) × (q ≡ 0) × (w ≡ []) × (t ≡ s)
LinesTaken o s (l ∷ ls) k f q w t =
    (m : Session) × (d e p r : ℕ) × (v x : List ℕ)
    × LineTaken o s l k d p v m × LinesTaken o m ls (k + 1) e r x t
    × (f ≡ d + e) × (q ≡ p + r) × (w ≡ v ++ x)

-- what is written behind all answers, where so many lines asked for something, and what it changes: the table, where it is
-- wanted; else, where no line did, all names, which are put in order; else nothing
abbrev pub EndTold : Options → (asked : ℕ) → Session → (w : List ℕ) → Session → Type 0
EndTold o q s w t =
    elim o.table [
      | true ↦ (w ≡ table_text (held_rules s.book) (buffer_pairs s.book.table) (buffer_longs s.book.table)) × (t ≡ s)
      | false ↦ elim (q == 0) [ true ↦ Settled s (Ok tt) t × (w ≡ found_text o (found_names t [])) | false ↦ (w ≡ []) × (t ≡ s) ]
    ]
