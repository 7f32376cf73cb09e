-- Lent records as a table of names in UTF-8: what they say, and why they are turned away.
use Rattle.std.specs.Prelude.{◌≡◌, ℕ, ◌+◌, ◌<◌, Bool, true, false, cond, ◌&&◌, ◌||◌, List, [], ◌∷◌, ◌++◌, length, Some, None, Ok, Err, Option, Result, ◌==◌, nat_lt}
use Rattle.std.specs.List.{filter, list_any}
use Rattle.std.specs.Option.{option_or}
use Rattle.pieces.specs.declared.piece.LetterEntry.{LetterEntry}
use Rattle.pieces.specs.declared.piece.Run.{Run}
use Rattle.pieces.specs.declared.piece.Triples.{Triples}
use Rattle.pieces.specs.declared.piece.Triples.TheVariants.{One}
use Rattle.pieces.specs.declared.piece.Weights.{Weights}
use Rattle.pieces.specs.Runs.{alone, counts_some, nothing, same_run, several}
use Rattle.table.specs.declared.buffer.TableBuf.{TableBuf}
use Rattle.table.specs.declared.fault.Failure.{Failure}
use Rattle.table.specs.declared.fault.Failure.TheVariants.{Refused, NoMemory}
use Rattle.table.specs.declared.fault.Refusal.{Refusal}
use Rattle.table.specs.declared.fault.Refusal.TheVariants.{TooMany, Foreign, Twice, TooManyLetters, RunLength}
use Rattle.table.specs.Buffer.{buffer_letters, buffer_rules, buffer_runs, entry_refusal, excess_refusal}
use Rattle.table.specs.Refusals.{unknown_run}
use Rattle.table.specs.Rules.{Rules, with_run}

-- what a letter weighs: what its entry says that weighs something
unfoldable pub letter_told : List LetterEntry → ℕ → Triples
letter_told [] a = One nothing
letter_told (e ∷ es) a = cond (e.letter == a && counts_some e.weights) e.weights (letter_told es a)

-- what a run weighs: what its record says
unfoldable pub run_told : List Run → List ℕ → Weights
run_told [] run = nothing
run_told (r ∷ rs) run = cond (same_run r.letters.now run) r.weights (run_told rs run)

-- a run is one where it is the letters of some record
abbrev pub is_told : List Run → List ℕ → Bool
is_told rs run = list_any (λ r. same_run r.letters.now run) rs

-- what a letter weighs, and a run
abbrev pub records_weigh : (letters : List LetterEntry) → (runs : List Run) → List ℕ → Weights
records_weigh ls rs [] = nothing
records_weigh ls rs (a ∷ []) = alone (letter_told ls a)
records_weigh ls rs (a ∷ (b ∷ run)) = run_told rs (a ∷ (b ∷ run))

-- what a letter expands to that weighs as two or three
abbrev pub records_expand : (letters : List LetterEntry) → List ℕ → List Weights
records_expand ls [] = []
records_expand ls (a ∷ []) = several (letter_told ls a)
records_expand ls (a ∷ (b ∷ run)) = []

-- what records say
abbrev pub records_rules : (letters : List LetterEntry) → (runs : List Run) → Rules
records_rules ls rs = record { joins = is_told rs; weighs = records_weigh ls rs; expands = records_expand ls; utf8 = true }

-- how many entries weigh something
abbrev pub many_weighing : List LetterEntry → ℕ
many_weighing ls = length (filter (λ e. counts_some e.weights) ls)

-- the first refusal of a list of records, each of which is looked at with those in front of it
unfoldable pub first_refusal : {A : Type 0} → (List A → A → Option Refusal) → (front : List A) → List A → Option Refusal
first_refusal look front [] = None
first_refusal look front (x ∷ xs) = option_or (look front x) (first_refusal look (front ++ x ∷ []) xs)

-- a run has a letter above 65,535
abbrev pub foreign_record : (front : List Run) → Run → Option Refusal
foreign_record front r = cond (unknown_run true r.letters.now) (Some (Foreign (length front))) None

-- a run equals one in front of it
abbrev pub twice_record : (front : List Run) → Run → Option Refusal
twice_record front r = cond (is_told front r.letters.now) (Some (Twice (length front))) None

-- a run has fewer letters than two, or more than four
abbrev pub length_record : (front : List Run) → Run → Option Refusal
length_record front r = cond (nat_lt (length r.letters.now) 2 || nat_lt 4 (length r.letters.now)) (Some (RunLength (length front))) None

-- an entry weighs something, and is no letter or one that an entry in front of it weighs
abbrev pub letter_record : (front : List LetterEntry) → LetterEntry → Option Refusal
letter_record front e = cond (counts_some e.weights) (entry_refusal true (counts_some (letter_told front e.letter)) (length front) e.letter None) None

-- an entry weighs as more than three
abbrev pub excess_record : (front : List LetterEntry) → LetterEntry → Option Refusal
excess_record front e = excess_refusal (length front) e.weights

-- the refusal of the runs, the first in this order
abbrev pub runs_refusal : List Run → Option Refusal
runs_refusal rs =
    cond (nat_lt 200 (length rs)) (Some TooMany)
    (option_or (first_refusal foreign_record [] rs) (first_refusal twice_record [] rs))

-- the refusal of the letters, the first in this order
abbrev pub letters_refusal : List LetterEntry → Option Refusal
letters_refusal ls = cond (nat_lt 2000 (many_weighing ls)) (Some TooManyLetters) (first_refusal letter_record [] ls)

-- the refusal of the records; None where they are a table
abbrev pub records_refusal : (letters : List LetterEntry) → (runs : List Run) → Option Refusal
records_refusal ls rs = option_or (runs_refusal rs) (option_or (letters_refusal ls) (option_or (first_refusal length_record [] rs) (first_refusal excess_record [] ls)))

-- the table says what the records say
abbrev pub Says : (letters : List LetterEntry) → (runs : List Run) → TableBuf → Type 0
Says ls rs b = (buffer_rules b ≡ records_rules ls rs) × (buffer_letters b ≡ many_weighing ls) × (buffer_runs b ≡ length rs)

-- the table says what these records say, and they are not refused
pub record IsOf (ls : List LetterEntry) (rs : List Run) (b : TableBuf) : Type 0 where
  pub taken : records_refusal ls rs ≡ None
  pub said : Says ls rs b

-- one run more is free to be written: there is room for it, its letters are known, and they are not one yet
pub record IsFree (t : Rules) (many : ℕ) (run : List ℕ) : Type 0 where
  pub room : many < 200
  pub known : unknown_run t.utf8 run ≡ false
  pub apart : t.joins run ≡ false

-- a run is there
abbrev pub RunIn : TableBuf → Run → TableBuf → Type 0
RunIn b r c = (buffer_rules c ≡ with_run (buffer_rules b) r.letters.now r.weights) × (buffer_letters c ≡ buffer_letters b) × (buffer_runs c ≡ buffer_runs b + 1)

-- records are a table, which says what they say; or they are turned away, or there is no memory for it
abbrev pub MadeOf : (letters : List LetterEntry) → (runs : List Run) → Result TableBuf (Failure Refusal) → Type 0
MadeOf ls rs (Ok b) = (records_refusal ls rs ≡ None) × Says ls rs b
MadeOf ls rs (Err (Refused why)) = records_refusal ls rs ≡ Some why
MadeOf ls rs (Err NoMemory) = records_refusal ls rs ≡ None
