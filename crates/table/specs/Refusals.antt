-- Why numbers are turned away: which refusal, its number and its place.
use Rattle.std.specs.Prelude.{ℕ, zero, suc, ◌*◌, Bool, false, cond, not, ◌||◌, List, length, is_some, Some, None, Ok, Err, Option, Result, ◌==◌, nat_lt}
use Rattle.std.specs.List.{list_any}
use Rattle.std.specs.Option.{option_or}
use Rattle.pieces.specs.declared.piece.Long.{Long}
use Rattle.pieces.specs.Runs.{long_letters}
use Rattle.table.specs.declared.fault.Refusal.{Refusal}
use Rattle.table.specs.declared.fault.Refusal.TheVariants.{Letters, Shape, TooMany, Foreign, Twice, TooManyLetters, NoLetter, LetterTwice, RunLength, TooManyTriples}
use Rattle.table.specs.Numbers.{first_at, second_at, place_in}

-- a fault of runs, or of how many numbers there are, has the number 1, one of letters 4, a run that is too short or too long 6, and
-- a letter that weighs as more than three 7
abbrev pub refusal_number : Refusal → ℕ
refusal_number Letters = 1
refusal_number Shape = 1
refusal_number TooMany = 1
refusal_number (Foreign k) = 1
refusal_number (Twice k) = 1
refusal_number TooManyLetters = 4
refusal_number (NoLetter k) = 4
refusal_number (LetterTwice k) = 4
refusal_number (RunLength k) = 6
refusal_number (TooManyTriples k) = 7

-- the run or the entry at fault, counted from 0; of too many letters how many there may be; else 0
abbrev pub refusal_place : Refusal → ℕ
refusal_place Letters = 0
refusal_place Shape = 0
refusal_place TooMany = 0
refusal_place (Foreign k) = k
refusal_place (Twice k) = k
refusal_place TooManyLetters = 2000
refusal_place (NoLetter k) = k
refusal_place (LetterTwice k) = k
refusal_place (RunLength k) = k
refusal_place (TooManyTriples k) = k

-- the first place below n that passes the test
unfoldable pub first_place : (ℕ → Bool) → (n : ℕ) → Option ℕ
first_place test zero = None
first_place test (suc k) = cond (is_some (first_place test k)) (first_place test k) (cond (test k) (Some k) None)

-- the last letter that a run may have: bytes are letters up to 255, and UTF-8 has letters up to 65,535
abbrev pub last_letter : (utf8 : Bool) → ℕ
last_letter utf8 = cond utf8 65535 255

-- one of two letters is above it
abbrev pub unknown : (utf8 : Bool) → ℕ → ℕ → Bool
unknown utf8 a b = nat_lt (last_letter utf8) a || nat_lt (last_letter utf8) b

-- one of the letters of a run is above it
abbrev pub unknown_run : (utf8 : Bool) → List ℕ → Bool
unknown_run utf8 run = list_any (nat_lt (last_letter utf8)) run

-- none of the letters of a longer run is
abbrev pub known_long : (utf8 : Bool) → Long → Bool
known_long utf8 e = not (unknown_run utf8 (long_letters e.run))

-- the pair at place k has a letter above it
abbrev pub foreign : (utf8 : Bool) → List ℕ → ℕ → Bool
foreign utf8 ps k = unknown utf8 (first_at ps k) (second_at ps k)

-- the pair at place k equals an earlier one
abbrev pub repeated : List ℕ → ℕ → Bool
repeated ps k = is_some (place_in ps k (first_at ps k) (second_at ps k))

-- a place that was found is at fault; else see what comes next
abbrev pub at_place : (ℕ → Refusal) → Option ℕ → Option Refusal → Option Refusal
at_place why None next = next
at_place why (Some k) next = Some (why k)

-- the refusal by how many numbers there are
abbrev pub shape_refusal : (letters pairs n : ℕ) → Option Refusal
shape_refusal l p n =
    cond (not (l == 768)) (Some Letters)
    (cond (not (p == 5 * n)) (Some Shape)
    (cond (nat_lt 200 n) (Some TooMany) None))

-- the refusal of the numbers of a table of bytes, the first in this order; None where they are one
unfoldable pub refusal_of : (letters pairs : List ℕ) → (n : ℕ) → Option Refusal
refusal_of ls ps n =
    option_or (shape_refusal (length ls) (length ps) n)
    (at_place Foreign (first_place (foreign false ps) n)
    (at_place Twice (first_place (repeated ps) n) None))

-- what there is no refusal of is taken
abbrev pub verdict : Option Refusal → Result Unit Refusal
verdict None = Ok tt
verdict (Some why) = Err why
