-- What the entry that makes a key answers, and what it leaves in the room.
use Rattle.std.specs.Prelude.{◌≡◌, ℕ, cond, List, ◌++◌, length, drop, false, is_some, nat_lt}
use Rattle.table.specs.Refusals.{refusal_of}
use Rattle.table.specs.Rules.{rules_in}
use Rattle.keys.specs.declared.entry.Done.{Done}
use Rattle.keys.specs.declared.entry.Done.TheVariants.{Keyed, Short, Refused}
use Rattle.keys.specs.Refusals.{name_refusal}
use Rattle.keys.specs.Rows.{key}

-- a key of k numbers for room of so many
abbrev pub fits_in : (room k : ℕ) → Done
fits_in room k = cond (nat_lt room k) (Short k) (Keyed k)

-- the table is checked first (1), then the name (2), then whether the key fits
abbrev pub done_of : (letters joins : List ℕ) → (how_many : ℕ) → (name : List ℕ) → (room : ℕ) → Done
done_of ls js n x room =
    cond (is_some (refusal_of ls js n)) (Refused 1)
    (cond (is_some (name_refusal false x)) (Refused 2)
    (fits_in room (length (key (rules_in ls js n) x))))

-- a key that is made stands in front of the rest of the room; else the room is as it was
abbrev pub room_after : Done → (key room : List ℕ) → List ℕ
room_after (Keyed n) k room = k ++ drop n room
room_after (Short n) k room = room
room_after (Refused n) k room = room

-- what is answered for a table's numbers, a name and room, and what the room holds then
abbrev pub KeySays : (letters joins : List ℕ) → (how_many : ℕ) → (name room : List ℕ) → Done → (after : List ℕ) → Type 0
KeySays ls js n x room r after = (r ≡ done_of ls js n x (length room)) × (after ≡ room_after r (key (rules_in ls js n) x) room)
