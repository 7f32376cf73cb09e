-- What is found in lists that are lent, and not checked before.
use Rattle.std.specs.Prelude.{◌≡◌, ℕ, Bool, List, is_none, ◌&&◌}
use Rattle.catalogue.specs.Finding.{Found, looked_through, may_ask}
use Rattle.catalogue.specs.Lists.{Lists, lists, names_fault, places_fault}
use Rattle.table.specs.Refusals.{refusal_of}
use Rattle.table.specs.Rules.{rules_in}

-- the numbers are those of a table
abbrev pub is_table : (letters joins : List ℕ) → (how_many : ℕ) → Bool
is_table ls js n = is_none (refusal_of ls js n)

-- the lists are those of a catalogue
abbrev pub are_listed : Lists → Bool
are_listed l = is_none (names_fault l.rules.utf8 l.text l.starts) && is_none (places_fault l)

-- The part that begins so, where all is as it should be, else a part of none; and what looking through the whole list gives
-- then.
abbrev pub FindsIn : Bool → Lists → (ask part : List ℕ) → Type 0
FindsIn right l ask part = Found right l ask part × (part ≡ looked_through right l ask)

-- under a checked table all is as it should be where the lists are those of a catalogue and what is asked is a name
abbrev pub FindsUnder : Lists → (ask part : List ℕ) → Type 0
FindsUnder l ask part = FindsIn (are_listed l && may_ask l ask) l ask part

-- all is as it should be: the table, the lists, and what is asked
abbrev pub all_right : (letters joins : List ℕ) → (how_many : ℕ) → (text starts places ask : List ℕ) → Bool
all_right ls js n text starts places ask = is_table ls js n && (are_listed (lists (rules_in ls js n) text starts places) && may_ask (lists (rules_in ls js n) text starts places) ask)

-- under numbers, where they are a table too
abbrev pub FindSays : (letters joins : List ℕ) → (how_many : ℕ) → (text starts places ask part : List ℕ) → Type 0
FindSays ls js n text starts places ask part =
    FindsIn (all_right ls js n text starts places ask) (lists (rules_in ls js n) text starts places) ask part
