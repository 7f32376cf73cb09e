-- What many jobs of one kind come to.
use Rattle.std.specs.Prelude.{◌≡◌, ℕ, zero, suc, ◌+◌, ◌-◌, ◌%◌, ◌^◌, Bool, cond, List, [], Some, None, Option, ◌++◌, drop, length, min, is_none, slice_index_or, ◌&&◌, nat_lt, true, false}
use Rattle.catalogue.specs.Arranging.{Arranged}
use Rattle.catalogue.specs.Entry.{are_listed, is_table}
use Rattle.catalogue.specs.Finding.{looked_through, may_ask}
use Rattle.catalogue.specs.Lists.{Lists, lists, name_of, names_fault}
use Rattle.keys.specs.Rows.{key}
use Rattle.order.specs.Names.{name_before}
use Rattle.table.specs.Meaning.{rules_of}
use Rattle.table.specs.Rules.{Rules, rules_by}
use Rattle.table.specs.declared.view.Table.{Table}

-- the numbers of the first n, added up as far as 64 bits go
unfoldable pub total : (ℕ → ℕ) → (n : ℕ) → ℕ
total f zero = 0
total f (suc n) = (total f n + f n) % 2 ^ 64

-- as many names as 32 bits number
abbrev pub numbered : (starts : List ℕ) → ℕ
numbered starts = min (length starts - 1) (2 ^ 32 - 1)

-- the first numbers of the room are the key, where it fits
abbrev pub over : (key room : List ℕ) → List ℕ
over k room = cond (nat_lt (length room) (length k)) room (k ++ drop (length k) room)

-- the room when the keys of the first n names have been written, each over the one before
unfoldable pub room_after : (key_of : ℕ → List ℕ) → (room : List ℕ) → (n : ℕ) → List ℕ
room_after k room zero = room
room_after k room (suc n) = over (k n) (room_after k room n)

-- how many numbers of the next key are written: all, where it fits
abbrev pub written : (key_of : ℕ → List ℕ) → (room : List ℕ) → ℕ → ℕ
written k room i = cond (nat_lt (length (room_after k room i)) (length (k i))) 0 (length (k i))

-- the key of the name of a number
abbrev pub key_at : Rules → (text starts : List ℕ) → ℕ → List ℕ
key_at t text starts i = key t (name_of text starts i)

-- a table that is lent as numbers, read as one of bytes or of names in UTF-8; none where the numbers are no table
abbrev pub TableOf : (letters pairs : List ℕ) → (how_many : ℕ) → (utf8 : Bool) → Option Table → Type 0
TableOf ls ps n utf8 None = is_table ls ps n ≡ false
TableOf ls ps n utf8 (Some t) = (is_table ls ps n ≡ true) × (rules_of t ≡ rules_by utf8 ls [] ps n)

-- the numbers are a table, and text and starts hold names
abbrev pub are_names : (letters pairs : List ℕ) → (how_many : ℕ) → (utf8 : Bool) → (text starts : List ℕ) → Bool
are_names ls ps n utf8 text starts = is_table ls ps n && is_none (names_fault utf8 text starts)

-- the numbers are a table, and the lists those of a catalogue
abbrev pub lists_right : (letters pairs : List ℕ) → (how_many : ℕ) → (utf8 : Bool) → (text starts places : List ℕ) → Bool
lists_right ls ps n utf8 text starts places = is_table ls ps n && are_listed (lists (rules_by utf8 ls [] ps n) text starts places)

-- the name of one number is before that of another, and both are names'
unfoldable pub in_order_of : Rules → (text starts : List ℕ) → (one other : ℕ) → Bool
in_order_of t text starts i j =
    nat_lt (i + 1) (length starts) && (nat_lt (j + 1) (length starts) && name_before t (name_of text starts i) (name_of text starts j))

-- 1 where the name behind a place of the list is after the one at it, else 0; numbers that are no name's count 0
abbrev pub in_order_at : Lists → ℕ → ℕ
in_order_at l k = cond (in_order_of l.rules l.text l.starts (slice_index_or l.places k 0) (slice_index_or l.places (k + 1) 0)) 1 0

-- how many names are found for the question of a number
abbrev pub found_at : Lists → (asks ask_starts : List ℕ) → ℕ → ℕ
found_at l asks ask_starts i = length (looked_through (may_ask l (name_of asks ask_starts i)) l (name_of asks ask_starts i))

-- a list of all names is made, and stands in the room, which has as many places; else the room is as it was
abbrev pub Listed : (right : Bool) → Lists → (after : List ℕ) → (made : Bool) → Type 0
Listed right l after true = (right ≡ true) × Arranged (lists l.rules l.text l.starts after)
Listed right l after false = after ≡ l.places
