-- A list of all names, made by putting them in order.
use Rattle.std.specs.Prelude.{◌≡◌, ℕ, ◌-◌, ◌^◌, ◌<◌, ◌≤◌, IsPermutation, List, None, Ok, Err, Result, length, slice_index_or}
use Rattle.std.specs.List.{range_with_len}
use Rattle.catalogue.specs.Lists.{Lists, lists, name_at, places_fault}
use Rattle.catalogue.specs.declared.fault.TooMany.{TooMany}
use Rattle.keys.specs.Rows.{key}
use Rattle.table.specs.Rules.{Rules}
use Rattle.table.specs.declared.fault.Failure.{Failure}
use Rattle.table.specs.declared.fault.Failure.TheVariants.{NoMemory, Refused}

-- The list is a rearrangement of all numbers; nothing is wrong with it, so it is in order; and of names with the same key the
-- number rises.
pub record Arranged (l : Lists) : Type 0 where
  pub all : IsPermutation (range_with_len 0 (length l.starts - 1)) l.places
  pub right : places_fault l ≡ None
  pub ties : (i j : ℕ) → i < j → j < length l.places → key l.rules (name_at l i) ≡ key l.rules (name_at l j) → slice_index_or l.places i 0 < slice_index_or l.places j 0

-- the list of all names; or there are more of them than numbers of 32 bits; or memory is wanting
abbrev pub ListMade : {V : Type 0} → Rules → (text starts : List ℕ) → (V → List ℕ) → Result V (Failure TooMany) → Type 0
ListMade t text starts items (Ok v) = Arranged (lists t text starts (items v))
ListMade t text starts items (Err (Refused why)) = (why.names ≡ length starts - 1) × (2 ^ 32 < length starts - 1)
ListMade t text starts items (Err NoMemory) = length starts - 1 ≤ 2 ^ 32
