-- The lists of a catalogue: the names that they hold, and what may be wrong with them.
use Rattle.std.specs.Prelude.{ℕ, zero, suc, ◌+◌, ◌-◌, Bool, cond, List, length, slice_index_or, slice_range, None, Some, Option, ◌&&◌, ◌==◌, nat_lt, nat_le}
use Rattle.std.specs.Option.{option_map, option_or}
use Rattle.catalogue.specs.declared.fault.ListFault.{ListFault}
use Rattle.catalogue.specs.declared.fault.ListFault.TheVariants.{NoStart, StartFalls, EndsElsewhere, NameRefused, NoSuchName, OutOfOrder}
use Rattle.keys.specs.Refusals.{name_refusal}
use Rattle.order.specs.Names.{name_before}
use Rattle.table.specs.Refusals.{first_place}
use Rattle.table.specs.Rules.{Rules}

-- all that a list is made of: the rules that it is in order by, the text of all names, their starts, and the names' numbers
pub record Lists : Type 0 where
  pub rules : Rules
  pub text : List ℕ
  pub starts : List ℕ
  pub places : List ℕ

abbrev pub lists : Rules → (text starts places : List ℕ) → Lists
lists t text starts places = record { rules = t; text = text; starts = starts; places = places }

-- the name of a number: the text from its start up to the next
abbrev pub name_of : (text starts : List ℕ) → (number : ℕ) → List ℕ
name_of text starts i = slice_range text (slice_index_or starts i 0) (slice_index_or starts (i + 1) 0)

-- the name at a place of the list
abbrev pub name_at : Lists → ℕ → List ℕ
name_at l k = name_of l.text l.starts (slice_index_or l.places k 0)

-- a start is before the one in front of it
abbrev pub falls : (starts : List ℕ) → ℕ → Bool
falls starts k = nat_lt 0 k && nat_lt (slice_index_or starts k 0) (slice_index_or starts (k - 1) 0)

-- the number at a place of the list is no name's
abbrev pub no_such_name : (starts places : List ℕ) → ℕ → Bool
no_such_name starts places k = nat_le (length starts - 1) (slice_index_or places k 0)

-- the name at a place of the list is before the one in front of it
abbrev pub out_of_order : Lists → ℕ → Bool
out_of_order l k = nat_lt 0 k && name_before l.rules (name_at l k) (name_at l (k - 1))

-- what is wrong with the starts of names in a text, the first in this order; None where nothing is
unfoldable pub starts_fault : (text starts : List ℕ) → Option ListFault
starts_fault text starts =
    option_or (cond (length starts == 0) (Some NoStart) None)
    (option_or (option_map StartFalls (first_place (falls starts) (length starts)))
    (cond (slice_index_or starts (length starts - 1) 0 == length text) None (Some (EndsElsewhere (length starts - 1)))))

-- the first of the names with numbers below n that is turned away, and why
unfoldable pub first_refused : (utf8 : Bool) → (text starts : List ℕ) → (n : ℕ) → Option ListFault
first_refused utf8 text starts zero = None
first_refused utf8 text starts (suc k) =
    option_or (first_refused utf8 text starts k) (option_map (NameRefused k) (name_refusal utf8 (name_of text starts k)))

-- what is wrong with names in a text: with their starts, or else with a name
unfoldable pub names_fault : (utf8 : Bool) → (text starts : List ℕ) → Option ListFault
names_fault utf8 text starts = option_or (starts_fault text starts) (first_refused utf8 text starts (length starts - 1))

-- what is wrong with a list of names' numbers, the first in this order
unfoldable pub places_fault : Lists → Option ListFault
places_fault l =
    option_or (option_map NoSuchName (first_place (no_such_name l.starts l.places) (length l.places)))
    (option_map OutOfOrder (first_place (out_of_order l) (length l.places)))

-- where a fault is, counted from 0; of a name that is turned away its number
abbrev pub fault_place : ListFault → ℕ
fault_place NoStart = 0
fault_place (StartFalls k) = k
fault_place (EndsElsewhere k) = k
fault_place (NameRefused i why) = i
fault_place (NoSuchName k) = k
fault_place (OutOfOrder k) = k
