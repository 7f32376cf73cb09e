-- What checking lent lists answers.
use Rattle.std.specs.Prelude.{◌≡◌, ℕ, ◌+◌, Bool, List, Option, cond, length, nat_lt, None, Some, Ok, Err, Result}
use Rattle.std.specs.Option.{option_map, option_or}
use denote.Ref.{Bor}
use Rattle.catalogue.specs.Lists.{Lists, lists, name_at, name_of, names_fault, places_fault}
use Rattle.catalogue.specs.declared.fault.ListFault.{ListFault}
use Rattle.catalogue.specs.declared.names.Names.{Names}
use Rattle.catalogue.specs.declared.view.Catalogue.{Catalogue}
use Rattle.table.specs.Meaning.{rules_of}
use Rattle.table.specs.declared.view.Table.{Table}

-- a text and its starts hold names, or the first fault is told
abbrev pub NamesChecked : (utf8 : Bool) → (text starts : List ℕ) → Result Names ListFault → Type 0
NamesChecked utf8 text starts (Ok names) = (names.utf8 ≡ utf8) × (names.text.now ≡ text) × (names.starts.now ≡ starts) × (names_fault utf8 text starts ≡ None)
NamesChecked utf8 text starts (Err why) = names_fault utf8 text starts ≡ Some why

-- lists are those of a catalogue under the table, or the first fault is told
abbrev pub ListsChecked : Table → (text starts places : List ℕ) → Result Catalogue ListFault → Type 0
ListsChecked t text starts places (Ok c) =
    (c.table ≡ t) × (c.text.now ≡ text) × (c.starts.now ≡ starts) × (c.places.now ≡ places)
    × (names_fault t.utf8 text starts ≡ None) × (places_fault (lists (rules_of t) text starts places) ≡ None)
ListsChecked t text starts places (Err why) = option_or (names_fault t.utf8 text starts) (places_fault (lists (rules_of t) text starts places)) ≡ Some why

-- what a catalogue is made of
abbrev pub lists_of : Catalogue → Lists
lists_of c = lists (rules_of c.table) c.text.now c.starts.now c.places.now

-- the name of a number, where it is one's; and none where it isn't
abbrev pub NameOf : (text starts : List ℕ) → (number : ℕ) → Option (Bor (List ℕ)) → Type 0
NameOf text starts i r = option_map (λ n. n.now) r ≡ cond (nat_lt (i + 1) (length starts)) (Some (name_of text starts i)) None

-- the name at a place of the list, where there is one; and none where there isn't
abbrev pub NameAt : Lists → (place : ℕ) → Option (Bor (List ℕ)) → Type 0
NameAt l k r = option_map (λ n. n.now) r ≡ cond (nat_lt k (length l.places)) (Some (name_at l k)) None
