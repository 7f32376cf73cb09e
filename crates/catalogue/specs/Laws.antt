-- What is promised of lists, and of what is found in them.
use Rattle.std.specs.Prelude.{◌≡◌, ℕ, ◌+◌, ◌-◌, ◌<◌, ◌≤◌, Bool, true, false, List, [], Some, None, filter, length, map, slice_index_or, drop}
use Rattle.std.specs.List.{concat, range_with_len}
use Rattle.catalogue.specs.Arranging.{Arranged}
use Rattle.catalogue.specs.Finding.{BothOrNeither, PartFound, begins_so, looked_through}
use Rattle.catalogue.specs.Lists.{Lists, lists, name_at, name_of, names_fault, places_fault}
use Rattle.catalogue.specs.declared.fault.ListFault.{ListFault}
use Rattle.catalogue.specs.declared.fault.ListFault.TheVariants.{NoStart, StartFalls, EndsElsewhere, NameRefused, NoSuchName, OutOfOrder}
use Rattle.keys.specs.Letters.{letters_in, unread_in}
use Rattle.keys.specs.Refusals.{name_refusal}
use Rattle.keys.specs.Rows.{row}
use Rattle.keys.specs.declared.level.Level.TheVariants.{Primary}
use Rattle.order.specs.Laws.{InOrder}
use Rattle.order.specs.Names.{name_before}
use Rattle.table.specs.Rules.{Rules}

-- ---- names

-- of so many starts none is before the one in front of it
abbrev pub NoneFalls : (starts : List ℕ) → (many : ℕ) → Type 0
NoneFalls starts n = (k : ℕ) → k + 1 < n → slice_index_or starts k 0 ≤ slice_index_or starts (k + 1) 0

-- bytes are a name: a letter can be read everywhere, and there are at most 1,000
abbrev pub IsName : (utf8 : Bool) → List ℕ → Type 0
IsName utf8 n = (unread_in utf8 n ≡ None) × (length (letters_in utf8 n) ≤ 1000)

-- those with numbers below this one are names
abbrev pub NamesBelow : (utf8 : Bool) → (text starts : List ℕ) → (many : ℕ) → Type 0
NamesBelow utf8 text starts n = (k : ℕ) → k < n → IsName utf8 (name_of text starts k)

-- A text and starts hold names: there is a start, none is before the one in front of it, the last is the end of the text, and
-- what stands from each to the next is a name.
pub record AreNames (utf8 : Bool) (text starts : List ℕ) : Type 0 where
  pub some : 0 < length starts
  pub none_falls : NoneFalls starts (length starts)
  pub ends : slice_index_or starts (length starts - 1) 0 ≡ length text
  pub names : NamesBelow utf8 text starts (length starts - 1)

-- nothing is wrong with them exactly if they hold names
abbrev pub ExactlyNames : Type 0
ExactlyNames =
    (utf8 : Bool) (text starts : List ℕ) →
    (names_fault utf8 text starts ≡ None → AreNames utf8 text starts) × (AreNames utf8 text starts → names_fault utf8 text starts ≡ None)

-- that this is wrong with them, and nothing that is looked for before it
abbrev pub NamesWrong : (utf8 : Bool) → (text starts : List ℕ) → ListFault → Type 0
NamesWrong utf8 text starts NoStart = length starts ≡ 0
NamesWrong utf8 text starts (StartFalls k) = (0 < k) × (k < length starts) × (slice_index_or starts k 0 < slice_index_or starts (k - 1) 0) × NoneFalls starts k
NamesWrong utf8 text starts (EndsElsewhere k) = (k + 1 ≡ length starts) × (slice_index_or starts k 0 ≡ length text → ⊥) × NoneFalls starts (length starts)
NamesWrong utf8 text starts (NameRefused i why) =
    (i + 1 < length starts) × (name_refusal utf8 (name_of text starts i) ≡ Some why) × NamesBelow utf8 text starts i
    × (slice_index_or starts (length starts - 1) 0 ≡ length text) × NoneFalls starts (length starts)
NamesWrong utf8 text starts (NoSuchName k) = ⊥
NamesWrong utf8 text starts (OutOfOrder k) = ⊥

-- what is told is the first that is wrong
abbrev pub FirstOfNames : Type 0
FirstOfNames = (utf8 : Bool) (text starts : List ℕ) (why : ListFault) → names_fault utf8 text starts ≡ Some why → NamesWrong utf8 text starts why

-- from the first start on the text is its names, one behind the other
abbrev pub Tiled : Type 0
Tiled = (utf8 : Bool) (text starts : List ℕ) → names_fault utf8 text starts ≡ None → concat (map (name_of text starts) (range_with_len 0 (length starts - 1))) ≡ drop (slice_index_or starts 0 0) text

-- ---- lists

-- the names of a list, in the order of their places
abbrev pub names_of : Lists → List (List ℕ)
names_of l = map (name_of l.text l.starts) l.places

-- the numbers at the first so many places are names'
abbrev pub AllKnown : Lists → (many : ℕ) → Type 0
AllKnown l n = (k : ℕ) → k < n → slice_index_or l.places k 0 + 1 < length l.starts

-- all numbers are names', and of any two names the later is not before the earlier
pub record IsInOrder (l : Lists) : Type 0 where
  pub known : AllKnown l (length l.places)
  pub order : InOrder l.rules (names_of l)

-- nothing is wrong with a list, of which only neighbours are compared, exactly if it is so
abbrev pub ExactlyLists : Type 0
ExactlyLists = (l : Lists) → (places_fault l ≡ None → IsInOrder l) × (IsInOrder l → places_fault l ≡ None)

-- that this is wrong with it, and nothing that is looked for before it
abbrev pub PlacesWrong : Lists → ListFault → Type 0
PlacesWrong l (NoSuchName k) = (k < length l.places) × (length l.starts ≤ slice_index_or l.places k 0 + 1) × AllKnown l k
PlacesWrong l (OutOfOrder k) =
    (0 < k) × (k < length l.places) × (name_before l.rules (name_at l k) (name_at l (k - 1)) ≡ true)
    × ((j : ℕ) → j + 1 < k → name_before l.rules (name_at l (j + 1)) (name_at l j) ≡ false) × AllKnown l (length l.places)
PlacesWrong l NoStart = ⊥
PlacesWrong l (StartFalls k) = ⊥
PlacesWrong l (NameRefused i why) = ⊥
PlacesWrong l (EndsElsewhere k) = ⊥

-- what is told is the first that is wrong
abbrev pub FirstOfPlaces : Type 0
FirstOfPlaces = (l : Lists) (why : ListFault) → places_fault l ≡ Some why → PlacesWrong l why

-- just that part: what is found is what looking through the whole list gives
abbrev pub JustThatPart : Type 0
JustThatPart = (l : Lists) (ask part : List ℕ) → PartFound l ask part → part ≡ filter (begins_so l ask) l.places

-- and there is one: in a list with which nothing is wrong the names that begin as asked stand together
abbrev pub PartThere : Type 0
PartThere = (l : Lists) (ask : List ℕ) → places_fault l ≡ None → PartFound l ask (filter (begins_so l ask) l.places)

-- all names begin as asked where the first row asked for is empty
abbrev pub AllBegin : Type 0
AllBegin = (l : Lists) (ask : List ℕ) → row Primary l.rules ask ≡ [] → filter (begins_so l ask) l.places ≡ l.places

-- what looking through a list gives has both or neither of two names one of which is the other written out
abbrev pub WrittenOutTogether : Type 0
WrittenOutTogether = (right : Bool) (l : Lists) (ask : List ℕ) → BothOrNeither l (looked_through right l ask)

-- names can always be put in order: under any rules there is a list of all of them
abbrev pub SomeList : Type 0
SomeList = (t : Rules) (text starts : List ℕ) → (places : List ℕ) × Arranged (lists t text starts places)

-- putting names in order gives one list only: two that are so are the same
abbrev pub OneList : Type 0
OneList = (t : Rules) (text starts one other : List ℕ) → Arranged (lists t text starts one) → Arranged (lists t text starts other) → one ≡ other

-- all of these
pub record CatalogueLaws : Type 0 where
  pub exactly_names : ExactlyNames
  pub first_of_names : FirstOfNames
  pub tiled : Tiled
  pub exactly_lists : ExactlyLists
  pub first_of_places : FirstOfPlaces
  pub just_that_part : JustThatPart
  pub part_there : PartThere
  pub all_begin : AllBegin
  pub written_out_together : WrittenOutTogether
  pub some_list : SomeList
  pub one_list : OneList
