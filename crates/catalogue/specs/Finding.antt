-- The part of a list that begins so.
use Rattle.std.specs.Prelude.{◌≡◌, ℕ, ◌+◌, ◌<◌, ◌≤◌, Bool, true, false, cond, List, [], filter, length, is_none, slice_index_or, slice_range, ◌&&◌, ◌==◌, nat_lt, nat_le}
use Rattle.std.specs.List.{list_any}
use Rattle.catalogue.specs.Lists.{Lists, name_at, name_of}
use Rattle.keys.specs.Expansions.{WrittenOut}
use Rattle.keys.specs.Refusals.{name_refusal}
use Rattle.keys.specs.Rows.{row}
use Rattle.keys.specs.declared.level.Level.TheVariants.{Primary}
use Rattle.order.specs.Names.{standing}
use Rattle.order.specs.Rows.{begins}
use Rattle.order.specs.declared.collate.Standing.{Standing}
use Rattle.order.specs.declared.collate.Standing.TheVariants.{Before, Begins, After}

-- the name of a number begins as asked: its first row begins with that of what is asked
abbrev pub begins_so : Lists → (ask : List ℕ) → (number : ℕ) → Bool
begins_so l ask i = begins (row Primary l.rules (name_of l.text l.starts i)) (row Primary l.rules ask)

-- of the places below n, those that pass the test are just those from one on and before another
pub record Encloses (test : ℕ → Bool) (n from to : ℕ) : Type 0 where
  pub rises : from ≤ to
  pub within : to ≤ n
  pub just : (k : ℕ) → k < n → test k ≡ (nat_le from k && nat_lt k to)

-- from one place of the list up to another: at just these the names begin as asked
abbrev pub PlacesFound : Lists → (ask : List ℕ) → (from to : ℕ) → Type 0
PlacesFound l ask = Encloses (λ k. begins_so l ask (slice_index_or l.places k 0)) (length l.places)

-- the part that begins so: the list from some place on, for its length, and at just these places the names begin as asked
abbrev pub PartFound : Lists → (ask part : List ℕ) → Type 0
PartFound l ask part =
    (from : ℕ) × PlacesFound l ask from (from + length part) × (part ≡ slice_range l.places from (from + length part))

-- what is asked is a name: it can be read, and has at most 1,000 letters
abbrev pub may_ask : Lists → (ask : List ℕ) → Bool
may_ask l ask = is_none (name_refusal l.rules.utf8 ask)

-- where all is as it should be, the part that begins so is handed back; else a part of none
abbrev pub Found : Bool → Lists → (ask part : List ℕ) → Type 0
Found true l ask part = PartFound l ask part
Found false l ask part = part ≡ []

-- where the name at a place stands to what is asked
abbrev pub standing_at : Lists → (ask : List ℕ) → ℕ → Standing
standing_at l ask k = standing (row Primary l.rules (name_at l k)) (row Primary l.rules ask)

-- the names in front of one place are before what is asked, from there up to another they begin so, and from that one on they
-- are after it
pub record PlacesStand (l : Lists) (ask : List ℕ) (from to : ℕ) : Type 0 where
  pub rises : from ≤ to
  pub within : to ≤ length l.places
  pub front : (k : ℕ) → k < from → standing_at l ask k ≡ Before
  pub part : (k : ℕ) → from ≤ k → k < to → standing_at l ask k ≡ Begins
  pub behind : (k : ℕ) → to ≤ k → k < length l.places → standing_at l ask k ≡ After

-- where the part is: from one place up to another, which say where such names would stand where there is none; from 0 up to 0
-- where not all is as it should be
abbrev pub FoundAt : Bool → Lists → (ask : List ℕ) → (from to : ℕ) → Type 0
FoundAt true l ask from to = PlacesStand l ask from to
FoundAt false l ask from to = (from ≡ 0) × (to ≡ 0)

-- a number is one of these
abbrev pub is_among : List ℕ → (number : ℕ) → Bool
is_among ns i = list_any (λ k. k == i) ns

-- Of two names of the list, the second of which is the first with each letter written out that weighs as others do one behind the
-- other, and no run stands in the way, the part has both or neither.
abbrev pub BothOrNeither : Lists → (part : List ℕ) → Type 0
BothOrNeither l part =
    (a : ℕ) (ds : List ℕ) (i j : ℕ) → is_among l.places i ≡ true → is_among l.places j ≡ true →
    WrittenOut l.rules a ds (name_of l.text l.starts i) (name_of l.text l.starts j) → is_among part i ≡ is_among part j

-- what looking through the whole list gives, where all is as it should be; else nothing
abbrev pub looked_through : Bool → Lists → (ask : List ℕ) → List ℕ
looked_through right l ask = cond right (filter (begins_so l ask) l.places) []
