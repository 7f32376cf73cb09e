-- What is promised of the order, of every table.
use Rattle.std.specs.Prelude.{Bool, List, [], ◌∷◌, ◌++◌, codes, length, slice_index_or, true, false, ℕ, ◌<◌, ◌≡◌, ◌≤◌, ◌⊎◌}
use Rattle.std.specs.Cmp.{IsTotalOrder}
use Rattle.std.specs.declared.cmp.Ordering.TheVariants.{Equal}
use Rattle.keys.specs.Rows.{joined, key, row, rows}
use Rattle.keys.specs.declared.level.Level.{Level}
use Rattle.keys.specs.declared.level.Level.TheVariants.{Primary}
use Rattle.order.specs.declared.collate.Standing.TheVariants.{Before, After}
use Rattle.order.specs.Names.{along, name_before, name_order, standing}
use Rattle.order.specs.Newer.{Keeps, KeepsNames, SameMany, SameRuns, Scaled, old_piece}
use Rattle.order.specs.Rows.{FreeButLast, before, begins, by_levels, row_order}
use Rattle.table.specs.Rules.{Rules}
use Rattle.table.specs.Valley.{valley}

-- ---- rows

-- Of rows in any number, as many on both sides, all but the last free of zeros: joined, with a 0 between each and the next,
-- they stand in the order by levels.
abbrev pub JoinedByLevels : Type 0
JoinedByLevels = (rs ss : List (List ℕ)) → length rs ≡ length ss → FreeButLast rs → FreeButLast ss → row_order (joined rs) (joined ss) ≡ by_levels rs ss

-- such rows are read back from what they are joined to
abbrev pub JoinedReadsBack : Type 0
JoinedReadsBack = (rs ss : List (List ℕ)) → length rs ≡ length ss → FreeButLast rs → FreeButLast ss → joined rs ≡ joined ss → rs ≡ ss

-- rows of which neither is before the other are the same
abbrev pub AlikeAreSame : Type 0
AlikeAreSame = (xs ys : List ℕ) → row_order xs ys ≡ Equal → xs ≡ ys

-- Before, in plain words: behind a front that both rows share the one has ended and the other hasn't, or it has the smaller number.
abbrev pub IsBefore : List ℕ → List ℕ → Type 0
IsBefore xs ys =
    (front : List ℕ) × (y : ℕ) × (s : List ℕ) × (ys ≡ front ++ y ∷ s)
    × ((xs ≡ front) ⊎ ((x : ℕ) × (r : List ℕ) × (xs ≡ front ++ x ∷ r) × (x < y)))

abbrev pub BeforeSays : Type 0
BeforeSays = (xs ys : List ℕ) → (before xs ys ≡ true → IsBefore xs ys) × (IsBefore xs ys → before xs ys ≡ true)

-- a row begins with another exactly if it is that one with something behind, or with nothing
abbrev pub BeginsSays : Type 0
BeginsSays =
    (row asked : List ℕ) →
    (begins row asked ≡ true → (rest : List ℕ) × (row ≡ asked ++ rest)) × ((rest : List ℕ) → row ≡ asked ++ rest → begins row asked ≡ true)

-- a row between two that begin with the one asked for begins with it too
abbrev pub Between : Type 0
Between =
    (asked x y z : List ℕ) → before y x ≡ false → before z y ≡ false →
    begins x asked ≡ true → begins z asked ≡ true → begins y asked ≡ true

-- of a row that is not before another the standing is met no earlier
abbrev pub StandingsRise : Type 0
StandingsRise = (asked x y : List ℕ) → before y x ≡ false → along (standing x asked) ≤ along (standing y asked)

-- all of these, and that the order of rows is a total one
pub record RowLaws : Type 0 where
  pub joined_by_levels : JoinedByLevels
  pub joined_reads_back : JoinedReadsBack
  pub total : IsTotalOrder row_order
  pub alike_are_same : AlikeAreSame
  pub before_says : BeforeSays
  pub begins_says : BeginsSays
  pub between : Between
  pub standings_rise : StandingsRise

-- ---- names, under every table

-- comparing keys number by number says the order by levels
abbrev pub Levels : Type 0
Levels = (t : Rules) (a b : List ℕ) → name_order t a b ≡ by_levels (rows t a) (rows t b)

-- Of two names one is before the other, or their keys are the same; it goes through a third, and not back.
pub record AnOrder : Type 0 where
  pub one_of_three : (t : Rules) (a b : List ℕ) → (name_before t a b ≡ true) ⊎ ((name_before t b a ≡ true) ⊎ (key t a ≡ key t b))
  pub through : (t : Rules) (a b c : List ℕ) → name_before t a b ≡ true → name_before t b c ≡ true → name_before t a c ≡ true
  pub not_back : (t : Rules) (a b : List ℕ) → name_before t a b ≡ true → name_before t b a ≡ false

-- a name that stands before what is asked is before it, and one that stands after it is after it
abbrev pub StandingsAgree : Type 0
StandingsAgree =
    (t : Rules) (a asked : List ℕ) →
    (standing (row Primary t a) (row Primary t asked) ≡ Before → name_before t a asked ≡ true)
    × (standing (row Primary t a) (row Primary t asked) ≡ After → name_before t asked a ≡ true)

-- under the valley's table cab, Cab, cab', cad, cz, chad and da stand in this order
abbrev pub ValleyOrder : Type 0
ValleyOrder =
    (name_before valley (codes "cab") (codes "Cab") ≡ true) × (name_before valley (codes "Cab") (codes "cab'") ≡ true)
    × (name_before valley (codes "cab'") (codes "cad") ≡ true) × (name_before valley (codes "cad") (codes "cz") ≡ true)
    × (name_before valley (codes "cz") (codes "chad") ≡ true) × (name_before valley (codes "chad") (codes "da") ≡ true)

-- a list in order: of any two names the later is not before the earlier
abbrev pub InOrder : Rules → List (List ℕ) → Type 0
InOrder t ns = (i j : ℕ) → i < j → j < length ns → name_before t (slice_index_or ns j []) (slice_index_or ns i []) ≡ false

-- in a list in order, names whose first rows begin with the one asked for stand together
abbrev pub Together : Type 0
Together =
    (t : Rules) (ns : List (List ℕ)) (asked : List ℕ) (i j k : ℕ) → InOrder t ns → i ≤ j → j ≤ k → k < length ns →
    begins (row Primary t (slice_index_or ns i [])) asked ≡ true → begins (row Primary t (slice_index_or ns k [])) asked ≡ true →
    begins (row Primary t (slice_index_or ns j [])) asked ≡ true

-- from a key its rows are read in one way, whatever the two tables
abbrev pub ReadBack : Type 0
ReadBack = (t u : Rules) (a b : List ℕ) → key t a ≡ key u b → rows t a ≡ rows u b

-- where a newer table keeps what the older says of old letters, names in old letters stand to each other as before
abbrev pub NewerTables : Type 0
NewerTables = (old : ℕ → Bool) (t u : Rules) → Keeps old t u → KeepsNames old t u

-- the same where both read bytes the same way, the same runs of old letters are one, old pieces have as many triples of weights,
-- and the weights of both tables rise onto a common scale on each level
abbrev pub NewerByScales : Type 0
NewerByScales =
    (old : ℕ → Bool) (t u : Rules) → u.utf8 ≡ t.utf8 → SameRuns old t u → ((p : List ℕ) → old_piece old t p ≡ true → SameMany t u p) →
    ((l : Level) → Scaled old t u l) → KeepsNames old t u

-- all of these
pub record OrderLaws : Type 0 where
  pub levels : Levels
  pub order : AnOrder
  pub standings_agree : StandingsAgree
  pub valley_order : ValleyOrder
  pub together : Together
  pub read_back : ReadBack
  pub newer_tables : NewerTables
  pub newer_by_scales : NewerByScales
