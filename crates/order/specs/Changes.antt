-- What stands otherwise under a newer table.
use Rattle.std.specs.Prelude.{Bool, List, length, slice_index_or, ℕ, ◌⊎◌, ◌<◌, true, false, Some, Ok, Err, Result, ◌&&◌, ◌==◌, ◌≡◌}
use Rattle.std.specs.List.{list_all}
use Rattle.std.specs.Ordering.{nat_cmp}
use Rattle.keys.specs.Rows.{on}
use Rattle.pieces.specs.Runs.{nothing}
use Rattle.keys.specs.declared.level.Level.{Level}
use Rattle.keys.specs.declared.level.Level.TheVariants.{Primary, Secondary, Tertiary}
use Rattle.order.specs.Newer.{Keeps, KeepsNames, SameMany, SameRuns, SameStanding, SameZeros, is_piece, old_piece}
use Rattle.order.specs.Pieces.{parts, piece_triples, run_in}
use Rattle.order.specs.declared.newer.Change.{Change}
use Rattle.order.specs.declared.newer.Change.TheVariants.{Utf8, Joins, Expands, Counts, Order}
use Rattle.order.specs.declared.newer.Weighed.{Weighed}
use Rattle.order.specs.declared.piece.Parts.{Parts}
use Rattle.order.specs.declared.piece.Piece.{Piece}
use Rattle.table.specs.Rules.{Rules}

-- an old piece of both tables
abbrev pub InBoth : (old : ℕ → Bool) → Rules → Rules → Piece → Type 0
InBoth old t u p = (old_piece old t (run_in p) ≡ true) × (old_piece old u (run_in p) ≡ true)

-- A change is what it says it is: names are in UTF-8 under only one of the tables; old letters that are one together in only
-- one of them; an old piece of both that has not as many triples; one of which a triple weighs 0 on the level in only one of the
-- tables; two old pieces of both that do not stand to each other on the level as before, with all their triples.
abbrev pub Changed : (old : ℕ → Bool) → Rules → Rules → Change → Type 0
Changed old t u Utf8 = u.utf8 ≡ t.utf8 → ⊥
Changed old t u (Joins p) = (list_all old (run_in p) ≡ true) × (u.joins (run_in p) ≡ t.joins (run_in p) → ⊥)
Changed old t u (Expands p) = InBoth old t u p × (SameMany t u (run_in p) → ⊥)
Changed old t u (Counts p l) = InBoth old t u p × (SameZeros l t u (run_in p) → ⊥)
Changed old t u (Order p q l) = InBoth old t u p × InBoth old t u q × (SameStanding l t u (run_in p) (run_in q) → ⊥)

-- no old letters came to be one together
abbrev pub NoneJoined : (old : ℕ → Bool) → Rules → Rules → Type 0
NoneJoined old t u = (run : List ℕ) → list_all old run ≡ true → u.joins run ≡ true → t.joins run ≡ true

-- the levels in the order in which they are tested
abbrev pub level_place : Level → ℕ
level_place Primary = 0
level_place Secondary = 1
level_place Tertiary = 2

-- What was tested before it holds: that both tables read bytes the same way; before what is told of a piece, that no old letters
-- came to be one; before weights that came to be 0, or not to be, that it has as many triples; before pieces that stand otherwise,
-- that the same old letters are one, and that pieces have as many triples, which weigh 0 where they did; and in both cases of these
-- very pieces the levels in front.
abbrev pub FirstOf : (old : ℕ → Bool) → Rules → Rules → Change → Type 0
FirstOf old t u Utf8 = Unit {0}
FirstOf old t u (Joins p) = u.utf8 ≡ t.utf8
FirstOf old t u (Expands p) = (u.utf8 ≡ t.utf8) × NoneJoined old t u
FirstOf old t u (Counts p l) =
    (u.utf8 ≡ t.utf8)
    × NoneJoined old t u
    × SameMany t u (run_in p)
    × ((m : Level) → level_place m < level_place l → SameZeros m t u (run_in p))
FirstOf old t u (Order p q l) =
    (u.utf8 ≡ t.utf8)
    × SameRuns old t u
    × ((r : List ℕ) → old_piece old t r ≡ true → SameMany t u r × ((m : Level) → SameZeros m t u r))
    × ((m : Level) → level_place m < level_place l → SameStanding m t u (run_in p) (run_in q))

-- The newer table keeps what the older says of old letters, and so names in old letters stand to each other as before; or it
-- doesn't, and what is told has changed, and what was tested before it has not.
abbrev pub Decided : (old : ℕ → Bool) → Rules → Rules → Result Unit Change → Type 0
Decided old t u (Ok x) = Keeps old t u × KeepsNames old t u
Decided old t u (Err c) = Changed old t u c × FirstOf old t u c × (Keeps old t u → ⊥)

-- what a piece weighs under both tables, or that it is a piece in one of them only
abbrev pub WeighedIn : Rules → Rules → Piece → Result Weighed Change → Type 0
WeighedIn t u p (Ok w) = (w.piece ≡ p) × (piece_triples t (run_in p) ≡ Some (parts w.older)) × (piece_triples u (run_in p) ≡ Some (parts w.newer))
WeighedIn t u p (Err c) = (c ≡ Joins p) × (is_piece t (run_in p) && is_piece u (run_in p) ≡ false)

-- what a triple says on a level
abbrev pub part_at : Level → Parts → ℕ → ℕ
part_at l p i = on l (slice_index_or (parts p) i nothing)

-- each of its triples counts on the level under both tables, or under none
abbrev pub SameZero : Weighed → Level → Type 0
SameZero w l = (i : ℕ) → i < length (parts w.older) → (part_at l w.newer i == 0) ≡ (part_at l w.older i == 0)

-- a triple stands to those of another piece on the level as before
abbrev pub SamePart : Weighed → (part : ℕ) → Weighed → Level → Type 0
SamePart v i w l = (j : ℕ) → j < length (parts w.older) → nat_cmp (part_at l v.newer i) (part_at l w.newer j) ≡ nat_cmp (part_at l v.older i) (part_at l w.older j)

-- all of a piece do
abbrev pub SameOrder : Weighed → Weighed → Level → Type 0
SameOrder v w l = (i : ℕ) → i < length (parts v.older) → SamePart v i w l

-- an answer says whether something holds
abbrev pub IsSo : Bool → Type 0 → Type 0
IsSo b P = (b ≡ true → P) × (b ≡ false → P → ⊥)

-- something holds on every level; or it doesn't on some level, the first such, and the change is told of that one
abbrev pub Tested : (Level → Type 0) → (Level → Change) → Result Unit Change → Type 0
Tested P change (Ok x) = (l : Level) → P l
Tested P change (Err c) = (l : Level) × (c ≡ change l) × (P l → ⊥) × ((m : Level) → level_place m < level_place l → P m)

-- a piece has as many triples under both tables, and each counts on the same levels; or it hasn't, or one of them doesn't
abbrev pub Parted : Weighed → Result Unit Change → Type 0
Parted w (Ok x) = (length (parts w.newer) ≡ length (parts w.older)) × Tested (SameZero w) (Counts w.piece) (Ok tt)
Parted w (Err c) =
    ((c ≡ Expands w.piece) × (length (parts w.newer) ≡ length (parts w.older) → ⊥))
    ⊎ ((length (parts w.newer) ≡ length (parts w.older)) × Tested (SameZero w) (Counts w.piece) (Err c))
