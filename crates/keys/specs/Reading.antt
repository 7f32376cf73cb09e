-- Reading along a row and along a key.
use Rattle.std.specs.Prelude.{◌≡◌, ℕ, ◌+◌, ◌*◌, ◌<◌, Bool, true, false, cond, List, [], ◌∷◌, drop, length, take, Some, None, Option, ◌==◌}
use Rattle.pieces.specs.declared.piece.Weights.{Weights}
use Rattle.table.specs.Meaning.{rules_of}
use Rattle.pieces.specs.Runs.{one_or_none}
use Rattle.table.specs.Rules.{Rules, triples}
use Rattle.keys.specs.declared.level.Level.{Level}
use Rattle.keys.specs.declared.level.Level.TheVariants.{Primary, Secondary, Tertiary}
use Rattle.keys.specs.declared.numbers.KeyNumbers.{KeyNumbers}
use Rattle.keys.specs.declared.row.Row.{Row}
use Rattle.keys.specs.declared.walk.Behind.{Behind}
use Rattle.keys.specs.declared.walk.Walk.{Walk}
use denote.Ref.{Bor}
use Rattle.keys.specs.Letters.{letters_in}
use Rattle.keys.specs.Pieces.{met, taken}
use Rattle.keys.specs.Rows.{joined, on, row}

-- what is taken at once at the front of letters weighs so and does not expand, and these are behind it
abbrev pub PieceAt : Rules → (letters rest : List ℕ) → Weights → Type 0
PieceAt t ls rest w =
    (w ≡ t.weighs (take (taken t.joins ls) ls)) × (t.expands (take (taken t.joins ls) ls) ≡ []) × (rest ≡ drop (taken t.joins ls) ls)

-- With a letter that was read a run begins, of which the longest that is met is told: what is behind it, and what it weighs. Or the
-- letter is taken alone.
abbrev pub RunWith : Rules → (letter : ℕ) → (behind : List ℕ) → Option (Bor (List ℕ) × Weights) → Type 0
RunWith t a n None = taken t.joins (a ∷ letters_in t.utf8 n) ≡ 1
RunWith t a n (Some (rest, w)) = PieceAt t (a ∷ letters_in t.utf8 n) (letters_in t.utf8 rest.now) w × ((k : ℕ) × (rest.now ≡ drop k n))

-- the same of three and four letters, where two were read
abbrev pub LongWith : Rules → (first second : ℕ) → (behind : List ℕ) → Option (Bor (List ℕ) × Weights) → Type 0
LongWith t a b n None = (met t.joins 4 (a ∷ (b ∷ letters_in t.utf8 n)) ≡ false) × (met t.joins 3 (a ∷ (b ∷ letters_in t.utf8 n)) ≡ false)
LongWith t a b n (Some (rest, w)) = PieceAt t (a ∷ (b ∷ letters_in t.utf8 n)) (letters_in t.utf8 rest.now) w × ((k : ℕ) × (rest.now ≡ drop k n))

-- each weight is one of 16 bits
abbrev pub AreShort : Weights → Type 0
AreShort w = (l : Level) → on l w < 65536

-- a weight in front of a row, unless it is 0
abbrev pub in_front : ℕ → List ℕ → List ℕ
in_front x r = cond (x == 0) r (x ∷ r)

-- triples of weights in front of a level's row
abbrev pub ahead : Level → List Weights → List ℕ → List ℕ
ahead l [] r = r
ahead l (w ∷ ws) r = in_front (on l w) (ahead l ws r)

-- what the letter that was taken last still weighs
abbrev pub still : Option Behind → List Weights
still None = []
still (Some b) = b.next ∷ one_or_none b.last

-- what is still to come of a level's row
abbrev pub left_of : Level → Walk → List ℕ
left_of l w = ahead l (still w.more) (row l (rules_of w.table.now) w.rest.now)

-- how much is left at the most: each step takes some of it
abbrev pub steps_left : Walk → ℕ
steps_left w = 4 * length w.rest.now + length (still w.more)

-- a letter weighs so: first this triple, and behind it those
abbrev pub LetterWith : Rules → (letter : ℕ) → Weights × Option Behind → Type 0
LetterWith t a (w, more) =
    ((l : Level) (r : List ℕ) → ahead l (triples t (a ∷ [])) r ≡ in_front (on l w) (ahead l (still more) r)) × AreShort w

-- the same name, further on: some letters of what was left may have been taken
abbrev pub WalkedOn : Walk → Walk → Type 0
WalkedOn w v = (v.table ≡ w.table) × ((k : ℕ) × (v.rest.now ≡ drop k w.rest.now))

-- what is taken next of what is left of a name weighs as the walk says, and this is behind it
abbrev pub RunAt : Walk → (rest : List ℕ) → Type 0
RunAt w rest =
    PieceAt (rules_of w.table.now) (letters_in w.table.now.utf8 w.rest.now) (letters_in w.table.now.utf8 rest) w.weights × AreShort w.weights
    × ((k : ℕ) × (rest ≡ drop k w.rest.now)) × (length rest < length w.rest.now) × (w.more ≡ None)

-- The next triple that counts on some level has been taken, and stands in front of what is left of each row; or nothing is left of
-- any.
abbrev pub Stepped : Walk → Bool → Walk → Type 0
Stepped w true v =
    ((l : Level) → left_of l w ≡ in_front (on l v.weights) (left_of l v)) × AreShort v.weights
    × WalkedOn w v × (steps_left v < steps_left w)
Stepped w false v = ((l : Level) → (left_of l w ≡ []) × (left_of l v ≡ [])) × WalkedOn w v

-- what is still to come of a row
abbrev pub row_left : Row → List ℕ
row_left r = left_of r.level r.walk

-- the same row, further on
abbrev pub FurtherOn : Row → Row → Type 0
FurtherOn r s = (s.level ≡ r.level) × WalkedOn r.walk s.walk

-- the next weight of a row, and what is left then
abbrev pub Rowed : Row → Option ℕ → Row → Type 0
Rowed r None s = (row_left r ≡ []) × (row_left s ≡ []) × FurtherOn r s
Rowed r (Some x) s = (row_left r ≡ x ∷ row_left s) × (x < 65536) × FurtherOn r s

-- what is still to come of a key where so much is left of the row of a level: that, and the rows behind it
abbrev pub key_left : Rules → List ℕ → Level → (left : List ℕ) → List ℕ
key_left t n Primary r = joined (r ∷ (row Secondary t n ∷ (row Tertiary t n ∷ [])))
key_left t n Secondary r = joined (r ∷ (row Tertiary t n ∷ []))
key_left t n Tertiary r = joined (r ∷ [])

-- what is still to come of a key that is being read
abbrev pub numbers_left : KeyNumbers → List ℕ
numbers_left k = key_left (rules_of k.row.walk.table.now) k.name.now k.row.level (row_left k.row)

-- the next number of a key, and what is left then
abbrev pub Numbered : KeyNumbers → Option ℕ → KeyNumbers → Type 0
Numbered k None m = (numbers_left k ≡ []) × (numbers_left m ≡ [])
Numbered k (Some x) m = (numbers_left k ≡ x ∷ numbers_left m) × (x < 65536)
