-- A text in parts: a mark stands between each and the next.
use Rattle.std.specs.List.{slice_split}
use Rattle.std.specs.Prelude.{ℕ, ◌-◌, cond, List, [], ◌∷◌, length, take, Some, None, Option, ◌==◌, slice_index}

-- the library's `split` at a byte: a text with n marks has n + 1 parts, some of which may be empty
abbrev pub parts : (mark : ℕ) → List ℕ → List (List ℕ)
parts m = slice_split (λ x. x == m)

-- the parts of what is left of a text, where something is
abbrev pub parts_left : (mark : ℕ) → Option (List ℕ) → List (List ℕ)
parts_left m None = []
parts_left m (Some rest) = parts m rest

-- one space stands between words
abbrev pub words : List ℕ → List (List ℕ)
words = parts 32

-- a line without the carriage return at its end, if it has one
abbrev pub without_return : List ℕ → List ℕ
without_return l = cond (slice_index l (length l - 1) == 13) (take (length l - 1) l) l

-- a text up to its first mark
unfoldable pub front : (mark : ℕ) → List ℕ → List ℕ
front m [] = []
front m (x ∷ xs) = cond (x == m) [] (x ∷ front m xs)

-- what stands behind its first mark, where it has one
unfoldable pub behind : (mark : ℕ) → List ℕ → Option (List ℕ)
behind m [] = None
behind m (x ∷ xs) = cond (x == m) (Some xs) (behind m xs)
