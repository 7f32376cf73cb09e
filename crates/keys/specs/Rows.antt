-- Rows of weights, and the sort key that they make.
use Rattle.std.specs.Prelude.{ℕ, cond, List, [], ◌∷◌, ◌++◌, map, Some, None, Option, ◌==◌}
use Rattle.pieces.specs.declared.piece.Weights.{Weights}
use Rattle.table.specs.Rules.{Rules, triples}
use Rattle.keys.specs.declared.level.Level.{Level}
use Rattle.keys.specs.declared.level.Level.TheVariants.{Primary, Secondary, Tertiary}
use Rattle.keys.specs.Letters.{letters_in}
use Rattle.keys.specs.Pieces.{pieces}

-- the weight of a level
abbrev pub on : Level → Weights → ℕ
on Primary w = w.primary
on Secondary w = w.secondary
on Tertiary w = w.tertiary

-- the level behind a level
abbrev pub level_behind : Level → Option Level
level_behind Primary = Some Secondary
level_behind Secondary = Some Tertiary
level_behind Tertiary = None

-- what a piece weighs on a level, where it does not expand
abbrev pub weight : Level → Rules → List ℕ → ℕ
weight l t p = on l (t.weighs p)

-- what is left where zeros are left out
unfoldable pub without_zeros : List ℕ → List ℕ
without_zeros [] = []
without_zeros (x ∷ xs) = cond (x == 0) (without_zeros xs) (x ∷ without_zeros xs)

-- what pieces weigh, one triple of weights behind the other
unfoldable pub weighed : Rules → (pieces : List (List ℕ)) → List Weights
weighed t [] = []
weighed t (p ∷ ps) = triples t p ++ weighed t ps

-- the row of letters on a level: the weights of their pieces on that level, in order, without zeros
unfoldable pub row_of : Level → Rules → (letters : List ℕ) → List ℕ
row_of l t ls = without_zeros (map (on l) (weighed t (pieces t.joins ls)))

-- a name's row of a level is that of its letters
unfoldable pub row : Level → Rules → List ℕ → List ℕ
row l t n = row_of l t (letters_in t.utf8 n)

-- its rows, level after level
abbrev pub rows : Rules → List ℕ → List (List ℕ)
rows t n = row Primary t n ∷ (row Secondary t n ∷ (row Tertiary t n ∷ []))

-- rows joined, a 0 between each and the next
abbrev pub joined : List (List ℕ) → List ℕ
joined [] = []
joined (r ∷ []) = r
joined (r ∷ (q ∷ rs)) = r ++ (0 ∷ joined (q ∷ rs))

-- its sort key
unfoldable pub key : Rules → List ℕ → List ℕ
key t n = joined (rows t n)
