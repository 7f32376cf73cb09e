-- The numbers a table arrives as: three weights for each letter, and five numbers for each pair (two letters, three weights).
use Rattle.std.specs.Prelude.{ℕ, zero, suc, ◌+◌, ◌*◌, Bool, cond, ◌&&◌, List, [], ◌∷◌, map, Some, None, Option, ◌==◌, slice_index, slice_set}
use Rattle.std.specs.List.{range_with_len}
use Rattle.pieces.specs.declared.piece.Pair.{Pair}
use Rattle.pieces.specs.Runs.{weights_at}
use Rattle.pieces.specs.declared.piece.Weights.{Weights}

-- the same numbers with these weights from place i on
abbrev pub weights_set : List ℕ → ℕ → Weights → List ℕ
weights_set xs i w = slice_set (slice_set (slice_set xs i w.primary) (i + 1) w.secondary) (i + 2) w.tertiary

-- the first letter of the pair at place k
abbrev pub first_at : List ℕ → ℕ → ℕ
first_at ps k = slice_index ps (5 * k)

-- the second letter of the pair at place k
abbrev pub second_at : List ℕ → ℕ → ℕ
second_at ps k = slice_index ps (5 * k + 1)

-- the pair at place k
abbrev pub pair_at : List ℕ → ℕ → Pair
pair_at ps k = record { first = first_at ps k; second = second_at ps k; weights = weights_at ps (5 * k + 2) }

-- the five numbers of a pair
abbrev pub numbers_of : Pair → List ℕ
numbers_of p = p.first ∷ (p.second ∷ (p.weights.primary ∷ (p.weights.secondary ∷ (p.weights.tertiary ∷ []))))

-- the first n pairs
abbrev pub pairs_in : List ℕ → (n : ℕ) → List Pair
pairs_in ps n = map (pair_at ps) (range_with_len 0 n)

-- the pair at place k is of the letters a and b
abbrev pub is_pair : List ℕ → ℕ → ℕ → ℕ → Bool
is_pair ps k a b = first_at ps k == a && second_at ps k == b

-- the place of the pair of a and b among the first n; were it there twice, the last
unfoldable pub place_in : List ℕ → (n : ℕ) → ℕ → ℕ → Option ℕ
place_in ps zero a b = None
place_in ps (suc k) a b = cond (is_pair ps k a b) (Some k) (place_in ps k a b)
