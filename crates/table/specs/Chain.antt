-- The pairs chained, so that looking one up meets few others: those of the same bucket, from the last to the first.
use Rattle.std.specs.Prelude.{ℕ, zero, suc, ◌+◌, ◌*◌, ◌%◌, Bool, false, cond, ◌||◌, List, map, Some, None, Option, ◌==◌}
use Rattle.std.specs.List.{list_any, range_with_len}
use Rattle.pieces.specs.declared.piece.Long.{Long}
use Rattle.table.specs.Numbers.{first_at, second_at}

-- the bucket of two letters; pairs that begin with the same letter have each a bucket of its own
unfoldable pub bucket : ℕ → ℕ → ℕ
bucket a b = (31 * a % 256 + b) % 256

-- that of the pair at place k
abbrev pub bucket_at : List ℕ → ℕ → ℕ
bucket_at ps k = bucket (first_at ps k) (second_at ps k)

-- the last place below n at which a pair of this bucket stands
unfoldable pub last_in : List ℕ → (n : ℕ) → (bucket : ℕ) → Option ℕ
last_in ps zero h = None
last_in ps (suc k) h = cond (bucket_at ps k == h) (Some k) (last_in ps k h)

-- where the chain of each bucket begins, if the first n pairs are chained
abbrev pub heads_of : List ℕ → (n : ℕ) → List (Option ℕ)
heads_of ps n = map (last_in ps n) (range_with_len 0 256)

-- the place that an index counts from 1, and none that it counts 0
unfoldable pub counted_place : ℕ → Option ℕ
counted_place zero = None
counted_place (suc k) = Some k

-- what is next in the chain behind the pair at place k
abbrev pub link_of : List ℕ → ℕ → Option ℕ
link_of ps k = last_in ps k (bucket_at ps k)

-- one of the first n pairs begins with a letter that has this remainder by 256: letters below 256 are told apart so
unfoldable pub begun : List ℕ → (n : ℕ) → (remainder : ℕ) → Bool
begun ps zero a = false
begun ps (suc k) a = first_at ps k % 256 == a || begun ps k a

-- the same of each remainder
abbrev pub marks_of : List ℕ → (n : ℕ) → List Bool
marks_of ps n = map (begun ps n) (range_with_len 0 256)

-- one of the first n pairs or of these longer runs does
abbrev pub begins_with : List ℕ → (n : ℕ) → List Long → (remainder : ℕ) → Bool
begins_with ps n es a = begun ps n a || list_any (λ e. e.run.first % 256 == a) es

-- the same of each remainder
abbrev pub all_marks : List ℕ → (n : ℕ) → List Long → List Bool
all_marks ps n es = map (begins_with ps n es) (range_with_len 0 256)
