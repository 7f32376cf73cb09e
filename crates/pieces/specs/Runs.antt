-- What pieces weigh, letters that weigh as two or three, and runs of three and four letters.
use Rattle.std.specs.Prelude.{ℕ, ◌+◌, ◌*◌, Bool, true, false, cond, not, ◌&&◌, List, [], ◌∷◌, is_some, Some, None, Option, ◌==◌, slice_index}
use Rattle.std.specs.List.{list_any}
use Rattle.std.specs.Option.{option_map}
use Rattle.pieces.specs.Ranks.{at_rank}
use Rattle.pieces.specs.declared.piece.Expanded.{Expanded}
use Rattle.pieces.specs.declared.piece.Expansion.{Expansion}
use Rattle.pieces.specs.declared.piece.Letter.{Letter}
use Rattle.pieces.specs.declared.piece.Long.{Long}
use Rattle.pieces.specs.declared.piece.LongRun.{LongRun}
use Rattle.pieces.specs.declared.piece.Triples.{Triples}
use Rattle.pieces.specs.declared.piece.Triples.TheVariants.{Excess, One, Several}
use Rattle.pieces.specs.declared.piece.Weights.{Weights}

-- ignorable on every level
abbrev pub nothing : Weights
nothing = record { primary = 0; secondary = 0; tertiary = 0 }

-- the weights that stand from place i on
abbrev pub weights_at : List ℕ → ℕ → Weights
weights_at xs i = record { primary = slice_index xs i; secondary = slice_index xs (i + 1); tertiary = slice_index xs (i + 2) }

-- it weighs something on some level
abbrev pub counts : Weights → Bool
counts w = not (w.primary == 0 && (w.secondary == 0 && w.tertiary == 0))

-- letters stand in the order of their numbers
abbrev pub letter_rank : Letter → ℕ
letter_rank e = e.letter

-- the same letters
abbrev pub same_run : List ℕ → List ℕ → Bool
same_run [] [] = true
same_run [] (b ∷ ys) = false
same_run (a ∷ xs) [] = false
same_run (a ∷ xs) (b ∷ ys) = a == b && same_run xs ys

-- one letter, or none
abbrev pub one_or_none : {A : Type 0} → Option A → List A
one_or_none None = []
one_or_none (Some d) = d ∷ []

-- what a letter weighs that weighs as two or three, one behind the other
abbrev pub expanded : Expanded → List Weights
expanded e = e.first ∷ (e.second ∷ one_or_none e.third)

-- entries of such letters stand in the order of their letters
abbrev pub expansion_rank : Expansion → ℕ
expansion_rank e = e.letter

-- what such a letter weighs, where it is one of these; nothing where it is none
abbrev pub expanded_if : Option Expanded → List Weights
expanded_if None = []
expanded_if (Some e) = expanded e

abbrev pub expanded_among : List Expansion → ℕ → List Weights
expanded_among es a = expanded_if (option_map (λ e. e.weights) (at_rank expansion_rank es a))

-- one of the triples counts; more than three are taken to
abbrev pub counts_some : Triples → Bool
counts_some (One w) = counts w
counts_some (Several e) = list_any counts (expanded e)
counts_some Excess = true

-- the weights of a letter that weighs as one
abbrev pub alone : Triples → Weights
alone (One w) = w
alone (Several e) = nothing
alone Excess = nothing

-- those of one that weighs as two or three
abbrev pub several : Triples → List Weights
several (One w) = []
several (Several e) = expanded e
several Excess = []

-- the letters of a run
abbrev pub long_letters : LongRun → List ℕ
long_letters r = r.first ∷ (r.second ∷ (r.third ∷ one_or_none r.fourth))

-- letters stand in the order of the first, and of those that begin alike four before three
abbrev pub rank_of : List ℕ → ℕ
rank_of [] = 0
rank_of (a ∷ []) = 2 * a + 1
rank_of (a ∷ (b ∷ [])) = 2 * a + 1
rank_of (a ∷ (b ∷ (c ∷ []))) = 2 * a + 1
rank_of (a ∷ (b ∷ (c ∷ (d ∷ run)))) = 2 * a

abbrev pub long_rank : Long → ℕ
long_rank e = rank_of (long_letters e.run)

-- what a run weighs among these, where it is one of them; were it there twice, the first
unfoldable pub long_among : List Long → List ℕ → Option Weights
long_among [] run = None
long_among (e ∷ es) run = cond (same_run (long_letters e.run) run) (Some e.weights) (long_among es run)

-- none is there twice
unfoldable pub none_twice : List Long → Bool
none_twice [] = true
none_twice (e ∷ es) = not (is_some (long_among es (long_letters e.run))) && none_twice es
