-- Old pieces, one after the other.
use Rattle.std.specs.Prelude.{Bool, List, [], ◌∷◌, length, slice_index_or, false, cond, Some, None, Option, ℕ, ◌+◌, ◌-◌, ◌<◌, ◌≤◌, nat_lt, ◌&&◌, ◌≡◌}
use Rattle.std.specs.List.{list_all, slice_get}
use Rattle.std.specs.Option.{option_map}
use Rattle.order.specs.Newer.{is_piece}
use Rattle.order.specs.declared.piece.OldPieces.{OldPieces}
use Rattle.order.specs.declared.piece.Parts.{Parts}
use Rattle.order.specs.declared.piece.Piece.{Piece}
use Rattle.order.specs.declared.piece.Piece.TheVariants.{Four, Letter, Pair, Three}
use Rattle.pieces.specs.declared.piece.Expansion as table_expansion
use Rattle.pieces.specs.declared.piece.Letter as table_letter
use Rattle.pieces.specs.declared.piece.Long as table_long
use Rattle.pieces.specs.declared.piece.Pair as table_pair
use Rattle.pieces.specs.Runs.{expanded_if, long_letters}
use Rattle.pieces.specs.declared.piece.Weights.{Weights}
use Rattle.table.specs.declared.view.Table.{Table}
use Rattle.table.specs.Meaning.{expansions_of, letters_of, longs_of, pairs_of}
use Rattle.table.specs.Rules.{Rules, contraction, triples}

-- the letters are old that are marked; those behind the marks are not
abbrev pub old_in : List Bool → ℕ → Bool
old_in marks a = nat_lt a (length marks) && slice_index_or marks a false

-- the letters of a piece
abbrev pub run_in : Piece → List ℕ
run_in (Letter a) = a ∷ []
run_in (Pair a b) = a ∷ (b ∷ [])
run_in (Three a b c) = a ∷ (b ∷ (c ∷ []))
run_in (Four a b c d) = a ∷ (b ∷ (c ∷ (d ∷ [])))

-- what a piece weighs, one triple behind the other
abbrev pub parts : Parts → List Weights
parts p = p.own ∷ expanded_if p.expanded

-- the same of letters, where they are a piece
abbrev pub piece_triples : Rules → List ℕ → Option (List Weights)
piece_triples t run = cond (is_piece t run) (Some (triples t run)) None

-- what letters weigh that are one together, two at least
abbrev pub run_contraction : Rules → List ℕ → Option Weights
run_contraction t [] = None
run_contraction t (a ∷ []) = None
run_contraction t (a ∷ (b ∷ run)) = contraction t (a ∷ (b ∷ run))

-- how many places may hold a piece: one for each letter that the table lists, behind them one for each pair, then one for each
-- longer run, and one for each letter that weighs as two or three
abbrev pub places : Table → ℕ
places t = length (letters_of t) + (length (pairs_of t) + (length (longs_of t) + length (expansions_of t)))

-- a letter, if there is one
abbrev pub letter_run : Option table_letter.Letter → List ℕ
letter_run None = []
letter_run (Some e) = e.letter ∷ []

-- the letters of a pair, if there is one
abbrev pub run_of : Option table_pair.Pair → List ℕ
run_of None = []
run_of (Some p) = p.first ∷ (p.second ∷ [])

-- the letters of a longer run, if there is one
abbrev pub long_run : Option table_long.Long → List ℕ
long_run None = []
long_run (Some e) = long_letters e.run

-- a letter that weighs as two or three, if there is one
abbrev pub expansion_run : Option table_expansion.Expansion → List ℕ
expansion_run None = []
expansion_run (Some e) = e.letter ∷ []

-- the letters at a place behind the pairs, and behind the letters
abbrev pub longer_at : Table → ℕ → List ℕ
longer_at t k = cond (nat_lt k (length (longs_of t))) (long_run (slice_get (longs_of t) k)) (expansion_run (slice_get (expansions_of t) (k - length (longs_of t))))

abbrev pub joined_at : Table → ℕ → List ℕ
joined_at t k = cond (nat_lt k (length (pairs_of t))) (run_of (slice_get (pairs_of t) k)) (longer_at t (k - length (pairs_of t)))

-- the letters at a place
abbrev pub run_at : Table → ℕ → List ℕ
run_at t k = cond (nat_lt k (length (letters_of t))) (letter_run (slice_get (letters_of t) k)) (joined_at t (k - length (letters_of t)))

-- the same, where all are old
abbrev pub old_at : OldPieces → ℕ → Option (List ℕ)
old_at s k = cond (list_all (old_in s.old.now) (run_at s.table.now k)) (Some (run_at s.table.now k)) None

-- a place before the end holds this old piece, or none
abbrev pub PieceAt : OldPieces → ℕ → Option Piece → Type 0
PieceAt s k r = k < places s.table.now → option_map run_in r ≡ old_at s k

-- no place from one to another holds an old piece
abbrev pub NoneBetween : OldPieces → (from to : ℕ) → Type 0
NoneBetween s from to = (j : ℕ) → from ≤ j → j < to → old_at s j ≡ None

-- the next old piece, and what is gone on with
abbrev pub NextPiece : OldPieces → Option Piece → OldPieces → Type 0
NextPiece s None t = NoneBetween s s.place (places s.table.now)
NextPiece s (Some p) t =
    (t.table ≡ s.table) × (t.old ≡ s.old)
    × ((k : ℕ) × (s.place ≤ k) × (k < places s.table.now) × NoneBetween s s.place k × (old_at s k ≡ Some (run_in p)) × (t.place ≡ k + 1))
