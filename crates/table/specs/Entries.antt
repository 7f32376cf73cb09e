-- The entries of letters above 255, and those of letters that weigh as two or three.
use Rattle.std.specs.Prelude.{ℕ, Bool, cond, not, ◌&&◌, List, nat_le, nat_lt}
use Rattle.std.specs.List.{list_all}
use Rattle.pieces.specs.Ranks.{climbs}
use Rattle.pieces.specs.declared.piece.Expansion.{Expansion}
use Rattle.pieces.specs.declared.piece.Letter.{Letter}
use Rattle.pieces.specs.declared.piece.Triples.TheVariants.{Several}
use Rattle.pieces.specs.Runs.{counts, counts_some, expansion_rank}
use Rattle.table.specs.Rules.{letter_weighs}
use Rattle.utf8.specs.Letters.{is_letter}

-- a letter above 255 that weighs something
abbrev pub is_other : Letter → Bool
is_other e = nat_le 256 e.letter && (is_letter e.letter && counts e.weights)

-- the numbers that are letters of a table: UTF-8 has those below 65,536 that are no surrogates, and bytes are those below 256
abbrev pub is_letter_of : (utf8 : Bool) → ℕ → Bool
is_letter_of utf8 a = cond utf8 (is_letter a) (nat_lt a 256)

-- a letter that weighs as two or three, one of which counts, and that weighs nothing itself
abbrev pub is_expansion : (utf8 : Bool) → (letters : List ℕ) → (others : List Letter) → Expansion → Bool
is_expansion u ls os e = is_letter_of u e.letter && (counts_some (Several e.weights) && not (counts (letter_weighs ls os e.letter)))

-- such letters, in the order of their numbers, so that looking one up halves them
abbrev pub are_expansions : (utf8 : Bool) → (letters : List ℕ) → (others : List Letter) → List Expansion → Bool
are_expansions u ls os es = climbs expansion_rank es && list_all (is_expansion u ls os) es
