-- The valley's table: the rule that its numbers follow.
use Rattle.std.specs.Prelude.{ℕ, ◌-◌, ◌*◌, ◌/◌, ◌%◌, cond, false, List, [], ◌∷◌, map, ◌==◌, nat_lt}
use Rattle.std.specs.List.{range_with_len}
use Rattle.std.specs.Int.{is_in_range}
use Rattle.pieces.specs.declared.piece.Pair.{Pair}
use Rattle.pieces.specs.declared.piece.Weights.{Weights}
use Rattle.table.specs.Rules.{Rules}
use Rattle.pieces.specs.Runs.{nothing, same_run}

-- weights, level after level
abbrev pub weigh : ℕ → ℕ → ℕ → Weights
weigh p s t = record { primary = p; secondary = s; tertiary = t }

-- small letters a to z weigh 10, 20, up to 260, then 1 and 1; large ones the same, 1 and 2; the mark ' weighs 0, 2, 1;
-- all other letters weigh 0, 0, 1
abbrev pub valley_letter : ℕ → Weights
valley_letter a =
    cond (is_in_range 97 122 a) (weigh (10 * (a - 96)) 1 1)
    (cond (is_in_range 65 90 a) (weigh (10 * (a - 64)) 1 2)
    (cond (a == 39) (weigh 0 2 1) (weigh 0 0 1)))

-- letters are 0 to 255, and only c and h are one together: they weigh 35, 1, 1
abbrev pub valley_weighs : List ℕ → Weights
valley_weighs [] = nothing
valley_weighs (a ∷ []) = cond (nat_lt a 256) (valley_letter a) nothing
valley_weighs (a ∷ (b ∷ run)) = cond (same_run (99 ∷ (104 ∷ [])) (a ∷ (b ∷ run))) (weigh 35 1 1) nothing

-- what the valley's table says; its names are bytes, and none of its letters expands
abbrev pub valley : Rules
valley = record { joins = same_run (99 ∷ (104 ∷ [])); weighs = valley_weighs; expands = λ run. []; utf8 = false }

-- the weight of a level, counted from 0
abbrev pub level : ℕ → Weights → ℕ
level k w = cond (k == 0) w.primary (cond (k == 1) w.secondary w.tertiary)

-- the rule at all 768 places: three for each letter
abbrev pub valley_list : List ℕ
valley_list = map (λ i. level (i % 3) (valley_letter (i / 3))) (range_with_len 0 768)

-- the one pair: c, h and their weights
abbrev pub valley_pair : List ℕ
valley_pair = 99 ∷ (104 ∷ (35 ∷ (1 ∷ (1 ∷ []))))

-- the same as a pair
abbrev pub valley_pairs : List Pair
valley_pairs = record { first = 99; second = 104; weights = weigh 35 1 1 } ∷ []
