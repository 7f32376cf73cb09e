-- What is in front of a row.
use Rattle.std.proofs.Common.{◌≡◌, ℕ, false, List, [], ◌∷◌, ◌++◌, map, refl, ap, arith}
use Rattle.std.proofs.lemmas.Bool.{cond-true, eq-eqb}
use Rattle.std.proofs.lemmas.Bool.Decides.{nat_tests}
use Rattle.pieces.specs.declared.piece.Weights.{Weights}
use Rattle.pieces.specs.Runs.{counts}
use Rattle.keys.specs.declared.level.Level.{Level}
use Rattle.keys.specs.declared.level.Level.TheVariants.{Primary, Secondary, Tertiary}
use Rattle.keys.specs.Reading.{ahead, in_front}
use Rattle.keys.specs.Rows.{on, without_zeros}

-- what doesn't count is 0 on each level
pub none_on : (w : Weights) (l : Level) → counts w ≡ false → on l w ≡ 0
none_on w Primary e = grind (arith, nat_tests)
none_on w Secondary e = grind (arith, nat_tests)
none_on w Tertiary e = grind (arith, nat_tests)

-- and is not seen in front of a row
pub none_front : (w : Weights) (l : Level) (r : List ℕ) → counts w ≡ false → in_front (on l w) r ≡ r
none_front w l r e = cond-true _ _ _ (eq-eqb (on l w) 0 (none_on w l e))

-- weights in front of others
pub zeros_ahead : (l : Level) (vs ws : List Weights) → without_zeros (map (on l) (vs ++ ws)) ≡ ahead l vs (without_zeros (map (on l) ws))
unfolding without_zeros
zeros_ahead l [] ws = refl
zeros_ahead l (v ∷ vs) ws = ap (in_front (on l v)) (zeros_ahead l vs ws)
