use Rattle.std.proofs.Common.{◌≡◌, List, ◌++◌, Some}
use Rattle.std.specs.Option.{option_map}
use Rattle.pieces.specs.declared.piece.Weights.{Weights}
use Rattle.texts.specs.Lines.{as_triples, in_threes}
use Rattle.texts.proofs.line.read_triples.Given as goal

abbrev pub invariant-loop-primary : goal.invariant-loop-primary
invariant-loop-primary l =
    (goal.iterator-loop-primary).can_next l.words × (goal.iterator-loop-primary).is_finite l.words
    × ((ws : List Weights) × (l.triples ≡ as_triples (Some ws)) × (option_map (λ vs. ws ++ vs) (in_threes l.words) ≡ in_threes l.fn.words))
