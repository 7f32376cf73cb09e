use Rattle.std.proofs.Common.{◌≡◌, ◌∷◌, ◌++◌, [], ap, ◌∙◌, arith}
use Rattle.std.specs.Option.{option_map}
use Rattle.texts.specs.Lines.{in_threes}
use Rattle.texts.proofs.Weighing.{threes_more}
use Rattle.texts.proofs.line.read_triples.Goals as goal

pub loop-primary-preserved : goal.loop-primary-preserved
loop-primary-preserved c =
    let i = c.loop-primary.invariant.2 in
    let w = c.in_ok-weights.weights in
    let x = c.in-Some.primary.now in
    let y = c.in_ok-secondary.secondary.now in
    let z = c.in_ok-tertiary.tertiary.now in
    let rest = c.next-in-Some-2.new.self in
    let e : x ∷ (y ∷ (z ∷ rest)) ≡ c.loop-primary.words = grind arith in
    (tt, tt, (i.0 ++ w ∷ [], c.one_more.ensures i.0 i.1, threes_more i.0 w x y z rest c.in_ok-weights.ensures ∙ (ap (λ ws. option_map (λ vs. i.0 ++ vs) (in_threes ws)) e ∙ i.2)))
