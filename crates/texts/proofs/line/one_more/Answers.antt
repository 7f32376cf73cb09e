-- Named, and not left to what the check tries: a wrong triple is then refused by what differs, and not at a limit.
use Rattle.std.proofs.Common.{◌≡◌, ◌∷◌, ◌++◌, [], None, Some, ◌∙◌, subst, sym, arith}
use Rattle.pieces.specs.declared.piece.Expanded.{Expanded}
use Rattle.pieces.specs.declared.piece.Triples.TheVariants.{Several}
use Rattle.texts.specs.Lines.{as_triples}
use Rattle.texts.proofs.Weighing.{third_behind}
use Rattle.texts.proofs.line.one_more.Goals as goal

pub returns-in-Some-Several : goal.returns-in-Some-Several
returns-in-Some-Several c = λ ws q.
    let e = c.in-Some-Several.two in
    let w = c.args.weights in
    let n : e.third ≡ None = grind arith in
    let s : c.args.triples ≡ Some (Several e) = grind arith in
    subst (λ (i : Expanded). Some (Several (record { first = i.first; second = i.second; third = Some w })) ≡ as_triples (Some (ws ++ w ∷ []))) (sym c.in-Some-Several.two-is) (third_behind e w ws n (sym s ∙ q))
