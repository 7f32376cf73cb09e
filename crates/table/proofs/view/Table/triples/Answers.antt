use Rattle.std.proofs.Common.{[], ◌∷◌, sym, ap, ap₂, ◌∙◌}
use Rattle.pieces.specs.Runs.{expanded_if}
use Rattle.table.specs.Meaning.{rules_of}
use Rattle.table.specs.Rules.{as_entered}
use Rattle.table.proofs.Entries.{entered_several}
use Rattle.table.proofs.view.Table.triples.Goals as goal

pub returns-in-Some : goal.returns-in-Some
returns-in-Some c =
    let t = rules_of c.args.self.now in
    let w = t.weighs (c.args.letter ∷ []) in
    sym (ap (as_entered w) (sym c.expansion.ensures ∙ ap expanded_if c.in-Some.is) ∙ entered_several w c.in-Some.expanded)

pub returns-in-None : goal.returns-in-None
returns-in-None c =
    let t = rules_of c.args.self.now in
    let e = sym c.expansion.ensures ∙ ap expanded_if c.in-None.is in
    sym (ap₂ as_entered (sym c.letter.ensures) e)
