use Rattle.std.proofs.Common.{sym, ap, ◌∙◌}
use Rattle.std.specs.Option.{option_map}
use Rattle.pieces.specs.Runs.{expanded_if}
use Rattle.table.specs.Rules.{expands_in}
use Rattle.table.proofs.Entries.{they_climb}
use Rattle.table.proofs.view.Table.expansion.Goals as goal

pub returns-in-Some : goal.returns-in-Some
unfolding expands_in
returns-in-Some c =
    let t = c.args.self.now in
    let f = c.find_ranked.ensures (they_climb t.utf8 t.letters.now t.others.now t.expansions.now t.expand) in
    ap (λ o. expanded_if (option_map (λ e. e.weights) o)) (sym c.in-Some.is ∙ f)

pub returns-in-None : goal.returns-in-None
unfolding expands_in
returns-in-None c =
    let t = c.args.self.now in
    let f = c.find_ranked.ensures (they_climb t.utf8 t.letters.now t.others.now t.expansions.now t.expand) in
    ap (λ o. expanded_if (option_map (λ e. e.weights) o)) (sym c.in-None.is ∙ f)
