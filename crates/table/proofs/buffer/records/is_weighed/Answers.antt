use Rattle.std.proofs.Common.{◌&&◌, eqb, ◌∙◌, rules}
use Rattle.std.proofs.lemmas.Iterator.{YieldsList-from_slice}
use Rattle.std.proofs.lemmas.Iterator.Search.{any_from_yields_List}
use Rattle.pieces.specs.Runs.{counts_some}
use Rattle.table.proofs.Told.{any_told}
use Rattle.table.proofs.buffer.records.is_weighed.Goals as goal

pub returns : goal.returns
returns c =
    let es = c.args.entries.now in
    any_from_yields_List (λ e. eqb e.letter c.args.letter && counts_some e.weights) _ _ _ c.any.ensures.ran (YieldsList-from_slice es cc) (λ x b q k. search rules)
    ∙ any_told c.args.letter es
