use Rattle.std.proofs.Common.{ap, ap₂, sym, ◌∙◌}
use Rattle.keys.specs.Reading.{row_left}
use Rattle.order.specs.Names.{standing}
use Rattle.order.proofs.Comparing.{row_less, row_more, row_same}
use Rattle.order.proofs.collate.TableCollate.standing.Goals as goal

pub returns-in-Less : goal.returns-in-Less
returns-in-Less c =
    let n = c.next-in-loop-weight in
    row_less c.loop-weight.row n.new.self n.result c.in-Some.weight _ _ n.ensures.steps c.in-Some.ensures.steps.0 (sym c.cmp.ensures ∙ c.in-Less.is)
    ∙ (c.loop-weight.invariant.2 ∙ ap₂ standing c.new-row.ensures.row (ap row_left c.into_iter-weight-iterator.ensures.into_iter_gives ∙ c.new-weight-items.ensures.row))

pub loop-weight-preserved : goal.loop-weight-preserved
loop-weight-preserved c =
    let n = c.next-in-loop-weight in
    (tt, tt, row_same c.loop-weight.row n.new.self n.result c.in-Some.weight _ _ n.ensures.steps c.in-Some.ensures.steps.0 (sym c.cmp.ensures ∙ c.in-Equal.is) ∙ c.loop-weight.invariant.2)

pub returns-in-Greater : goal.returns-in-Greater
returns-in-Greater c =
    let n = c.next-in-loop-weight in
    row_more c.loop-weight.row n.new.self n.result c.in-Some.weight _ _ n.ensures.steps c.in-Some.ensures.steps.0 (sym c.cmp.ensures ∙ c.in-Greater.is)
    ∙ (c.loop-weight.invariant.2 ∙ ap₂ standing c.new-row.ensures.row (ap row_left c.into_iter-weight-iterator.ensures.into_iter_gives ∙ c.new-weight-items.ensures.row))
