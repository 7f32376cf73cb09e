use Rattle.std.proofs.Common.{get_or, sym, ap, ◌∙◌}
use Rattle.table.specs.Records.{foreign_record}
use Rattle.table.specs.Refusals.{verdict}
use Rattle.table.proofs.Told.{foreign_at, looked_at, looked_past, looked_through}
use Rattle.table.proofs.buffer.records.all_known.Goals as goal

pub returns-then-has_unknown : goal.returns-then-has_unknown
returns-then-has_unknown c =
    let rs = c.args.runs.now in
    let k = c.loop-place.place in
    let l = c.loop-place-test.true in
    let e = foreign_at rs k (get_or rs k _) _ l (sym c.has_unknown.ensures ∙ c.if-has_unknown.true) in
    ap verdict (sym (looked_at foreign_record rs k _ l _ c.loop-place.invariant _ e))

pub loop-place-preserved : goal.loop-place-preserved
loop-place-preserved c =
    let rs = c.args.runs.now in
    let k = c.loop-place.place in
    let l = c.loop-place-test.true in
    looked_past foreign_record rs k _ l _ c.loop-place.invariant (foreign_at rs k (get_or rs k _) _ l (sym c.has_unknown.ensures ∙ c.if-has_unknown.false))

pub returns : goal.returns
returns c = ap verdict (sym (looked_through foreign_record c.args.runs.now c.loop-place.place c.loop-place-test.false _ c.loop-place.invariant))
