use Rattle.std.proofs.Common.{get_or, sym, ap, ◌∙◌}
use Rattle.table.specs.Records.{twice_record}
use Rattle.table.specs.Refusals.{verdict}
use Rattle.table.proofs.Told.{twice_at, looked_at, looked_past, looked_through, none_off}
use Rattle.table.proofs.buffer.records.all_apart.Goals as goal

pub returns-then-is_among : goal.returns-then-is_among
returns-then-is_among c =
    let rs = c.args.runs.now in
    let k = c.loop-place.place in
    let l = c.loop-place-test.true in
    let t = sym c.is_among.ensures ∙ c.if-is_among.true in
    let e = twice_at rs k (get_or rs k _) _ l (rw (none_off k) at t) in
    ap verdict (sym (looked_at twice_record rs k _ l _ c.loop-place.invariant _ e))

pub loop-place-preserved : goal.loop-place-preserved
loop-place-preserved c =
    let rs = c.args.runs.now in
    let k = c.loop-place.place in
    let l = c.loop-place-test.true in
    let t = sym c.is_among.ensures ∙ c.if-is_among.false in
    looked_past twice_record rs k _ l _ c.loop-place.invariant (twice_at rs k (get_or rs k _) _ l (rw (none_off k) at t))

pub returns : goal.returns
returns c = ap verdict (sym (looked_through twice_record c.args.runs.now c.loop-place.place c.loop-place-test.false _ c.loop-place.invariant))
