use Rattle.std.proofs.Common.{get_or, length, inl, inr, sym, ap}
use Rattle.table.specs.Records.{length_record}
use Rattle.table.specs.Refusals.{verdict}
use Rattle.table.proofs.Told.{fit, length_at, looked_at, looked_past, looked_through, no_run, unfit}
use Rattle.table.proofs.buffer.records.all_fit.Goals as goal
use Rattle.table.proofs.buffer.records.all_fit.Goals.{then-run-lt2-via-then-run-lt2, then-run-lt2-via-else-run-lt2+then-run-gt4}

pub returns-then-run-lt2 : goal.returns-then-run-lt2
returns-then-run-lt2 c =
    let rs = c.args.runs.now in
    let k = c.loop-place.place in
    let l = c.loop-place-test.true in
    let n = length (get_or rs k no_run).letters.now in
    let t = unfit n (elim c.then-run-lt2.branch [
      | then-run-lt2-via-then-run-lt2 w ↦ inl w.if-run-lt2.true
      | then-run-lt2-via-else-run-lt2+then-run-gt4 w ↦ inr w.if-run-gt4.true
    ]) in
    ap verdict (sym (looked_at length_record rs k no_run l _ c.loop-place.invariant _ (length_at rs k (get_or rs k no_run) _ l t)))

pub loop-place-preserved : goal.loop-place-preserved
loop-place-preserved c =
    let rs = c.args.runs.now in
    let k = c.loop-place.place in
    let l = c.loop-place-test.true in
    let n = length (get_or rs k no_run).letters.now in
    looked_past length_record rs k no_run l _ c.loop-place.invariant (length_at rs k (get_or rs k no_run) _ l (fit n c.if-run-lt2.false c.if-run-gt4.false))

pub returns : goal.returns
returns c = ap verdict (sym (looked_through length_record c.args.runs.now c.loop-place.place c.loop-place-test.false _ c.loop-place.invariant))
