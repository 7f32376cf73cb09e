use Rattle.std.proofs.Common.{get_or, ap, ◌∙◌}
use Rattle.table.specs.Rules.{with_run}
use Rattle.table.proofs.Told.{no_run, one_more, run_fits, run_free, run_said}
use Rattle.table.proofs.buffer.TableBuf.write_runs.Goals as goal

pub write_run-requires-clause-free : goal.write_run-requires-clause-free
write_run-requires-clause-free c =
    let i = c.loop-run.invariant in
    run_free c.args.runs.now c.requires.runs c.loop-run.run-index _ c.loop-run-test.true _ _ i.0 i.2

pub write_run-requires-clause-fits : goal.write_run-requires-clause-fits
write_run-requires-clause-fits c = run_fits c.args.runs.now c.requires.fit c.loop-run.run-index _ c.loop-run-test.true

pub loop-run-preserved : goal.loop-run-preserved
loop-run-preserved c =
    let rs = c.args.runs.now in
    let k = c.loop-run.run-index in
    let l = c.loop-run-test.true in
    let i = c.loop-run.invariant in
    let e = c.in_ok-write_run.ensures in (
      e.0 ∙ (ap (λ t. with_run t (get_or rs k no_run).letters.now (get_or rs k no_run).weights) i.0 ∙ run_said rs c.requires.runs c.requires.fit k no_run l),
      e.1 ∙ i.1,
      e.2 ∙ one_more rs k _ i.2 l,
    )
