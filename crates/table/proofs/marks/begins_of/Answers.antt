use Rattle.std.proofs.Common.{◌%◌, get_or, set, take, true, sym, ap, ◌∙◌}
use Rattle.std.proofs.lemmas.List.{take_all, take_more}
use Rattle.pieces.proofs.Finding.{no_long}
use Rattle.table.specs.Chain.{all_marks}
use Rattle.table.proofs.Longs.{marked_more, no_marks_more}
use Rattle.table.proofs.marks.begins_of.Goals as goal

pub loop-long-init : goal.loop-long-init
loop-long-init c = c.begins-begins.ensures ∙ no_marks_more c.args.pairs.now.numbers.now c.args.pairs.now.count

pub loop-long-preserved : goal.loop-long-preserved
loop-long-preserved c =
    let p = c.args.pairs.now in
    let es = c.args.longs.now in
    let k = c.loop-long.long-index in
    let e = get_or es k no_long in
    ap (λ ms. set ms (e.run.first % 256) true) c.loop-long.invariant
    ∙ (marked_more p.numbers.now p.count (take k es) e ∙ ap (all_marks p.numbers.now p.count) (sym (take_more es k no_long c.loop-long-test.true)))

pub returns : goal.returns
returns c =
    let p = c.args.pairs.now in
    let es = c.args.longs.now in
    c.loop-long.invariant ∙ ap (all_marks p.numbers.now p.count) (take_all c.loop-long.long-index es c.loop-long-test.false)
