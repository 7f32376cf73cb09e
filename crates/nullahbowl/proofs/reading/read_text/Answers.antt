use Rattle.std.proofs.Common.{◌≡◌, ◌+◌, ◌^◌, ◌<◌, [], length, rules, arith, ap, ◌∙◌}
use Rattle.std.proofs.lemmas.List.{length_push}
use Rattle.nullahbowl.specs.Answers.{lines_in}
use Rattle.texts.specs.Parts.{parts}
use Rattle.nullahbowl.proofs.Progress.{all_taken, begun, blank_step, read_step, stepped, unwritten}
use Rattle.nullahbowl.proofs.reading.read_text.Goals as goal

pub loop-place-init : goal.loop-place-init
loop-place-init g c =
    let counts : c.into_iter-place-iterator.result.count ≡ 0 = cc in
    let faults : c.default-tally.result.faults ≡ 0 = search rules in
    let asked : c.default-tally.result.asked ≡ 0 = search rules in
    let first = begun c.args.options c.args.session.now c.into_iter-place-iterator.result.iter _ _ _ counts faults asked in
    let most = c.new.ensures.count in
    let least = c.without_feed.ensures in
    (omega arith, omega arith, search rules, counts, ([], unwritten _, first))

pub loop-place-preserved : goal.loop-place-preserved
loop-place-preserved g c =
    let m = c.loop-place in
    let step = c.in-Some.ensures.steps in
    let blank = blank_step c.args.options m.session c.in-Some.line.now c.in-Some.place m.tally (g.W.Write.contents m.out) (search rules) in
    stepped _ _ _ _ _ _ _ _ m.tally _ _ _ (g.W.Write.contents m.out) _ _ m.tally _ _ m.session m.invariant blank step.0 step.1 step.2
    (length_push m.yielded (c.in-Some.place, c.in-Some.line))

pub loop-place-preserved-in-loop-place : goal.loop-place-preserved-in-loop-place
loop-place-preserved-in-loop-place g c =
    let m = c.loop-place in
    let i = m.invariant in
    let step = c.in-Some.ensures.steps in
    let one = c.in_ok-read_line.ensures in
    let room : length m.yielded + 1 < 2 ^ 64 = omega (arith, step.1, step.3, i.3) in
    let read = read_step c.args.options m.session c.in-Some.line.now c.in-Some.place m.tally c.and-tally.result c.in_ok-read_line.field-0 (length m.yielded)
    (g.W.Write.contents m.out) (g.W.Write.contents c.read_line.new.out) c.read_line.new.session one.0 one.1 one.2 c.and-tally.ensures i.0 i.1 room in
    stepped _ _ _ _ _ _ _ _ m.tally _ _ _ (g.W.Write.contents m.out) _ _ _ _ _ _ i read step.0 step.1 step.2
    (length_push m.yielded (c.in-Some.place, c.in-Some.line))

pub returns : goal.returns
returns g c =
    let step = c.in-None.ensures.steps in
    let i = c.loop-place.invariant in
    let a = c.args in
    let text : c.new.result ≡ lines_in a.text.now = c.new.ensures.all ∙ ap (parts 10) c.without_feed.ensures in
    let lines : c.enumerate-place-items.result.iter ≡ lines_in a.text.now = c.enumerate-place-items.ensures.source ∙ text in
    let same : c.into_iter-place-iterator.result.iter ≡ c.enumerate-place-items.result.iter = ap (λ it. it.iter) c.into_iter-place-iterator.ensures.into_iter_gives in
    let all = all_taken a.options a.session.now c.into_iter-place-iterator.result.iter c.loop-place.session c.loop-place.place-iterator.iter
    c.loop-place.place-iterator.count c.loop-place.tally.faults c.loop-place.tally.asked i.4.0 i.4.2 step.0.0 in
    (i.4.0, rw lines at (rw same at all), i.4.1)
