use Rattle.std.proofs.Common.{length, sym, ap, arith, ◌∙◌}
use Rattle.utf8.proofs.Counting.{ended, left_few, letter_counted, none_there}
use Rattle.utf8.proofs.count.count_letters.Goals as goal

pub returns-then-letter-gt65535 : goal.returns-then-letter-gt65535
returns-then-letter-gt65535 c =
    let n = c.args.bytes.now in
    let p = c.loop-letter.place in
    none_there n p c.in-Some.letter c.in-Some.taken (sym c.first_letter.ensures ∙ c.in-Some.is) c.if-letter-gt65535.true c.loop-letter.invariant.3

pub overflow_add-place : goal.overflow_add-place
overflow_add-place c =
    let k = left_few c.args.bytes.now c.loop-letter.place c.in-Some.letter c.in-Some.taken (sym c.first_letter.ensures ∙ c.in-Some.is) c.loop-letter.invariant.0 in
    omega arith

pub loop-letter-smaller : goal.loop-letter-smaller
loop-letter-smaller c =
    let k = left_few c.args.bytes.now c.loop-letter.place c.in-Some.letter c.in-Some.taken (sym c.first_letter.ensures ∙ c.in-Some.is) c.loop-letter.invariant.0 in
    omega arith

pub loop-letter-preserved : goal.loop-letter-preserved
loop-letter-preserved c =
    let n = c.args.bytes.now in
    let p = c.loop-letter.place in
    let e = sym c.first_letter.ensures ∙ c.in-Some.is in
    let k = left_few n p c.in-Some.letter c.in-Some.taken e c.loop-letter.invariant.0 in
    let l = letter_counted n p c.in-Some.letter c.in-Some.taken e c.if-letter-gt65535.false in
    (omega arith, omega arith, omega (arith, ap length l.0, c.loop-letter.invariant.2), c.loop-letter.invariant.3 ∙ l.1)

pub returns : goal.returns
returns c = ended c.args.bytes.now c.loop-letter.place c.loop-letter.count (sym c.first_letter.ensures ∙ c.in_default.is) c.loop-letter.invariant.2 c.loop-letter.invariant.3
