use Rattle.std.proofs.Common.{◌-◌, length, sym, ap, ◌∙◌, arith}
use Rattle.std.proofs.lemmas.List.{length-drop}
use Rattle.order.proofs.Fronts.{last_read, rest_of}
use Rattle.order.proofs.front.last_in.Goals as goal

pub returns-then-letter-lt65536 : goal.returns-then-letter-lt65536
returns-then-letter-lt65536 c =
    let n = c.args.front.now in
    let i = length n - c.loop-length.length in
    let d = length-drop i n in
    let k = c.if-taken-length.true in
    let f = c.if-length-front.false in
    let g = rest_of n i in
    let x = ap length g in
    last_read c.args.utf8 n i c.in_ok-letter.letter c.in_ok-letter.taken c.loop-length.length _ g (sym c.first_in.ensures ∙ c.in_ok-letter.was) (omega (arith, k, d, x, f)) c.if-letter-lt65536.true (omega (arith, d, x, f)) (omega (arith, f))
