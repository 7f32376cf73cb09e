use Rattle.std.proofs.Common.{◌+◌, ◌*◌, sym, ap, ap₂, refl, ◌∙◌, subst, arith}
use Rattle.std.proofs.lemmas.Int.Digits.{digits_more, digits_value_more}
use Rattle.std.proofs.lemmas.List.{take_all}
use Rattle.std.proofs.lemmas.Bool.Decides.{nat_tests}
use Rattle.std.specs.Char.{digit_value}
use Rattle.std.specs.Str.Parse.{AllDigits, digits_value}
use Rattle.texts.proofs.Reading.{digit_of, front_below}
use Rattle.texts.proofs.numeral.number_in_base.Goals as goal

pub loop-byte-init : goal.loop-byte-init
loop-byte-init c = (refl, tt, omega arith)

pub returns-in_err-digit : goal.returns-in_err-digit
returns-in_err-digit c =
    let w = c.args.word.now in
    let e = c.from.ensures in
    let v = c.in_err-digit.ensures.value in
    rw c.from_residual.ensures (λ p. v (rw e (digit_of c.args.base w c.loop-byte.byte-index p.0.1 c.loop-byte-test.true)))

pub returns-in_err-checked_mul : goal.returns-in_err-checked_mul
returns-in_err-checked_mul c =
    let w = c.args.word.now in
    let r = c.requires.least in
    let b = front_below c.args.base w c.loop-byte.byte-index c.loop-byte.number _ (omega arith) c.loop-byte-test.true c.loop-byte.invariant.0 refl in
    let v = c.in_err-checked_mul.ensures in
    rw c.from_residual-in_err-checked_mul.ensures (λ p. v (omega (arith, b, p.1)))

pub returns-in_err-number : goal.returns-in_err-number
returns-in_err-number c =
    let w = c.args.word.now in
    let r = c.requires.least in
    let e = c.in_ok-digit.ensures.value.1 ∙ ap digit_value c.from.ensures in
    let m = c.in_ok-checked_mul.ensures.1 in
    let b = front_below c.args.base w c.loop-byte.byte-index c.loop-byte.number _ (omega arith) c.loop-byte-test.true c.loop-byte.invariant.0 (ap₂ (λ x y. x + y) m e) in
    let v = c.in_err-number.ensures in
    rw c.from_residual-in_err-number.ensures (λ p. v (omega (arith, b, p.1)))

pub loop-byte-preserved : goal.loop-byte-preserved
loop-byte-preserved c =
    let w = c.args.word.now in
    let k = c.loop-byte.byte-index in
    let l = c.loop-byte-test.true in
    let i = c.loop-byte.invariant in
    let d = c.in_ok-digit.ensures.value in
    let e = d.1 ∙ ap digit_value c.from.ensures in
    let m = c.in_ok-checked_mul.ensures.1 ∙ ap (λ x. x * c.args.base) i.0 in
    let n = c.in_ok-number.ensures in (
      n.1 ∙ (ap₂ (λ x y. x + y) m e ∙ sym (digits_value_more c.args.base w k l)),
      digits_more c.args.base w k l i.1 (rw (sym c.from.ensures) d.0),
      rw n.1 n.0,
    )

pub returns : goal.returns
returns c =
    let w = c.args.word.now in
    let l = c.loop-byte-test.false in
    let i = c.loop-byte.invariant in
    let t = take_all c.loop-byte.byte-index w (omega arith) in
    let e = i.0 ∙ ap (digits_value c.args.base) t in
    let n = i.2 in
    let z = sym c.is_empty.ensures ∙ c.if-is_empty.false in
    (((grind (arith, nat_tests), subst (AllDigits c.args.base) t i.1), omega (arith, e, n)), e)
