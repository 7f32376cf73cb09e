use Rattle.std.proofs.Common.{rules, arith, ◌∙◌}
use Rattle.texts.proofs.Reading.{decimal_read}
use Rattle.texts.proofs.numeral.number.Goals as goal

pub returns-in_err-number_in_base : goal.returns-in_err-number_in_base
returns-in_err-number_in_base c = c.from_residual.ensures ∙ decimal_read c.args.word.now _ (λ p. c.in_err-number_in_base.ensures (p.0, omega arith))

pub returns : goal.returns
returns c = decimal_read c.args.word.now _ (search rules)
