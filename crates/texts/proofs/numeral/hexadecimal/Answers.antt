use Rattle.std.proofs.Common.{rules, arith, ◌∙◌}
use Rattle.texts.proofs.Reading.{hex_read}
use Rattle.texts.proofs.numeral.hexadecimal.Goals as goal

pub returns-in_err-number_in_base : goal.returns-in_err-number_in_base
returns-in_err-number_in_base c = c.from_residual.ensures ∙ hex_read c.args.digits.now _ (omega arith) (omega arith) (λ p. c.in_err-number_in_base.ensures (p.0, omega arith))

pub returns : goal.returns
returns c = hex_read c.args.digits.now _ (omega arith) (omega arith) (search rules)
