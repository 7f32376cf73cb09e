use Rattle.std.proofs.Common.{sym, ◌∙◌}
use Rattle.keys.proofs.Lettering.{long_first, none_first, small_first}
use Rattle.keys.proofs.letters.first_in.Goals as goal

pub returns-in_err-first : goal.returns-in_err-first
returns-in_err-first c = c.from_residual.ensures ∙ none_first c.args.utf8 c.args.name.now c.in_err-first.ensures.cases

pub returns-then-one_byte : goal.returns-then-one_byte
returns-then-one_byte c =
    small_first c.args.utf8 c.in_ok-first.first.now c.in_ok-first.field-0-1.now c.args.name.now c.in_ok-first.ensures.cases.0 (sym c.one_byte.ensures ∙ c.if-one_byte.true)

pub returns : goal.returns
returns c = c.first_letter.ensures ∙ long_first c.args.utf8 c.in_ok-first.first.now c.args.name.now (sym c.one_byte.ensures ∙ c.if-one_byte.false)
