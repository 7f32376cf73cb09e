use Rattle.std.proofs.Common.{sym, ◌∙◌, arith}
use Rattle.std.proofs.lemmas.Bool.Decides.{nat_tests}
use Rattle.texts.proofs.Reading.{one_read}
use Rattle.texts.proofs.numeral.one_letter.Goals as goal

pub returns : goal.returns
returns c = let e = one_read c.args.word.now c.in_ok-letter.letter c.in_ok-letter.taken (sym c.first_letter.ensures ∙ c.in_ok-letter.was) in grind (arith, nat_tests)
