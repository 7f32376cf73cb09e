use Rattle.std.proofs.Common.{ap, sym, arith}
use Rattle.texts.specs.Lines.{word_of}
use Rattle.texts.proofs.Saying.{six}
use Rattle.texts.proofs.line.Word.of.Goals as goal

pub returns-in-letter : goal.returns-in-letter
returns-in-letter c = sym (ap word_of (six c.args.word.now 108 101 116 116 101 114 (omega arith) (omega arith, omega arith, omega arith) (omega arith, omega arith, omega arith)))
