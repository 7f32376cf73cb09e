use Rattle.std.proofs.Common.{arith}
use Rattle.utf8.proofs.Letters.{at_none, at_one}
use Rattle.utf8.proofs.first.first_letter.Goals as goal

pub returns-in_default : goal.returns-in_default
returns-in_default c = at_none c.args.bytes.now (omega arith)

pub returns-then-first-lt128 : goal.returns-then-first-lt128
returns-then-first-lt128 c = at_one c.args.bytes.now (omega arith) c.if-first-lt128.true
