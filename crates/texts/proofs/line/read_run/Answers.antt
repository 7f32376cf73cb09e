-- Named, and not left to what the check tries: a wrong letter or weight is then refused by what differs, and not at a limit.
use Rattle.std.proofs.Common.{arith}
use Rattle.texts.proofs.line.read_run.Goals as goal

pub returns-in_ok-weights-in-Some-None-default : goal.returns-in_ok-weights-in-Some-None-default
returns-in_ok-weights-in-Some-None-default c = grind arith

pub returns-in_ok-weights-in-Some-Some-None : goal.returns-in_ok-weights-in-Some-Some-None
returns-in_ok-weights-in-Some-Some-None c = grind arith
