-- Named, and not left to what the check tries: a wrong weight is then refused by numbers at which it fails, and not at a limit.
use Rattle.std.proofs.Common.{arith}
use Rattle.texts.proofs.line.read_weights.Goals as goal

pub returns : goal.returns
returns c = grind arith
