use Rattle.std.proofs.Common.{take}
use Rattle.table.specs.Records.{Says}
use Rattle.table.proofs.buffer.TableBuf.write_letters.Given as goal

abbrev pub invariant-loop-entry : goal.invariant-loop-entry
invariant-loop-entry l = Says (take l.entry-index l.letters) l.runs l.self
