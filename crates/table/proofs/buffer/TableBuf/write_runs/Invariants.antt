use Rattle.std.proofs.Common.{[], take}
use Rattle.table.specs.Records.{Says}
use Rattle.table.proofs.buffer.TableBuf.write_runs.Given as goal

abbrev pub invariant-loop-run : goal.invariant-loop-run
invariant-loop-run l = Says [] (take l.run-index l.runs) l.self
