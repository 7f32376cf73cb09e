use Rattle.std.proofs.Common.{ap₂, ◌∙◌}
use Rattle.table.specs.Buffer.{many_runs}
use Rattle.table.proofs.Told.{none_told}
use Rattle.table.proofs.buffer.TableBuf.of.Goals as goal

pub write_runs-requires-clause-blank : goal.write_runs-requires-clause-blank
write_runs-requires-clause-blank c = let e = c.in_ok-table.ensures in (e.0 ∙ none_told, e.3, ap₂ many_runs e.1 e.2)
