use Rattle.std.proofs.Common.{◌≡◌, ◌≤◌, take}
use Rattle.table.specs.Records.{many_weighing}
use Rattle.table.proofs.buffer.records.many_weighing.Given as goal

abbrev pub invariant-loop-entry : goal.invariant-loop-entry
invariant-loop-entry l = (l.many ≡ many_weighing (take l.entry-index l.letters)) × (l.many ≤ l.entry-index)
