use Rattle.std.proofs.Common.{◌≡◌, take}
use Rattle.table.specs.Chain.{all_marks}
use Rattle.table.proofs.marks.begins_of.Given as goal

abbrev pub invariant-loop-long : goal.invariant-loop-long
invariant-loop-long l = l.begins ≡ all_marks l.fn.pairs.numbers.now l.fn.pairs.count (take l.long-index l.longs)
