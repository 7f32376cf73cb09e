use Rattle.std.proofs.Common.{◌≡◌, [], drop, take}
use Rattle.table.specs.Records.{first_refusal, foreign_record}
use Rattle.table.proofs.buffer.records.all_known.Given as goal

abbrev pub invariant-loop-place : goal.invariant-loop-place
invariant-loop-place l = first_refusal foreign_record (take l.place l.runs) (drop l.place l.runs) ≡ first_refusal foreign_record [] l.runs
