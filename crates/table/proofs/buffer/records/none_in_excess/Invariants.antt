use Rattle.std.proofs.Common.{◌≡◌, [], drop, take}
use Rattle.table.specs.Records.{excess_record, first_refusal}
use Rattle.table.proofs.buffer.records.none_in_excess.Given as goal

abbrev pub invariant-loop-place : goal.invariant-loop-place
invariant-loop-place l = first_refusal excess_record (take l.place l.letters) (drop l.place l.letters) ≡ first_refusal excess_record [] l.letters
