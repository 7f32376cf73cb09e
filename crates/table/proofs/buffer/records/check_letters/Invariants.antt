use Rattle.std.proofs.Common.{◌≡◌, [], drop, take}
use Rattle.table.specs.Records.{first_refusal, letter_record}
use Rattle.table.proofs.buffer.records.check_letters.Given as goal

abbrev pub invariant-loop-place : goal.invariant-loop-place
invariant-loop-place l = first_refusal letter_record (take l.place l.letters) (drop l.place l.letters) ≡ first_refusal letter_record [] l.letters
