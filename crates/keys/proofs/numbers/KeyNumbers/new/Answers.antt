use Rattle.std.proofs.Common.{ap}
use Rattle.keys.specs.Reading.{numbers_left}
use Rattle.keys.specs.Rows.{key}
use Rattle.keys.proofs.numbers.KeyNumbers.new.Goals as goal

pub returns : goal.returns
unfolding key
returns c = ap (λ r. numbers_left (record { row = r; name = c.args.name })) c.new.ensures.start
