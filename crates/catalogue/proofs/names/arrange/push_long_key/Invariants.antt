use Rattle.std.proofs.Common.{◌≡◌, ◌++◌}
use Rattle.keys.specs.Reading.{numbers_left}
use Rattle.keys.specs.Rows.{key}
use Rattle.table.specs.Meaning.{rules_of}
use Rattle.catalogue.proofs.names.arrange.push_long_key.Given as goal

-- those written and those left are the key, behind what was there
abbrev pub invariant-loop-number : goal.invariant-loop-number
invariant-loop-number l = l.numbers.items ++ numbers_left l.number-iterator ≡ l.initial.numbers.items ++ key (rules_of l.fn.table) l.fn.name
