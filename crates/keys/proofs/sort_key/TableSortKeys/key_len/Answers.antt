use Rattle.std.proofs.Common.{◌+◌, ◌-◌, ◌^◌, min, length, ap, ◌∙◌, arith, rules}
use Rattle.std.proofs.lemmas.Iterator.Consumers.{fold_from_yields_List}
use borrow.Author.Tests.{tests}
use Rattle.keys.specs.Reading.{numbers_left}
use Rattle.keys.proofs.Filling.{counted, given}
use Rattle.keys.proofs.sort_key.TableSortKeys.key_len.Goals as goal

pub returns : goal.returns
returns c =
    let f = fold_from_yields_List _ (λ n x. min (n + 1) (2 ^ 64 - 1)) 0 c.fold.result c.fold.ensures.ran (given c.new.result) (λ a x b q k. search (rules, tests))
    ∙ counted (numbers_left c.new.result) 0 (2 ^ 64 - 1) (omega arith) in
    let k = ap length c.new.ensures in
    omega arith
