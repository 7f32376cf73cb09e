use Rattle.std.proofs.Common.{◌≡◌, rules, arith}
use Rattle.keys.specs.Reading.{row_left}
use Rattle.keys.specs.Rows.{row}
use Rattle.keys.specs.declared.level.Level.TheVariants.{Primary}
use Rattle.table.specs.Meaning.{rules_of}
use Rattle.order.proofs.asked.Asked.new.Goals as goal

pub loop-weight-init : goal.loop-weight-init
loop-weight-init c =
    let e : row_left c.into_iter-weight-iterator.result ≡ row Primary (rules_of c.args.table.now) c.args.ask.now = search rules in
    (tt, tt, λ s. e, omega arith)
