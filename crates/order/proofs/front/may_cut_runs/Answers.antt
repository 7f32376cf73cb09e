use Rattle.std.proofs.Common.{◌-◌, length, take, drop, sym, ap, ◌∙◌}
use Rattle.keys.specs.Letters.{first_in}
use Rattle.table.specs.Meaning.{rules_of}
use Rattle.table.proofs.Lawful.{runs_fit}
use Rattle.order.proofs.Fronts.{at_runs, rest_of}
use Rattle.order.proofs.front.may_cut_runs.Goals as goal

pub returns-then-next-lt65536 : goal.returns-then-next-lt65536
returns-then-next-lt65536 c t =
    let b = c.args.table.now in
    let r = rules_of b in
    let n = c.args.name.now in
    let next = ap (λ v. first_in v (take (length n - c.args.place) (drop c.args.place n))) (sym c.utf8-2.ensures) ∙ (sym c.first_in.ensures ∙ c.in-Some.is) in
    at_runs r (runs_fit b) n c.args.place c.in-Some.next c.in-Some.field-0-1 _ (rest_of n c.args.place) next c.if-next-lt65536.true (c.none_begins.ensures t)
