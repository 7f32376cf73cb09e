use Rattle.std.proofs.Common.{◌%◌, get_or, false, ap, ◌∙◌, arith}
use Rattle.table.proofs.Chaining.{mark_at}
use Rattle.table.proofs.pairs.Pairs.may_begin.Goals as goal

pub returns : goal.returns
returns c =
    let p = c.args.self.now in
    ap (λ ms. get_or ms (c.args.letter % 256) false) p.marked ∙ mark_at p.numbers.now p.count (c.args.letter % 256) (omega arith)
