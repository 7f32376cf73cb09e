use Rattle.std.proofs.Common.{◌%◌, false, get_or, ap, sym, ◌∙◌, arith}
use Rattle.table.proofs.Longs.{mark_there, marks_say, none_begins}
use Rattle.table.proofs.view.Table.may_begin.Goals as goal

pub returns-clause-says : goal.returns-clause-says
returns-clause-says c =
    let t = c.args.self.now in
    ap (λ ms. get_or ms (c.args.letter % 256) false) t.marked
    ∙ (mark_there t.pairs.numbers.now t.pairs.count t.longs.now (c.args.letter % 256) (omega arith) ∙ marks_say t.pairs.numbers.now t.pairs.count t.longs.now c.args.letter)

pub returns-clause-none : goal.returns-clause-none
returns-clause-none c e =
    let t = c.args.self.now in
    none_begins t.pairs.numbers.now t.pairs.count t.utf8 t.letters.now t.others.now t.longs.now c.args.letter
    (sym (mark_there t.pairs.numbers.now t.pairs.count t.longs.now (c.args.letter % 256) (omega arith)) ∙ (ap (λ ms. get_or ms (c.args.letter % 256) false) (sym t.marked) ∙ e))
