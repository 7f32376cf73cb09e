use Rattle.std.proofs.Common.{sym, ◌∙◌}
use Rattle.table.specs.Rules.{rules_by}
use Rattle.table.proofs.Longs.{longs_pair}
use Rattle.table.proofs.Places.{contracts}
use Rattle.table.proofs.view.Table.pair.Goals as goal

pub returns : goal.returns
returns c =
    let t = c.args.self.now in
    c.weights.ensures
    ∙ sym (longs_pair (rules_by t.utf8 t.letters.now t.others.now t.pairs.numbers.now t.pairs.count) t.longs.now c.args.first c.args.second
    ∙ contracts t.utf8 t.letters.now t.others.now t.pairs.numbers.now t.pairs.count c.args.first c.args.second)
