use Rattle.std.proofs.Common.{sym, ◌∙◌}
use Rattle.pieces.specs.Runs.{long_letters}
use Rattle.table.specs.Rules.{rules_by}
use Rattle.table.proofs.Longs.{longs_alone, no_pair_joins}
use Rattle.table.proofs.view.Table.long.Goals as goal

pub returns : goal.returns
returns c =
    let t = c.args.self.now in
    c.find_long.ensures t.rise
    ∙ sym (longs_alone (rules_by t.utf8 t.letters.now t.others.now t.pairs.numbers.now t.pairs.count) t.longs.now (long_letters c.args.run) (no_pair_joins t.pairs.numbers.now t.pairs.count c.args.run))
