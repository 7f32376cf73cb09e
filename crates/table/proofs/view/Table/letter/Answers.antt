use Rattle.std.proofs.Common.{sym, ◌∙◌}
use Rattle.table.specs.Rules.{rules_by, weighs_in}
use Rattle.table.proofs.Longs.{longs_letter}
use Rattle.table.proofs.view.Table.letter.Goals as goal

pub returns : goal.returns
unfolding weighs_in
returns c =
    let t = c.args.self.now in
    c.letter_weights.ensures ∙ sym (longs_letter (rules_by t.utf8 t.letters.now t.others.now t.pairs.numbers.now t.pairs.count) t.longs.now c.args.letter)
