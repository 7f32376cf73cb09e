use Rattle.std.proofs.Common.{vec_items, sym, ◌∙◌}
use Rattle.table.specs.Buffer.{buffer_count}
use Rattle.table.specs.Rules.{rules_by, weighs_in}
use Rattle.table.proofs.Longs.{longs_letter}
use Rattle.table.proofs.buffer.TableBuf.letter.Goals as goal

pub returns : goal.returns
unfolding weighs_in
returns c =
    let b = c.args.self.now in
    let e = c.letter_weights.ensures in
    let f = c.as_slice.ensures.value in
    let g = c.as_slice-2.ensures.value in
    rw (f, g) at e ∙ sym (longs_letter (rules_by b.utf8 (vec_items b.letters) (vec_items b.others) (vec_items b.pairs) (buffer_count b)) (vec_items b.longs) c.args.letter)
