use Rattle.std.proofs.Common.{[], ◌∷◌, ◌||◌, is_some, length, ltb, vec_items, sym, ap, ◌∙◌}
use Rattle.pieces.specs.Ranks.{at_rank, climbs}
use Rattle.pieces.specs.Runs.{counts, expansion_rank}
use Rattle.table.specs.Buffer.{buffer_rules}
use Rattle.table.specs.Rules.{expands_in}
use Rattle.table.proofs.Entries.{it_expands, they_climb}
use Rattle.table.proofs.buffer.TableBuf.is_weighed.Goals as goal

pub returns-else-counts : goal.returns-else-counts
unfolding expands_in
returns-else-counts c =
    let b = c.args.self.now in
    let es = vec_items b.expansions in
    let a = c.args.letter in
    let v = c.as_slice.ensures.value in
    let s = they_climb b.utf8 (vec_items b.letters) (vec_items b.others) es b.expand in
    let f = c.find_ranked.ensures (ap (climbs expansion_rank) v ∙ s) ∙ ap (λ xs. at_rank expansion_rank xs a) v in
    let n = ap counts (sym c.letter.ensures) ∙ (sym c.counts.ensures ∙ c.if-counts.false) in
    c.is_some.ensures ∙ (ap is_some f ∙ (it_expands es a ∙ ap (λ x. x || ltb 0 (length ((buffer_rules b).expands (a ∷ [])))) (sym n)))
