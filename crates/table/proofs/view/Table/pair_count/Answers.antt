use Rattle.std.proofs.Common.{sym, ◌∙◌}
use Rattle.std.proofs.lemmas.List.FromFn.{length-map-range_with_len}
use Rattle.table.specs.Numbers.{pair_at}
use Rattle.table.proofs.view.Table.pair_count.Goals as goal

pub returns-clause-count : goal.returns-clause-count
returns-clause-count c = let p = c.args.self.now.pairs in c.len.ensures ∙ sym (length-map-range_with_len (pair_at p.numbers.now) 0 p.count)
