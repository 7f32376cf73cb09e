use Rattle.table.specs.Chain.{bucket}
use Rattle.table.proofs.Chaining.{Follows, height}
use Rattle.table.proofs.pairs.Pairs.locate.Given as goal

abbrev pub invariant-loop-at : goal.invariant-loop-at
invariant-loop-at l = Follows l.self.numbers.now (bucket l.first l.second) l.self.count l.first l.second l.at

abbrev pub decreases-loop-at : goal.decreases-loop-at
decreases-loop-at l = height l.at
