use Rattle.std.proofs.Common.{◌≡◌, ◌*◌, drop}
use Rattle.table.proofs.pairs.Pairs.chain.Given as goal

abbrev pub invariant-loop-place : goal.invariant-loop-place
invariant-loop-place l =
    (l.self.numbers.now ≡ l.initial.self.numbers.now) × (l.self.count ≡ l.place-iterator.count)
    × (l.place-iterator.iter.size ≡ 5) × (l.place-iterator.iter.rest.now ≡ drop (5 * l.self.count) l.initial.self.numbers.now)
