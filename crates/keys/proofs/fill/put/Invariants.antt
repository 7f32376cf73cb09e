use Rattle.std.proofs.Common.{◌≡◌, ◌+◌, ◌++◌, drop, map, take}
use Rattle.keys.proofs.Filling.{Filled}
use Rattle.keys.proofs.fill.put.Given as goal

abbrev pub invariant-loop-weight : goal.invariant-loop-weight
invariant-loop-weight g l =
    (l.n ≡ l.from + l.weight-index)
    × Filled (take l.from l.initial.room ++ map g.T.Cell.cell l.weights) l.initial.room l.n l.room (map g.T.Cell.cell (drop l.weight-index l.weights))
