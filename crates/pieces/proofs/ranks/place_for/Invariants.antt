use Rattle.std.proofs.Common.{◌≡◌, ◌-◌, ◌≤◌, length, true}
use Rattle.pieces.specs.Ranks.{below, rises}
use Rattle.pieces.proofs.ranks.place_for.Given as goal

-- those in front of one place are below, and those from another on are not
abbrev pub invariant-loop-low : goal.invariant-loop-low
invariant-loop-low g l =
    (l.low ≤ l.high) × (l.high ≤ length l.items)
    × (rises g.T.Ranked.rank l.items ≡ true → (l.low ≤ below g.T.Ranked.rank l.items l.rank) × (below g.T.Ranked.rank l.items l.rank ≤ l.high))

abbrev pub decreases-loop-low : goal.decreases-loop-low
decreases-loop-low g l = l.high - l.low
