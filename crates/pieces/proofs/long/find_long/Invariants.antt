use Rattle.std.proofs.Common.{◌≡◌, ◌-◌, ◌≤◌, drop, length, true}
use Rattle.pieces.specs.Ranks.{rises}
use Rattle.pieces.specs.Runs.{long_letters, long_among, long_rank, rank_of}
use Rattle.pieces.proofs.Ranking.{from}
use Rattle.pieces.proofs.long.find_long.Given as goal

-- the run is not in front of the place, and from it on none is of a lower rank
abbrev pub invariant-loop-place : goal.invariant-loop-place
invariant-loop-place l =
    (l.place ≤ length l.longs)
    × (rises long_rank l.longs ≡ true
    → (long_among (drop l.place l.longs) (long_letters l.run) ≡ long_among l.longs (long_letters l.run))
    × (from long_rank (rank_of (long_letters l.run)) (drop l.place l.longs) ≡ true))

abbrev pub decreases-loop-place : goal.decreases-loop-place
decreases-loop-place l = length l.longs - l.place
