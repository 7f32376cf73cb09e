use Rattle.std.proofs.Common.{◌≡◌, ◌-◌, ◌≤◌}
use Rattle.order.specs.Pieces.{NoneBetween, places}
use Rattle.order.proofs.piece.OldPiecesIterator.next.Given as goal

abbrev pub invariant-loop-self : goal.invariant-loop-self
invariant-loop-self l =
    let s = l.fn.self in
    (l.self.table ≡ s.table) × (l.self.old ≡ s.old) × (s.place ≤ l.self.place) × NoneBetween s s.place l.self.place

abbrev pub decreases-loop-self : goal.decreases-loop-self
decreases-loop-self l = places l.self.table.now - l.self.place
