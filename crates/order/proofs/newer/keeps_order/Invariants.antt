use Rattle.std.proofs.Common.{◌≡◌, true}
use Rattle.table.specs.Meaning.{rules_of}
use Rattle.order.specs.Newer.{is_piece}
use Rattle.order.proofs.Deciding.{Counted, Placed, StandsTo, Walked}
use Rattle.order.proofs.newer.keeps_order.Given as goal

-- what is met of the newer table is a piece of the older
abbrev pub invariant-loop-piece : goal.invariant-loop-piece
invariant-loop-piece l =
    (goal.iterator-loop-piece).can_next l.piece-iterator × (goal.iterator-loop-piece).is_finite l.piece-iterator
    × Walked l.fn.newer l.fn.old (λ q. is_piece (rules_of l.fn.older) q ≡ true) l.piece-iterator

-- what is met of the older is one of the newer, and weighs 0 where it did
abbrev pub invariant-loop-piece-2 : goal.invariant-loop-piece-2
invariant-loop-piece-2 l =
    (goal.iterator-loop-piece-2).can_next l.piece-iterator × (goal.iterator-loop-piece-2).is_finite l.piece-iterator
    × Walked l.fn.older l.fn.old (Counted l.fn.old (rules_of l.fn.older) (rules_of l.fn.newer)) l.piece-iterator

-- and so is what is met of the newer once more
abbrev pub invariant-loop-piece-3 : goal.invariant-loop-piece-3
invariant-loop-piece-3 l =
    (goal.iterator-loop-piece-3).can_next l.piece-iterator × (goal.iterator-loop-piece-3).is_finite l.piece-iterator
    × Walked l.fn.newer l.fn.old (Counted l.fn.old (rules_of l.fn.older) (rules_of l.fn.newer)) l.piece-iterator

-- it stands to each other one as before
abbrev pub invariant-loop-piece-4 : goal.invariant-loop-piece-4
invariant-loop-piece-4 l =
    (goal.iterator-loop-piece-4).can_next l.piece-iterator × (goal.iterator-loop-piece-4).is_finite l.piece-iterator
    × Walked l.fn.older l.fn.old (Placed l.fn.old (rules_of l.fn.older) (rules_of l.fn.newer)) l.piece-iterator

-- one of them, to those met so far
abbrev pub invariant-loop-other : goal.invariant-loop-other
invariant-loop-other l =
    (goal.iterator-loop-other).can_next l.other-iterator × (goal.iterator-loop-other).is_finite l.other-iterator
    × Walked l.fn.older l.fn.old (StandsTo l.fn.old (rules_of l.fn.older) (rules_of l.fn.newer) l.weighed) l.other-iterator
