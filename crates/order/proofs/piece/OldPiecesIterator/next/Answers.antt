use Rattle.std.proofs.Common.{◌<◌, sym, ap, ◌∙◌, arith}
use Rattle.order.specs.Pieces.{places}
use Rattle.order.proofs.Deciding.{in_places, next_there, none_there}
use Rattle.order.proofs.piece.OldPiecesIterator.next.Goals as goal

pub returns-then-is_some-clause-steps : goal.returns-then-is_some-clause-steps
returns-then-is_some-clause-steps c =
    let s = c.loop-self.self in
    let i = c.loop-self.invariant in
    let l : s.place < places s.table.now = in_places c.args.self.now.table.now s.table.now _ _ _ _ s.place c.letter_count.ensures.count c.pair_count.ensures.count c.long_count.ensures.count c.expansion_count.ensures.count (sym (ap (λ t. t.now) i.0)) c.loop-self-test.true in
    next_there c.args.self.now s.table s.old s.place i.0 i.1 i.2 i.3 c.at-piece.result l (c.at-piece.ensures l) (sym c.is_some.ensures ∙ c.if-is_some.true)

pub loop-self-preserved : goal.loop-self-preserved
loop-self-preserved c =
    let s = c.loop-self.self in
    let i = c.loop-self.invariant in
    let l : s.place < places s.table.now = in_places c.args.self.now.table.now s.table.now _ _ _ _ s.place c.letter_count.ensures.count c.pair_count.ensures.count c.long_count.ensures.count c.expansion_count.ensures.count (sym (ap (λ t. t.now) i.0)) c.loop-self-test.true in
    (i.0, i.1, (let u = i.2 in omega arith), none_there c.args.self.now s.table s.old s.place i.0 i.1 i.2 i.3 c.at-piece.result (c.at-piece.ensures l) (sym c.is_some.ensures ∙ c.if-is_some.false))
