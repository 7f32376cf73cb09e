use Rattle.std.proofs.Common.{◌≡◌, true, sym, subst}
use Rattle.table.specs.Meaning.{rules_of}
use Rattle.order.specs.Changes.{Decided}
use Rattle.order.specs.Newer.{is_piece}
use Rattle.order.specs.Pieces.{old_in, run_in}
use Rattle.order.proofs.Deciding.{Counted, Placed, StandsTo, all_counted, all_kept, all_pieces, counted, err_is, in_newer_only, in_older_only, met, none_joined, old_too, order_changed, piece_of_older, placed, read_alike, read_otherwise, runs_kept, stands, walked_all, walked_more, zero_changed}
use Rattle.order.proofs.newer.keeps_order.Goals as goal

pub returns-then-utf8 : goal.returns-then-utf8
returns-then-utf8 c =
    let n = read_otherwise _ _ _ _ c.utf8-2.ensures c.utf8-2-2.ensures c.if-utf8.true in
    (n, tt, λ k. n k.reads)

pub returns-in_err-new : goal.returns-in_err-new
returns-in_err-new c =
    let o = met c.args.newer.now c.args.old.now (λ q. is_piece (rules_of c.args.older.now) q ≡ true) c.loop-piece.piece-iterator c.in-Some.piece _ c.in-Some.ensures.steps c.loop-piece.invariant.2 in
    let d = in_newer_only c.args.old.now (rules_of c.args.older.now) (rules_of c.args.newer.now) (read_alike _ _ _ _ c.utf8-2.ensures c.utf8-2-2.ensures c.if-utf8.false) c.in-Some.piece c.in_err-new.field-0.0 o c.in_err-new.ensures in
    subst (Decided (old_in c.args.old.now) (rules_of c.args.older.now) (rules_of c.args.newer.now)) (sym (err_is _ _ c.from_residual.ensures.1)) d

pub returns-in_err-new-2 : goal.returns-in_err-new-2
returns-in_err-new-2 c =
    let o = met c.args.older.now c.args.old.now (Counted c.args.old.now (rules_of c.args.older.now) (rules_of c.args.newer.now)) c.loop-piece-2.piece-iterator c.in-Some-piece.piece _ c.in-Some-piece.ensures.steps c.loop-piece-2.invariant.2 in
    let d = in_older_only c.args.old.now (rules_of c.args.older.now) (rules_of c.args.newer.now) (read_alike _ _ _ _ c.utf8-2.ensures c.utf8-2-2.ensures c.if-utf8.false) c.in-Some-piece.piece c.in_err-new-2.field-0.0 o c.in_err-new-2.ensures in
    subst (Decided (old_in c.args.old.now) (rules_of c.args.older.now) (rules_of c.args.newer.now)) (sym (err_is _ _ c.from_residual-in_err-new-2.ensures.1)) d

pub returns-in_err-same_parts : goal.returns-in_err-same_parts
returns-in_err-same_parts c =
    let o = met c.args.older.now c.args.old.now (Counted c.args.old.now (rules_of c.args.older.now) (rules_of c.args.newer.now)) c.loop-piece-2.piece-iterator c.in-Some-piece.piece _ c.in-Some-piece.ensures.steps c.loop-piece-2.invariant.2 in
    let j = none_joined c.args.old.now c.args.older.now c.args.newer.now (all_pieces c.args.old.now c.args.older.now c.args.newer.now (walked_all c.args.newer.now c.args.old.now (λ q. is_piece (rules_of c.args.older.now) q ≡ true) c.loop-piece.piece-iterator c.in-None.ensures.steps c.loop-piece.invariant.2)) in
    let d = zero_changed c.args.old.now (rules_of c.args.older.now) (rules_of c.args.newer.now) (read_alike _ _ _ _ c.utf8-2.ensures c.utf8-2-2.ensures c.if-utf8.false) c.in-Some-piece.piece c.in_ok-new-2.field-0 c.in_err-same_parts.field-0.0 j o c.in_ok-new-2.ensures c.in_err-same_parts.ensures in
    subst (Decided (old_in c.args.old.now) (rules_of c.args.older.now) (rules_of c.args.newer.now)) (sym (err_is _ _ c.from_residual-in_err-same_parts.ensures.1)) d

pub returns-in_err-new-3 : goal.returns-in_err-new-3
returns-in_err-new-3 c =
    let o = met c.args.newer.now c.args.old.now (Counted c.args.old.now (rules_of c.args.older.now) (rules_of c.args.newer.now)) c.loop-piece-3.piece-iterator c.in-Some-piece-2.piece _ c.in-Some-piece-2.ensures.steps c.loop-piece-3.invariant.2 in
    let d = in_newer_only c.args.old.now (rules_of c.args.older.now) (rules_of c.args.newer.now) (read_alike _ _ _ _ c.utf8-2.ensures c.utf8-2-2.ensures c.if-utf8.false) c.in-Some-piece-2.piece c.in_err-new-3.field-0.0 o c.in_err-new-3.ensures in
    let e = err_is _ _ c.from_residual-in_err-new-3.ensures.1 in
    subst (Decided (old_in c.args.old.now) (rules_of c.args.older.now) (rules_of c.args.newer.now)) (sym e) d

pub returns-in_err-same_parts-2 : goal.returns-in_err-same_parts-2
returns-in_err-same_parts-2 c =
    let n = met c.args.newer.now c.args.old.now (Counted c.args.old.now (rules_of c.args.older.now) (rules_of c.args.newer.now)) c.loop-piece-3.piece-iterator c.in-Some-piece-2.piece _ c.in-Some-piece-2.ensures.steps c.loop-piece-3.invariant.2 in
    let a = all_pieces c.args.old.now c.args.older.now c.args.newer.now (walked_all c.args.newer.now c.args.old.now (λ q. is_piece (rules_of c.args.older.now) q ≡ true) c.loop-piece.piece-iterator c.in-None.ensures.steps c.loop-piece.invariant.2) in
    let j = none_joined c.args.old.now c.args.older.now c.args.newer.now a in
    let o = old_too c.args.old.now (rules_of c.args.older.now) (rules_of c.args.newer.now) (run_in c.in-Some-piece-2.piece) n (a (run_in c.in-Some-piece-2.piece) n) in
    let d = zero_changed c.args.old.now (rules_of c.args.older.now) (rules_of c.args.newer.now) (read_alike _ _ _ _ c.utf8-2.ensures c.utf8-2-2.ensures c.if-utf8.false) c.in-Some-piece-2.piece c.in_ok-new-3.field-0 c.in_err-same_parts-2.field-0.0 j o c.in_ok-new-3.ensures c.in_err-same_parts-2.ensures in
    let e = err_is _ _ c.from_residual-in_err-same_parts-2.ensures.1 in
    subst (Decided (old_in c.args.old.now) (rules_of c.args.older.now) (rules_of c.args.newer.now)) (sym e) d

pub returns-in_err-weighed : goal.returns-in_err-weighed
returns-in_err-weighed c =
    let o = met c.args.older.now c.args.old.now (Placed c.args.old.now (rules_of c.args.older.now) (rules_of c.args.newer.now)) c.loop-piece-4.piece-iterator c.in-Some-piece-3.piece _ c.in-Some-piece-3.ensures.steps c.loop-piece-4.invariant.2 in
    let d = in_older_only c.args.old.now (rules_of c.args.older.now) (rules_of c.args.newer.now) (read_alike _ _ _ _ c.utf8-2.ensures c.utf8-2-2.ensures c.if-utf8.false) c.in-Some-piece-3.piece c.in_err-weighed.field-0.0 o c.in_err-weighed.ensures in
    subst (Decided (old_in c.args.old.now) (rules_of c.args.older.now) (rules_of c.args.newer.now)) (sym (err_is _ _ c.from_residual-in_err-weighed.ensures.1)) d

pub returns-in_err-new-4 : goal.returns-in_err-new-4
returns-in_err-new-4 c =
    let o = met c.args.older.now c.args.old.now (StandsTo c.args.old.now (rules_of c.args.older.now) (rules_of c.args.newer.now) c.in_ok-weighed.weighed) c.loop-other.other-iterator c.in-Some-other.other _ c.in-Some-other.ensures.steps c.loop-other.invariant.2 in
    let d = in_older_only c.args.old.now (rules_of c.args.older.now) (rules_of c.args.newer.now) (read_alike _ _ _ _ c.utf8-2.ensures c.utf8-2-2.ensures c.if-utf8.false) c.in-Some-other.other c.in_err-new-4.field-0.0 o c.in_err-new-4.ensures in
    let e = err_is _ _ c.from_residual-in_err-new-4.ensures.1 in
    subst (Decided (old_in c.args.old.now) (rules_of c.args.older.now) (rules_of c.args.newer.now)) (sym e) d

pub returns-in_err-same_order : goal.returns-in_err-same_order
returns-in_err-same_order c =
    let e = err_is _ _ c.from_residual-in_err-same_order.ensures.1 in
    let o = met c.args.older.now c.args.old.now (Placed c.args.old.now (rules_of c.args.older.now) (rules_of c.args.newer.now)) c.loop-piece-4.piece-iterator c.in-Some-piece-3.piece _ c.in-Some-piece-3.ensures.steps c.loop-piece-4.invariant.2 in
    let r = met c.args.older.now c.args.old.now (StandsTo c.args.old.now (rules_of c.args.older.now) (rules_of c.args.newer.now) c.in_ok-weighed.weighed) c.loop-other.other-iterator c.in-Some-other.other _ c.in-Some-other.ensures.steps c.loop-other.invariant.2 in
    let a = all_pieces c.args.old.now c.args.older.now c.args.newer.now (walked_all c.args.newer.now c.args.old.now (λ q. is_piece (rules_of c.args.older.now) q ≡ true) c.loop-piece.piece-iterator c.in-None.ensures.steps c.loop-piece.invariant.2) in
    let b = all_counted c.args.old.now c.args.older.now c.args.newer.now (walked_all c.args.older.now c.args.old.now (Counted c.args.old.now (rules_of c.args.older.now) (rules_of c.args.newer.now)) c.loop-piece-2.piece-iterator c.in-None-piece.ensures.steps c.loop-piece-2.invariant.2) (walked_all c.args.newer.now c.args.old.now (Counted c.args.old.now (rules_of c.args.older.now) (rules_of c.args.newer.now)) c.loop-piece-3.piece-iterator c.in-None-piece-2.ensures.steps c.loop-piece-3.invariant.2) in
    let d = order_changed c.args.old.now (rules_of c.args.older.now) (rules_of c.args.newer.now) (read_alike _ _ _ _ c.utf8-2.ensures c.utf8-2-2.ensures c.if-utf8.false) c.in-Some-piece-3.piece c.in-Some-other.other c.in_ok-weighed.weighed c.in_ok-new-4.field-0 c.in_err-same_order.field-0.0
    (runs_kept c.args.old.now c.args.older.now c.args.newer.now a b) b o r c.in_ok-weighed.ensures c.in_ok-new-4.ensures c.in_err-same_order.ensures in
    subst (Decided (old_in c.args.old.now) (rules_of c.args.older.now) (rules_of c.args.newer.now)) (sym e) d

pub loop-piece-preserved : goal.loop-piece-preserved
loop-piece-preserved c =
    let k = piece_of_older c.args.old.now (rules_of c.args.older.now) (rules_of c.args.newer.now) c.in-Some.piece c.in_ok-new.field-0 c.in_ok-new.ensures in
    (tt, tt, walked_more c.args.newer.now c.args.old.now (λ q. is_piece (rules_of c.args.older.now) q ≡ true) c.loop-piece.piece-iterator c.in-Some.piece _ c.in-Some.ensures.steps c.loop-piece.invariant.2 k)

pub loop-piece-2-preserved : goal.loop-piece-2-preserved
loop-piece-2-preserved c =
    let k = counted c.args.old.now (rules_of c.args.older.now) (rules_of c.args.newer.now) c.in-Some-piece.piece c.in_ok-new-2.field-0 c.in_ok-new-2.ensures c.in_ok-same_parts.ensures in
    (tt, tt, walked_more c.args.older.now c.args.old.now (Counted c.args.old.now (rules_of c.args.older.now) (rules_of c.args.newer.now)) c.loop-piece-2.piece-iterator c.in-Some-piece.piece _ c.in-Some-piece.ensures.steps c.loop-piece-2.invariant.2 k)

pub loop-piece-3-preserved : goal.loop-piece-3-preserved
loop-piece-3-preserved c =
    let k = counted c.args.old.now (rules_of c.args.older.now) (rules_of c.args.newer.now) c.in-Some-piece-2.piece c.in_ok-new-3.field-0 c.in_ok-new-3.ensures c.in_ok-same_parts-2.ensures in
    (tt, tt, walked_more c.args.newer.now c.args.old.now (Counted c.args.old.now (rules_of c.args.older.now) (rules_of c.args.newer.now)) c.loop-piece-3.piece-iterator c.in-Some-piece-2.piece _ c.in-Some-piece-2.ensures.steps c.loop-piece-3.invariant.2 k)

pub loop-piece-4-preserved : goal.loop-piece-4-preserved
loop-piece-4-preserved c =
    let all = walked_all c.args.older.now c.args.old.now (StandsTo c.args.old.now (rules_of c.args.older.now) (rules_of c.args.newer.now) c.in_ok-weighed.weighed) c.loop-other.other-iterator c.in-None-other.ensures.steps c.loop-other.invariant.2 in
    let k = placed c.args.old.now (rules_of c.args.older.now) (rules_of c.args.newer.now) c.in-Some-piece-3.piece c.in_ok-weighed.weighed c.in_ok-weighed.ensures all in
    (tt, tt, walked_more c.args.older.now c.args.old.now (Placed c.args.old.now (rules_of c.args.older.now) (rules_of c.args.newer.now)) c.loop-piece-4.piece-iterator c.in-Some-piece-3.piece _ c.in-Some-piece-3.ensures.steps c.loop-piece-4.invariant.2 k)

pub loop-other-preserved : goal.loop-other-preserved
loop-other-preserved c =
    let k = stands c.args.old.now (rules_of c.args.older.now) (rules_of c.args.newer.now) c.in-Some-other.other c.in_ok-weighed.weighed c.in_ok-new-4.field-0 c.in_ok-new-4.ensures c.in_ok-same_order.ensures in
    (tt, tt, walked_more c.args.older.now c.args.old.now (StandsTo c.args.old.now (rules_of c.args.older.now) (rules_of c.args.newer.now) c.in_ok-weighed.weighed) c.loop-other.other-iterator c.in-Some-other.other _ c.in-Some-other.ensures.steps c.loop-other.invariant.2 k)

pub returns : goal.returns
returns c =
    all_kept c.args.old.now c.args.older.now c.args.newer.now (read_alike _ _ _ _ c.utf8-2.ensures c.utf8-2-2.ensures c.if-utf8.false)
    (all_pieces c.args.old.now c.args.older.now c.args.newer.now (walked_all c.args.newer.now c.args.old.now (λ q. is_piece (rules_of c.args.older.now) q ≡ true) c.loop-piece.piece-iterator c.in-None.ensures.steps c.loop-piece.invariant.2))
    (all_counted c.args.old.now c.args.older.now c.args.newer.now (walked_all c.args.older.now c.args.old.now (Counted c.args.old.now (rules_of c.args.older.now) (rules_of c.args.newer.now)) c.loop-piece-2.piece-iterator c.in-None-piece.ensures.steps c.loop-piece-2.invariant.2) (walked_all c.args.newer.now c.args.old.now (Counted c.args.old.now (rules_of c.args.older.now) (rules_of c.args.newer.now)) c.loop-piece-3.piece-iterator c.in-None-piece-2.ensures.steps c.loop-piece-3.invariant.2))
    (walked_all c.args.older.now c.args.old.now (Placed c.args.old.now (rules_of c.args.older.now) (rules_of c.args.newer.now)) c.loop-piece-4.piece-iterator c.in-None-piece-3.ensures.steps c.loop-piece-4.invariant.2)
