use Rattle.std.proofs.Common.{◌+◌, ◌-◌, ◌/◌, ltb, sym, ap, ◌∙◌, arith}
use Rattle.std.proofs.lemmas.Bool.{le-ltb, lt-ltb, ltb-false, ltb-true}
use Rattle.pieces.specs.Ranks.{below}
use Rattle.pieces.proofs.Ranking.{below_most, is_below}
use Rattle.pieces.proofs.ranks.place_for.Goals as goal

pub loop-low-init : goal.loop-low-init
loop-low-init g c = let m = below_most g.T.Ranked.rank c.args.items.now c.args.rank in (omega arith, omega arith, λ r. (omega arith, omega arith))

pub loop-low-preserved-then-rank : goal.loop-low-preserved-then-rank
loop-low-preserved-then-rank g c =
    let i = c.loop-low.invariant in
    let h = i.1 in
    let k = c.loop-low.low + (c.loop-low.high - c.loop-low.low) / 2 in
    let t = c.loop-low-test.true in (
      omega arith,
      h,
      λ r.
          let j = i.2 r in
          let b = ltb-true k (below g.T.Ranked.rank c.args.items.now c.args.rank) (sym (is_below g.T.Ranked.rank c.args.items.now c.args.rank k c.index-items-middle.result r (omega arith)) ∙ (ap (λ y. ltb (g.T.Ranked.rank y) c.args.rank) (sym c.index-items-middle.is) ∙ (ap (λ r. ltb r c.args.rank) (sym c.rank.ensures) ∙ lt-ltb _ c.args.rank c.if-rank.true))) in
          (omega arith, j.1),
    )

pub loop-low-preserved : goal.loop-low-preserved
loop-low-preserved g c =
    let i = c.loop-low.invariant in
    let h = i.1 in
    let k = c.loop-low.low + (c.loop-low.high - c.loop-low.low) / 2 in
    let t = c.loop-low-test.true in (
      omega arith,
      omega arith,
      λ r.
          let j = i.2 r in
          let b = ltb-false k (below g.T.Ranked.rank c.args.items.now c.args.rank) (sym (is_below g.T.Ranked.rank c.args.items.now c.args.rank k c.index-items-middle.result r (omega arith)) ∙ (ap (λ y. ltb (g.T.Ranked.rank y) c.args.rank) (sym c.index-items-middle.is) ∙ (ap (λ r. ltb r c.args.rank) (sym c.rank.ensures) ∙ le-ltb _ c.args.rank c.if-rank.false))) in
          (j.0, omega arith),
    )
