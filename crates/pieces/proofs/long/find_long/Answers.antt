use Rattle.std.proofs.Common.{drop, sym, ap, ◌∙◌, arith}
use Rattle.pieces.specs.Ranks.{below}
use Rattle.pieces.specs.Runs.{long_letters, long_among, long_rank, rank_of}
use Rattle.pieces.proofs.Finding.{ends, found_at, found_behind, from_next, from_start, no_long, none_left, passed_at}
use Rattle.pieces.proofs.Ranking.{below_most}
use Rattle.pieces.proofs.long.find_long.Goals as goal

pub loop-place-init : goal.loop-place-init
loop-place-init c = (
  c.place_for-place.ensures.within,
  λ r.
      let es = c.args.longs.now in
      let run = long_letters c.args.run in
      let p = c.place_for-place.ensures.place r ∙ ap (below long_rank es) c.rank-rank.ensures in (
        ap (λ k. long_among (drop k es) run) p ∙ found_behind run es,
        ap (λ k. Rattle.pieces.proofs.Ranking.from long_rank (rank_of run) (drop k es)) p ∙ from_start run es r,
      ),
)

pub returns-then-is : goal.returns-then-is
returns-then-is c r =
    let es = c.args.longs.now in
    let run = long_letters c.args.run in
    let i = c.loop-place.invariant.1 r in
    sym (sym i.0 ∙ found_at run es c.loop-place.place _ c.loop-place-test.true (sym c.is.ensures ∙ c.if-is.true))

pub loop-place-preserved : goal.loop-place-preserved
loop-place-preserved c =
    let es = c.args.longs.now in
    let run = long_letters c.args.run in
    let l = c.loop-place-test.true in (
      omega arith,
      λ r.
          let i = c.loop-place.invariant.1 r in (
            sym (passed_at run es c.loop-place.place _ l (sym c.is.ensures ∙ c.if-is.false)) ∙ i.0,
            from_next run es c.loop-place.place no_long l i.1,
          ),
    )

pub returns-else-rank : goal.returns-else-rank
returns-else-rank c r =
    let es = c.args.longs.now in
    let run = long_letters c.args.run in
    let i = c.loop-place.invariant.1 r in
    sym (sym i.0 ∙ ends run es r c.loop-place.place _ c.loop-place-test.true i.1 (λ e. c.if-rank.false (c.rank.ensures ∙ (e ∙ sym c.rank-rank.ensures))))

pub returns-after-loop-place : goal.returns-after-loop-place
returns-after-loop-place c r =
    let i = c.loop-place.invariant.1 r in
    sym (sym i.0 ∙ none_left (long_letters c.args.run) c.args.longs.now c.loop-place.place c.loop-place-test.false)
