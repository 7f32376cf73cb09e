use Rattle.std.proofs.Common.{◌≡◌, ◌+◌, is_some, ap, sym, ◌∙◌}
use Rattle.table.specs.Refusals.{repeated}
use Rattle.table.proofs.Chunks.{behind_chunk, chunk_there, first_in, second_in}
use Rattle.table.proofs.Firsts.{first_is}
use Rattle.table.proofs.pairs.Pairs.chain.Goals as goal

pub returns-then-is_some : goal.returns-then-is_some
returns-then-is_some c =
    let ps = c.args.self.now.numbers.now in
    let i = c.loop-place.invariant in
    let q = c.in-Some.ensures.steps in
    let k = c.loop-place.self.count in
    let e = sym i.3 ∙ q.0.1.0 in
    let l = q.0.1.1 ∙ i.2 in
    let n : c.in-Some.place ≡ k = q.1 ∙ sym i.1 in
    let a = c.loop-place.self.apart in
    let o = c.if-is_some.ensures ∙ ap is_some c.locate.ensures.place in
    let t = rw (i.0, first_in ps k _ _ e l, second_in ps k _ _ e l) at o in
    let f = first_is (repeated ps) k (rw (i.0) at a) (sym t) _ (chunk_there ps k _ _ e l) in
    rw (f, n)

pub loop-place-preserved : goal.loop-place-preserved
loop-place-preserved c =
    let i = c.loop-place.invariant in
    let q = c.in-Some.ensures.steps in
    let n = c.link.ensures.1 in (
      c.link.ensures.0 ∙ i.0,
      n ∙ (ap (λ k. k + 1) i.1 ∙ sym q.2),
      q.0.0 ∙ i.2,
      rw n (behind_chunk c.args.self.now.numbers.now c.loop-place.self.count _ _ (sym i.3 ∙ q.0.1.0) (q.0.1.1 ∙ i.2)),
    )
