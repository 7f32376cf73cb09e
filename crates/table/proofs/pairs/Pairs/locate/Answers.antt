use Rattle.std.proofs.Common.{◌≡◌, None, length, refl, sym, ◌∙◌, arith, rules}
use Rattle.std.proofs.lemmas.List.{get_or-map}
use Rattle.table.specs.Chain.{bucket, counted_place}
use Rattle.table.proofs.Chaining.{below, bucket_below, follows_head, follows_link, found, head_at, link_lower, none_begun, nowhere}
use Rattle.table.proofs.pairs.Pairs.locate.Goals as goal

pub returns-then-not-may_begin : goal.returns-then-not-may_begin
returns-then-not-may_begin c =
    let p = c.args.self.now in
    record { place = none_begun p.numbers.now p.count c.args.first c.args.second (sym c.may_begin.ensures ∙ c.if-not-may_begin.true); bound = tt }

pub loop-at-init : goal.loop-at-init
loop-at-init c =
    let p = c.args.self.now in
    let e = p.begun in
    let b = c.bucket.ensures in
    let t = bucket_below c.args.first c.args.second in
    let h = head_at p.numbers.now p.count (bucket c.args.first c.args.second) t in
    let s : length p.heads ≡ 256 = search rules in
    let m = get_or-map counted_place p.heads (bucket c.args.first c.args.second) 0 None (omega arith) in
    let o = c.place_of-at.ensures in
    rw (o, b, sym m, e, h) (follows_head p.numbers.now (bucket c.args.first c.args.second) p.count c.args.first c.args.second refl)

pub is_at-requires : goal.is_at-requires
is_at-requires c =
    let p = c.args.self.now in
    let e = c.in-Some.is in
    let i = c.loop-at.invariant in
    below p.numbers.now (bucket c.args.first c.args.second) p.count c.args.first c.args.second c.in-Some.place (rw e at i)

pub returns-then-is_at : goal.returns-then-is_at
returns-then-is_at c =
    let p = c.args.self.now in
    let e = c.in-Some.is in
    let i = c.loop-at.invariant in
    record {
      place = found p.numbers.now (bucket c.args.first c.args.second) p.count c.args.first c.args.second c.in-Some.place (rw e at i) (sym c.is_at.ensures ∙ c.if-is_at.true);
      bound = below p.numbers.now (bucket c.args.first c.args.second) p.count c.args.first c.args.second c.in-Some.place (rw e at i);
    }

pub bounds-self-place : goal.bounds-self-place
bounds-self-place c =
    let p = c.args.self.now in
    let e = c.in-Some.is in
    let i = c.loop-at.invariant in
    let b = below p.numbers.now (bucket c.args.first c.args.second) p.count c.args.first c.args.second c.in-Some.place (rw e at i) in
    let w = p.few in
    omega arith

pub loop-at-smaller : goal.loop-at-smaller
loop-at-smaller c =
    let p = c.args.self.now in
    let e = c.in-Some.is in
    let i = c.loop-at.invariant in
    let b = below p.numbers.now (bucket c.args.first c.args.second) p.count c.args.first c.args.second c.in-Some.place (rw e at i) in
    let l = c.place_of-at-in-Some.ensures ∙ p.linked c.in-Some.place b in
    rw (e, l) (link_lower p.numbers.now (bucket c.args.first c.args.second) p.count c.args.first c.args.second c.in-Some.place (rw e at i))

pub loop-at-preserved : goal.loop-at-preserved
loop-at-preserved c =
    let p = c.args.self.now in
    let e = c.in-Some.is in
    let i = c.loop-at.invariant in
    let b = below p.numbers.now (bucket c.args.first c.args.second) p.count c.args.first c.args.second c.in-Some.place (rw e at i) in
    let l = c.place_of-at-in-Some.ensures ∙ p.linked c.in-Some.place b in
    rw l (follows_link p.numbers.now (bucket c.args.first c.args.second) p.count c.args.first c.args.second c.in-Some.place (rw e at i) refl (sym c.is_at.ensures ∙ c.if-is_at.false))

pub returns : goal.returns
returns c =
    let p = c.args.self.now in
    let e = c.in_default.is in
    let i = c.loop-at.invariant in
    record { place = nowhere p.numbers.now (bucket c.args.first c.args.second) p.count c.args.first c.args.second (rw e at i); bound = tt }
