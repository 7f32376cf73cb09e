use Rattle.std.proofs.Common.{length, refl, sym, ◌∙◌, arith}
use Rattle.pieces.specs.Ranks.{climbs, rises}
use Rattle.pieces.specs.Runs.{none_twice}
use Rattle.table.proofs.Entries.{no_expansions}
use Rattle.table.proofs.Longs.{no_longs}
use Rattle.table.proofs.Refusing.{by_shape, fifth, has_foreign, no_refusal, refused, shape_sound, taken, turned_away, twice_left}
use Rattle.table.proofs.view.Table.check.Goals as goal

pub returns-in_err-check_shape : goal.returns-in_err-check_shape
returns-in_err-check_shape c =
    let o = turned_away _ _ (sym c.in_err-check_shape.was ∙ c.check_shape.ensures) in
    refused _ _ _ _ _ c.from_residual.ensures.1 (by_shape _ _ _ _ o)

pub returns-in-Some : goal.returns-in-Some
returns-in-Some c =
    let s = shape_sound _ _ _ (taken _ (sym c.in_ok-check_shape.was ∙ c.check_shape.ensures)) in
    let n = fifth _ _ s.1 in
    let f = sym c.first_foreign.ensures ∙ c.in-Some.is in
    has_foreign c.args.letters.now c.args.pairs.now c.args.how_many s.0 s.1 s.2 _ (rw n at f)

pub returns-in_err-chain : goal.returns-in_err-chain
returns-in_err-chain c =
    let o = taken _ (sym c.in_ok-check_shape.was ∙ c.check_shape.ensures) in
    let n = fifth (length c.args.pairs.now) c.args.how_many (shape_sound _ _ _ o).1 in
    let f = sym c.first_foreign.ensures ∙ c.in_default.is in
    let b = c.new-pairs.ensures.0 in
    let t = c.in_err-chain.ensures in
    refused _ _ _ _ _ c.from_residual-in_err-chain.ensures.1 (twice_left _ _ _ o (rw n at f) ∙ rw (b, n) at t)

pub invariant_of-result-clause-known : goal.invariant_of-result-clause-known
invariant_of-result-clause-known c =
    let f = sym c.first_foreign.ensures ∙ c.in_default.is in
    let b = c.new-pairs.ensures.0 in
    let q = c.in_ok-chain.ensures in
    let p = rw b at q in
    rw (p.0, p.1) f

pub invariant_of-result-clause-ascends : goal.invariant_of-result-clause-ascends
unfolding climbs
invariant_of-result-clause-ascends c = refl

pub invariant_of-result-clause-few : goal.invariant_of-result-clause-few
invariant_of-result-clause-few c = let f = c.chain.new.self.few in omega arith

pub invariant_of-result-clause-rise : goal.invariant_of-result-clause-rise
unfolding rises
invariant_of-result-clause-rise c = refl

pub invariant_of-result-clause-long_apart : goal.invariant_of-result-clause-long_apart
unfolding none_twice
invariant_of-result-clause-long_apart c = refl

pub invariant_of-result-clause-expand : goal.invariant_of-result-clause-expand
unfolding climbs
invariant_of-result-clause-expand c = refl

pub returns : goal.returns
returns c =
    let s = shape_sound _ _ _ (taken _ (sym c.in_ok-check_shape.was ∙ c.check_shape.ensures)) in
    let n = fifth _ _ s.1 in
    let f = sym c.first_foreign.ensures ∙ c.in_default.is in
    let b = c.new-pairs.ensures.0 in
    let q = c.in_ok-chain.ensures in
    let p = rw b at q in
    let a = c.chain.new.self.apart in (
      no_refusal c.args.letters.now c.args.pairs.now c.args.how_many s.0 s.1 s.2 (rw n at f) (rw (p.0, p.1, n) at a),
      no_expansions _ (λ run. refl) ∙ (no_longs _ ∙ rw (p.0, p.1, n)),
      rw (p.0, p.1, n),
      refl,
      refl,
    )
