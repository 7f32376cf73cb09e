use Rattle.std.proofs.Common.{rules, ◌≡◌, ℕ, ◌-◌, length, take, ap, ◌∙◌, arith}
use Rattle.std.proofs.Math.Seq.{take-length}
use Rattle.keys.specs.Rows.{key}
use Rattle.table.specs.Meaning.{rules_of}
use Rattle.catalogue.proofs.Arranging.{arranged}
use Rattle.catalogue.proofs.Keys.{keyed_by}
use Rattle.catalogue.specs.Keying.{AreKeyed, KeysLie, numbers_of}
use Rattle.catalogue.specs.Lists.{name_of}
use Rattle.catalogue.proofs.names.Names.arrange.Goals as goal

pub returns : goal.returns
returns c =
    let text = c.args.self.now.text.now in
    let starts = c.args.self.now.starts.now in
    let key_of = (λ (i : ℕ). key (rules_of c.args.table.now) (name_of text starts i)) in
    let k : KeysLie key_of (length starts - 1) c.in_ok-numbers.numbers.items c.in_ok-numbers.bounds.items = search rules in
    let n : length c.in_ok-numbers.bounds.items - 1 ≡ length starts - 1 = (let m = k.count in omega arith) in
    let b : AreKeyed (name_of c.in_ok-numbers.numbers.items c.in_ok-numbers.bounds.items) (length c.in_ok-numbers.bounds.items - 1) c.in_ok-keyed.keyed.items = search rules in
    let a = keyed_by key_of (length starts - 1) _ _ _ k (rw n at b) in
    let e : c.loop-one.places.items ≡ numbers_of c.sort_unstable.new.self.items =
    (let x : c.loop-one.one-index ≡ length c.deref-one-items.result.now = omega arith in
    c.loop-one.invariant ∙ ap numbers_of (ap (λ n. take n c.deref-one-items.result.now) x ∙ take-length c.deref-one-items.result.now ∙ c.deref-one-items.ensures.value)) in
    rw e (arranged (rules_of c.args.table.now) text starts _ _ a c.sort_unstable.ensures.permutation c.sort_unstable.ensures.sorted)
