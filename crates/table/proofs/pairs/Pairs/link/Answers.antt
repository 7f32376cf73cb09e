use Rattle.std.proofs.Common.{◌≡◌, ◌%◌, ◌∙◌, ap, set, true, length, sym, arith, rules}
use Rattle.table.specs.Refusals.{repeated}
use Rattle.table.proofs.Chaining.{linked_more, marks_more}
use Rattle.table.specs.Numbers.{first_at}
use Rattle.table.proofs.Firsts.{none_more}
use Rattle.table.proofs.pairs.Pairs.link.Goals as goal

pub invariant_of-self : goal.invariant_of-self
invariant_of-self c =
    let p = c.args.self.now in
    let ps = p.numbers.now in
    let e = c.requires.bucket in
    let b = c.bucket-bucket.ensures in
    let s : length p.heads ≡ 256 = search rules in
    let l : length p.links ≡ 200 = search rules in
    let m = linked_more ps p.count p.heads p.links s (omega arith) (record { begun = p.begun; linked = p.linked }) in
    let n = rw (e, sym b) at m in
    let f = c.requires.first in
    let k = ap (λ ms. set ms (first_at ps p.count % 256) true) p.marked ∙ marks_more ps p.count in
    record {
      within = omega arith;
      few = omega arith;
      apart = none_more (repeated ps) p.count p.apart c.requires.apart;
      marked = rw f at k;
      begun = n.begun;
      linked = n.linked;
    }
