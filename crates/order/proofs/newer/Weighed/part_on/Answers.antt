use Rattle.std.proofs.Common.{◌≡◌, rules, subst, ⊎_elim, arith}
use Rattle.std.specs.Ordering.{nat_cmp}
use Rattle.std.proofs.lemmas.Bool.{cases_lt}
use Rattle.order.specs.Changes.{part_at}
use Rattle.order.proofs.newer.Weighed.part_on.Goals as goal

pub loop-behind-preserved : goal.loop-behind-preserved
loop-behind-preserved c j l =
    let k = c.loop-behind.behind in
    let v = c.args.self.now in
    let w = c.args.other.now in
    let here : nat_cmp (part_at c.args.level v.newer c.args.part) (part_at c.args.level w.newer k) ≡ nat_cmp (part_at c.args.level v.older c.args.part) (part_at c.args.level w.older k) = search rules in
    ⊎_elim
    (λ h. c.loop-behind.invariant j h)
    (λ h.
    let e : k ≡ j = omega (arith, l, h) in
    subst (λ i. nat_cmp (part_at c.args.level v.newer c.args.part) (part_at c.args.level w.newer i) ≡ nat_cmp (part_at c.args.level v.older c.args.part) (part_at c.args.level w.older i)) e here)
    (cases_lt j k)
