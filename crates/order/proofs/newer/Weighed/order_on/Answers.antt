use Rattle.std.proofs.Common.{⊎_elim, subst, arith}
use Rattle.std.proofs.lemmas.Bool.{cases_lt}
use Rattle.order.specs.Changes.{SamePart}
use Rattle.order.proofs.newer.Weighed.order_on.Goals as goal

pub loop-part-preserved : goal.loop-part-preserved
loop-part-preserved c i l =
    let k = c.loop-part.part in
    let here : SamePart c.args.self.now k c.args.other.now c.args.level = c.part_on.ensures.0 c.if-not-part_on.false in
    ⊎_elim (λ h. c.loop-part.invariant i h) (λ h. subst (λ j. SamePart c.args.self.now j c.args.other.now c.args.level) {x = k} {y = i} (omega (arith, l, h)) here) (cases_lt i k)
