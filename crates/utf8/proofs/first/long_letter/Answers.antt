use borrow.Author.Tests.{tests}
use Rattle.std.proofs.Common.{rules, arith, sym, ◌∙◌, ap, Some}
use Rattle.utf8.proofs.Letters.{long_alone, long_three, long_two}
use Rattle.utf8.proofs.first.long_letter.Goals as goal
use Rattle.utf8.proofs.first.long_letter.Goals.{in_default-via-then-rest-lt1, in_default-via-in-len1-up+else-two+then-rest-lt2, in_default-via-in-len2-up+else-three}

pub returns-in-len1-up : goal.returns-in-len1-up
returns-in-len1-up c = ap (λ x. Some (x, 2)) c.of_two.ensures ∙ long_two c.args.first c.args.rest.now (omega arith) (sym c.two.ensures ∙ c.if-two.true)

pub returns-in-len2-up : goal.returns-in-len2-up
returns-in-len2-up c = ap (λ x. Some (x, 3)) c.of_three.ensures ∙ long_three c.args.first c.args.rest.now (omega arith) (sym c.three.ensures ∙ c.if-three.true)

pub returns-in_default : goal.returns-in_default
returns-in_default c =
    elim c.in_default.branch [
      | in_default-via-then-rest-lt1 w ↦ long_alone c.args.first c.args.rest.now c.requires (λ k. absurd (search (rules, tests))) (λ k. absurd (search (rules, tests)))
      | in_default-via-in-len1-up+else-two+then-rest-lt2 w ↦ long_alone c.args.first c.args.rest.now c.requires (λ k. sym w.two.ensures ∙ w.if-two.false) (λ k. absurd (search (rules, tests)))
      | in_default-via-in-len2-up+else-three w ↦ long_alone c.args.first c.args.rest.now c.requires (λ k. sym w.two.ensures ∙ w.if-two.false) (λ k. sym w.three.ensures ∙ w.if-three.false)
    ]
