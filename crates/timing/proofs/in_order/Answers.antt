use Rattle.std.proofs.Common.{◌≡◌, ◌+◌, ◌&&◌, Bool, true, false, cond, length, ltb, Some, None, List, ℕ, refl, sym, ap, ap₂, ◌∙◌}
use Rattle.std.proofs.lemmas.Option.{cond_some, none-some}
use Rattle.catalogue.specs.Lists.{name_of}
use Rattle.order.specs.Names.{name_before}
use Rattle.table.specs.Meaning.{rules_of}
use Rattle.timing.specs.Totals.{in_order_of}
use Rattle.timing.proofs.in_order.Goals as goal

-- where there is no name of a number
none_named : (b : Bool) (n : List ℕ) → None ≡ cond b (Some n) None → b ≡ false
none_named true n e = absurd (none-some n e)
none_named false n e = refl

none_right : (b : Bool) → false ≡ (b && false)
none_right true = refl
none_right false = refl

pub returns-in_default : goal.returns-in_default
unfolding in_order_of
returns-in_default c =
    let starts = c.args.names.now.starts.now in
    let text = c.args.names.now.text.now in
    let e = none_named (ltb (c.args.one + 1) (length starts)) (name_of text starts c.args.one) c.in_default.ensures in
    sym (ap (λ b. b && (ltb (c.args.other + 1) (length starts) && name_before (rules_of c.args.table.now) (name_of text starts c.args.one) (name_of text starts c.args.other))) e)

pub returns-in_default-name : goal.returns-in_default-name
unfolding in_order_of
returns-in_default-name c =
    let starts = c.args.names.now.starts.now in
    let text = c.args.names.now.text.now in
    let e = none_named (ltb (c.args.other + 1) (length starts)) (name_of text starts c.args.other) c.in_default-name.ensures in
    none_right (ltb (c.args.one + 1) (length starts))
    ∙ sym (ap (λ b. ltb (c.args.one + 1) (length starts) && (b && name_before (rules_of c.args.table.now) (name_of text starts c.args.one) (name_of text starts c.args.other))) e)

pub returns : goal.returns
unfolding in_order_of
returns c =
    let t = rules_of c.args.table.now in
    let starts = c.args.names.now.starts.now in
    let text = c.args.names.now.text.now in
    let a = cond_some (ltb (c.args.one + 1) (length starts)) (name_of text starts c.args.one) c.in-Some.one.now (sym c.in-Some.ensures) in
    let b = cond_some (ltb (c.args.other + 1) (length starts)) (name_of text starts c.args.other) c.in-Some-name.other.now (sym c.in-Some-name.ensures) in
    c.is_lt.ensures ∙ (ap Rattle.std.specs.Ordering.is_lt c.compare.ensures.keys
    ∙ (ap₂ (name_before t) (sym a.1) (sym b.1)
    ∙ sym (ap₂ (λ x y. x && (y && name_before t (name_of text starts c.args.one) (name_of text starts c.args.other))) a.0 b.0)))
