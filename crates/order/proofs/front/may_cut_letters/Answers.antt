use Rattle.std.proofs.Common.{◌-◌, [], ◌∷◌, length, take, drop, Some, refl, subst, sym, ap, ◌∙◌}
use Rattle.keys.specs.Letters.{first_in}
use Rattle.order.specs.Fronts.{EndsWith}
use Rattle.table.specs.Meaning.{rules_of}
use Rattle.table.proofs.Lawful.{only_pairs}
use Rattle.order.proofs.Fronts.{apart, at_letters, rest_of}
use Rattle.order.proofs.front.may_cut_letters.Goals as goal

pub returns-then-next-lt65536 : goal.returns-then-next-lt65536
returns-then-next-lt65536 c t =
    let r = rules_of c.args.table.now in
    let n = c.args.name.now in
    let u = c.utf8-utf8.ensures in
    let ends = subst (λ v. EndsWith v (take c.args.place n) (Some (c.in-Some-Some.last, c.in-Some-Some.field-0-1-0))) u c.in-Some-Some.ensures in
    let next = ap (λ v. first_in v (take (length n - c.args.place) (drop c.args.place n))) (sym u) ∙ (sym c.first_in.ensures ∙ c.in-Some-Some.is-1) in
    at_letters r (only_pairs c.args.table.now c.requires.pairs) n c.args.place c.in-Some-Some.last c.in-Some-Some.field-0-1-0 c.in-Some-Some.next c.in-Some-Some.field-0-1-1 (take c.args.place n) _ refl (rest_of n c.args.place) ends next c.if-next-lt65536.true
    (apart r (c.in-Some-Some.last ∷ (c.in-Some-Some.next ∷ [])) _ _ c.pair.ensures c.is_none.ensures t)
