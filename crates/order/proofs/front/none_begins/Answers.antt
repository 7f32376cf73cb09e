use Rattle.std.proofs.Common.{◌-◌, ◌∷◌, ◌++◌, [], length, take, Some, subst, sym, refl, ap, ◌∙◌, arith}
use Rattle.std.proofs.lemmas.List.{append-nil, append_assoc}
use Rattle.keys.specs.Letters.{letters_in}
use Rattle.keys.proofs.Lettering.{no_letters}
use Rattle.order.specs.Fronts.{EndsWith}
use Rattle.order.proofs.Fronts.{all_among, among_last, is_nil, none_yet, one_more}
use Rattle.table.specs.Meaning.{rules_of}
use Rattle.order.proofs.front.none_begins.Goals as goal

pub loop-init : goal.loop-init
loop-init c = ([], sym (append-nil _), none_yet (rules_of c.args.table.now), refl)

pub returns-then-is_empty : goal.returns-then-is_empty
returns-then-is_empty c x f a s e l =
    let t = rules_of c.args.table.now in
    let i = c.loop.invariant in
    let z = ap (letters_in t.utf8) (is_nil c.loop.rest.now (sym c.is_empty.ensures ∙ c.if-is_empty.true)) ∙ no_letters t.utf8 in
    all_among t i.0 i.2 f a s (sym (ap (λ m. m ++ i.0) z) ∙ (sym i.1 ∙ e))

pub loop-preserved : goal.loop-preserved
loop-preserved c =
    let t = rules_of c.args.table.now in
    let i = c.loop.invariant in
    let a = c.in-Some.letter in
    let n = c.loop.rest.now in
    let s = subst (λ u. EndsWith u n (Some (a, c.in-Some.length))) c.utf8-2.ensures c.in-Some.ensures in (
      a ∷ i.0,
      i.1 ∙ (ap (λ m. m ++ i.0) s.2 ∙ append_assoc (letters_in t.utf8 (take (length n - c.in-Some.length) n)) (a ∷ []) i.0),
      one_more t a i.0 (c.may_begin.ensures.none c.if-not-may_begin.true) i.2,
      (let m = i.3 in omega arith),
    )

pub returns : goal.returns
returns c x f a s e l =
    let t = rules_of c.args.table.now in
    let i = c.loop.invariant in
    let n = c.loop-test.false in
    among_last t (letters_in t.utf8 c.loop.rest.now) i.0 i.2 f a s (sym i.1 ∙ e) (let m = i.3 in omega arith)
