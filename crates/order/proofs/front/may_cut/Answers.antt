use Rattle.std.proofs.Common.{◌-◌, [], ◌∷◌, slice_index, sym, ap, ◌∙◌, rules, arith}
use Rattle.keys.specs.Letters.{one_byte}
use Rattle.table.specs.Meaning.{rules_of}
use Rattle.table.proofs.Lawful.{only_pairs}
use Rattle.order.proofs.Fronts.{apart, at_bytes, at_end}
use Rattle.order.proofs.front.may_cut.Goals as goal

pub returns-then-place-name : goal.returns-then-place-name
returns-then-place-name c t = at_end (rules_of c.args.table.now) c.args.name.now c.args.place c.if-place-name.true

pub returns-then-one_byte-2 : goal.returns-then-one_byte-2
returns-then-one_byte-2 c e =
    let t = rules_of c.args.table.now in
    let n = c.args.name.now in
    let p = c.args.place in
    let o = c.requires.0 in
    let l = c.requires.1 in
    let d = c.if-place-name.false in
    at_bytes t (only_pairs c.args.table.now (let q = c.long_count.ensures.count in let r = c.if-long_count-gt0.false in omega arith)) n p o (omega arith) (search rules) (search rules)
    (ap (λ u. one_byte u (slice_index n (p - 1))) (sym c.utf8-2.ensures) ∙ (sym c.one_byte.ensures ∙ c.if-one_byte.true))
    (ap (λ u. one_byte u (slice_index n p)) (sym c.utf8-then-one_byte.ensures) ∙ (sym c.one_byte-then-one_byte.ensures ∙ c.if-one_byte-2.true))
    (apart t (slice_index n (p - 1) ∷ (slice_index n p ∷ [])) _ _ c.pair.ensures c.is_none.ensures e)
