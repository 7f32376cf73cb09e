use Rattle.std.proofs.Common.{◌≡◌, None, ap, sym, length, ltb, ◌∙◌, arith}
use Rattle.table.specs.Meaning.{expansions_of, rules_of}
use Rattle.keys.specs.Refusals.{name_refusal}
use Rattle.keys.specs.Rows.{key}
use Rattle.keys.proofs.Entering.{all_each, key_fits, key_most}
use Rattle.keys.proofs.sort_key.TableSortKeys.sort_key.Goals as goal

pub fill-numbers-requires : goal.fill-numbers-requires
fill-numbers-requires c =
    let t = c.args.self.now in
    let n = c.args.name.now in
    let r : name_refusal (rules_of t).utf8 n ≡ None = ap (λ u. name_refusal u n) (sym c.utf8-2.ensures) ∙ (sym c.of.ensures ∙ c.in_default.is) in
    let m = all_each (ltb 0 (length (expansions_of t))) c.most_each.result (length n) _ _ (length (key (rules_of t) n)) c.most_each.ensures.0 c.saturating_mul.ensures c.saturating_add-most.ensures (key_most t n r) (key_fits t n) in
    let v = c.in_ok-key.ensures.len in
    let d = c.deref_mut.ensures.len in
    omega arith
