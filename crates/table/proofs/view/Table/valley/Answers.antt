use Rattle.std.proofs.Common.{◌≡◌, None, ap₂, ◌∙◌, rules}
use Rattle.table.specs.Refusals.{refusal_of}
use Rattle.table.specs.Rules.{rules_in}
use Rattle.table.proofs.Valleys.{numbers, valley_rules, valley_kept}
use Rattle.table.proofs.view.Table.valley.Goals as goal

kept : (c : goal.After-check) → refusal_of c.valley_letters.result.now c.valley_pairs.result.now 1 ≡ None
unfolding numbers
kept c = ap₂ (λ ls ps. refusal_of ls ps 1) c.valley_letters.ensures c.valley_pairs.ensures ∙ valley_kept

pub unwrap-requires : goal.unwrap-requires
unwrap-requires c = let e = kept c in search rules

pub returns-clause-rules : goal.returns-clause-rules
unfolding numbers
returns-clause-rules c =
    let u = c.check.ensures in
    let e = c.unwrap.ensures in
    let h = rw e at u in
    h.1 ∙ (ap₂ (λ ls ps. rules_in ls ps 1) c.valley_letters.ensures c.valley_pairs.ensures ∙ valley_rules)

pub returns-clause-longs : goal.returns-clause-longs
returns-clause-longs c =
    let u = c.check.ensures in
    let e = c.unwrap.ensures in
    let h = rw e at u in
    h.3
