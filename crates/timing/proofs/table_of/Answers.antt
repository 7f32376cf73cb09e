use Rattle.std.proofs.Common.{◌≡◌, [], is_none, sym, ap, ◌∙◌}
use Rattle.table.specs.Meaning.{rules_of}
use Rattle.table.specs.Rules.{in_utf8, rules_by}
use Rattle.timing.proofs.table_of.Goals as goal
use Rattle.timing.proofs.table_of.Goals.{then-utf8, else-utf8}

pub returns : goal.returns
returns c =
    let a = c.args in
    let e = c.in-Ok.ensures in
    let rules : rules_of c.if-utf8.result ≡ rules_by a.utf8 a.letters.now [] a.pairs.now a.how_many =
    elim c.if-utf8.branch [
      | then-utf8 w ↦
          ap rules_of w.result-is ∙ (w.in_utf8.ensures.rules ∙ (ap in_utf8 e.1 ∙ ap (λ u. rules_by u a.letters.now [] a.pairs.now a.how_many) (sym w.if-utf8.true)))
      | else-utf8 w ↦ ap rules_of w.result-is ∙ (e.1 ∙ ap (λ u. rules_by u a.letters.now [] a.pairs.now a.how_many) (sym w.if-utf8.false))
    ] in
    (ap is_none e.0, rules)
