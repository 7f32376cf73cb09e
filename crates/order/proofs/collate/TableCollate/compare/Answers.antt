use Rattle.std.proofs.Common.{◌∙◌, sym}
use Rattle.table.specs.Meaning.{rules_of}
use Rattle.order.proofs.Fronts.{behind_parts}
use Rattle.order.proofs.Names.{levels}
use Rattle.order.proofs.collate.TableCollate.compare.Goals as goal

pub returns-clause-keys : goal.returns-clause-keys
returns-clause-keys c =
    let t = rules_of c.args.self.now in
    c.compare_levels.ensures ∙ (behind_parts t c.args.a.now c.args.b.now c.shared-n.result c.shared-n.ensures ∙ sym (levels t c.args.a.now c.args.b.now))

pub returns-clause-levels : goal.returns-clause-levels
returns-clause-levels c = c.compare_levels.ensures ∙ behind_parts (rules_of c.args.self.now) c.args.a.now c.args.b.now c.shared-n.result c.shared-n.ensures
