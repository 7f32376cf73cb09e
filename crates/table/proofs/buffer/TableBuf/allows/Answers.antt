use Rattle.std.proofs.Common.{[], ◌∷◌, is_some, sym, ap, ◌∙◌}
use Rattle.table.specs.Buffer.{buffer_rules}
use Rattle.table.specs.Rules.{contraction}
use Rattle.table.proofs.Refusing.{contracted, run_allowed, run_twice}
use Rattle.table.proofs.buffer.TableBuf.allows.Goals as goal

pub returns-then-is_some : goal.returns-then-is_some
returns-then-is_some c =
    let run = c.args.pair.first ∷ (c.args.pair.second ∷ []) in
    let j = sym (contracted (buffer_rules c.args.self.now) run) ∙ (ap (λ t. is_some (contraction t run)) (sym c.table.ensures.rules) ∙ (ap is_some (sym c.pair.ensures) ∙ (sym c.is_some.ensures ∙ c.if-is_some.true))) in
    run_twice _ _ _ _ c.run_count-place.ensures c.if-place-ge-MAX_RUNS.false (sym c.unknown.ensures ∙ c.if-unknown.false) j

pub returns : goal.returns
returns c =
    let run = c.args.pair.first ∷ (c.args.pair.second ∷ []) in
    let j = sym (contracted (buffer_rules c.args.self.now) run) ∙ (ap (λ t. is_some (contraction t run)) (sym c.table.ensures.rules) ∙ (ap is_some (sym c.pair.ensures) ∙ (sym c.is_some.ensures ∙ c.if-is_some.false))) in
    run_allowed _ _ _ _ c.run_count-place.ensures c.if-place-ge-MAX_RUNS.false (sym c.unknown.ensures ∙ c.if-unknown.false) j
