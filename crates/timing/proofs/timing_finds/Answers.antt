use Rattle.std.proofs.Common.{◌≡◌, Bool, ℕ, [], true, false, cond, ◌&&◌, is_none, refl, sym, ap, ◌∙◌}
use Rattle.catalogue.specs.Entry.{is_table}
use Rattle.catalogue.specs.Lists.{lists, names_fault}
use Rattle.catalogue.proofs.Entering.{not_listed}
use Rattle.table.specs.Rules.{rules_by}
use Rattle.timing.specs.Totals.{found_at, numbered, total}
use Rattle.timing.proofs.timing_finds.Goals as goal

pub returns-in_default-check : goal.returns-in_default-check
returns-in_default-check c =
    let a = c.args in
    let r = rules_by a.utf8 a.letters.now [] a.pairs.now a.how_many in
    let e = not_listed c.in-Some.table r a.text.now a.starts.now a.places.now c.in_default-check.field-0 c.in-Some.ensures.1 c.in_default-check.ensures in
    let n = is_none (names_fault a.utf8 a.asks.now a.ask_starts.now) in
    let all = total (found_at (lists r a.text.now a.starts.now a.places.now) a.asks.now a.ask_starts.now) (numbered a.ask_starts.now) in
    sym (ap (λ b. cond ((is_table a.letters.now a.pairs.now a.how_many && b) && n) all 0) e ∙ none_right (is_table a.letters.now a.pairs.now a.how_many) n all)
  where
    none_right : (b n : Bool) (all : ℕ) → cond ((b && false) && n) all 0 ≡ 0
    none_right true n all = refl
    none_right false n all = refl
