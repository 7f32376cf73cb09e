use Rattle.std.proofs.Common.{◌≡◌, Bool, true, false, ◌&&◌, refl, ap, ◌∙◌}
use mathlib.Core.Path.{subst⁻¹}
use Rattle.catalogue.specs.Entry.{all_right, is_table}
use Rattle.catalogue.specs.Finding.{FoundAt, may_ask}
use Rattle.catalogue.specs.Lists.{lists}
use Rattle.catalogue.proofs.Entering.{not_listed}
use Rattle.table.specs.Rules.{rules_in}
use Rattle.capi.proofs.range_in.Goals as goal

pub returns-in_default-check : goal.returns-in_default-check
returns-in_default-check c =
    let a = c.args in
    let r = rules_in a.letters.now a.pairs.now a.how_many in
    let l = lists r a.text.now a.starts.now a.places.now in
    let e = not_listed c.in-Ok.table r a.text.now a.starts.now a.places.now c.in_default-check.field-0 c.in-Ok.ensures.1 c.in_default-check.ensures in
    let f : all_right a.letters.now a.pairs.now a.how_many a.text.now a.starts.now a.places.now a.ask.now ≡ false =
    ap (λ b. is_table a.letters.now a.pairs.now a.how_many && (b && may_ask l a.ask.now)) e ∙ and_false (is_table a.letters.now a.pairs.now a.how_many) in
    subst⁻¹ (λ b. FoundAt b l a.ask.now 0 0) f (refl, refl)
  where
    and_false : (b : Bool) → (b && false) ≡ false
    and_false true = refl
    and_false false = refl
