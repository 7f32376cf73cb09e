use Rattle.std.proofs.Common.{◌≡◌, ap, ◌∙◌, refl, subst, sym}
use Rattle.std.proofs.lemmas.Iterator.{YieldsList}
use Rattle.std.proofs.lemmas.Iterator.Search.{cmp_from_yields_List}
use Rattle.std.specs.Ordering.{nat_cmp}
use Rattle.keys.specs.Reading.{Rowed, row_left}
use Rattle.order.specs.Rows.{row_order}
use Rattle.order.proofs.Comparing.{row_given}
use Rattle.order.proofs.collate.compare_rows.Goals as goal

pub returns : goal.returns
returns c =
    let other = c.new-2.result in
    cmp_from_yields_List (λ s r. r ≡ s) other nat_cmp c.cmp.result c.cmp.ensures.ran (row_given c.new.result) (λ it b. subst (λ s. YieldsList Rowed (λ x. x) s (row_left other)) (sym b) (row_given other)) (λ x y. refl)
    ∙ ap (λ xs. row_order xs (row_left other)) c.new.ensures.row ∙ ap (row_order _) c.new-2.ensures.row
