-- The order of names: what the laws of rows say of their keys.
use Rattle.std.proofs.Common.{◌≡◌, ℕ, ◌<◌, ◌≤◌, Bool, true, false, eqb, List, [], ◌⊎◌, inl, inr, length, slice_index_or, refl, ap, ◌∙◌, arith}
use Rattle.std.specs.declared.cmp.Ordering.{Ordering}
use Rattle.std.specs.declared.cmp.Ordering.TheVariants.{Less, Equal, Greater}
use Rattle.std.specs.Ordering.{is_lt, ordering_reverse}
use Rattle.std.proofs.lemmas.Bool.{eqb-true, eqb-false}
use Rattle.std.proofs.lemmas.Cmp.{nat_list_cmp_total, tied_itself}
use Rattle.keys.specs.declared.level.Level.TheVariants.{Primary, Secondary}
use Rattle.keys.specs.Pieces.{pieces_behind}
use Rattle.keys.specs.Letters.{letters_in}
use Rattle.keys.specs.Rows.{key, row, row_of, rows, weighed, without_zeros}
use Rattle.keys.proofs.Bounding.{row_free}
use Rattle.table.specs.Rules.{Rules}
use Rattle.order.specs.Rows.{FreeButLast, before, row_order}
use Rattle.order.specs.Names.{name_before}
use Rattle.order.specs.Laws.{AnOrder, InOrder, Levels, ReadBack, StandingsAgree, Together, ValleyOrder}
use Rattle.order.proofs.Rows.{after_says, alike_are_same, between, joined_by_levels, joined_reads_back}

free : (t : Rules) (n : List ℕ) → FreeButLast (rows t n)
free t n = (row_free Primary t n, (row_free Secondary t n, tt))

pub levels : Levels
unfolding key
levels t a b = joined_by_levels (rows t a) (rows t b) refl (free t a) (free t b)

pub read_back : ReadBack
unfolding key
read_back t u a b e = joined_reads_back (rows t a) (rows u b) refl (free t a) (free u b) e

less : (o : Ordering) → is_lt o ≡ true → o ≡ Less
less Less e = refl
less Equal e = grind arith
less Greater e = grind arith

one_of : (x y : List ℕ) (o : Ordering) → row_order x y ≡ o → (before x y ≡ true) ⊎ ((before y x ≡ true) ⊎ (x ≡ y))
one_of x y Less e = inl (ap is_lt e)
one_of x y Equal e = inr (inr (alike_are_same x y e))
one_of x y Greater e = inr (inl (ap is_lt (nat_list_cmp_total.antisymm y x ∙ ap ordering_reverse e)))

pub an_order : AnOrder
an_order = record {
  one_of_three = λ t a b. one_of (key t a) (key t b) _ refl;
  through = λ t a b c p q. ap is_lt (nat_list_cmp_total.trans (key t a) (key t b) (key t c) (less _ p) (less _ q));
  not_back = λ t a b p. ap is_lt (nat_list_cmp_total.antisymm (key t b) (key t a) ∙ ap ordering_reverse (less _ p));
}

-- of names in order the first rows are
pub first_rows : (t : Rules) (a b : List ℕ) → name_before t a b ≡ false → before (row Primary t a) (row Primary t b) ≡ false
first_rows t a b h = let e = levels t a b in grind arith

pub standings_agree : StandingsAgree
standings_agree t a asked = (
  λ h. let e = levels t a asked in grind arith,
  λ h. let e = levels t asked a in let f = after_says (row Primary t a) (row Primary t asked) h in grind arith,
)

pub valley_order : ValleyOrder
unfolding pieces_behind weighed without_zeros letters_in row_of row key
valley_order = (refl, refl, refl, refl, refl, refl)

apart : (t : Rules) (ns : List (List ℕ)) → InOrder t ns → (i j : ℕ) → i ≤ j → j < length ns
    → before (row Primary t (slice_index_or ns j [])) (row Primary t (slice_index_or ns i [])) ≡ false
apart t ns o i j ij jl = first_rows t (slice_index_or ns j []) (slice_index_or ns i []) (go (eqb i j) refl)
  where
    go : (b : Bool) → eqb i j ≡ b → name_before t (slice_index_or ns j []) (slice_index_or ns i []) ≡ false
    go true e = ap (λ k. name_before t (slice_index_or ns j []) (slice_index_or ns k [])) (eqb-true i j e) ∙ ap is_lt (tied_itself nat_list_cmp_total (key t (slice_index_or ns j [])))
    go false e = o i j (let n = eqb-false i j e in omega arith) jl

pub together : Together
together t ns asked i j k o ij jk kl =
    between asked (row Primary t (slice_index_or ns i [])) (row Primary t (slice_index_or ns j [])) (row Primary t (slice_index_or ns k []))
    (apart t ns o i j ij (omega arith)) (apart t ns o j k jk kl)
