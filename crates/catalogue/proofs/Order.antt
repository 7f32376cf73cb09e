-- What a list in order says of any two of its places.
use Rattle.std.proofs.Common.{◌≡◌, ℕ, ◌+◌, ◌<◌, ◌≤◌, false, None, List, length, slice_index_or, arith}
use Rattle.std.proofs.lemmas.Bool.Decides.{nat_tests}
use Rattle.std.specs.Cmp.{IsTotalOrder}
use Rattle.std.specs.Ordering.{nat_cmp, ordering_then}
use Rattle.std.specs.declared.cmp.Ordering.{Ordering}
use Rattle.std.proofs.lemmas.Cmp.{nat_cmp_total, nat_list_cmp_total, on_total, then_total}
use Rattle.std.proofs.lemmas.List.{get_or_default}
use Rattle.std.proofs.lemmas.List.Sorted.{ranks_by, sorted_far}
use Rattle.keys.specs.Rows.{key, row}
use Rattle.keys.specs.declared.level.Level.TheVariants.{Primary}
use Rattle.order.proofs.Names.{first_rows}
use Rattle.order.proofs.Rows.{standings_rise}
use Rattle.order.specs.Names.{name_before}
use Rattle.order.specs.Rows.{row_order}
use Rattle.table.proofs.Firsts.{none_at}
use Rattle.table.specs.Refusals.{first_place}
use Rattle.catalogue.proofs.Listing.{known_at}
use Rattle.catalogue.specs.Cutting.{along_at}
use Rattle.catalogue.specs.Lists.{Lists, name_at, name_of, no_such_name, out_of_order, places_fault}

module _ (l : Lists) (e : places_fault l ≡ None) where
  none_unknown : first_place (no_such_name l.starts l.places) (length l.places) ≡ None
  unfolding places_fault
  none_unknown = grind arith

  none_turned : first_place (out_of_order l) (length l.places) ≡ None
  unfolding places_fault
  none_turned = grind arith

  pub known : (k : ℕ) → k < length l.places → slice_index_or l.places k 0 + 1 < length l.starts
  known k b = known_at l.starts l.places none_unknown k b

  neighbours : (k d : ℕ) → 0 ≤ k → k + 1 < length l.places → name_before l.rules (name_of l.text l.starts (slice_index_or l.places (k + 1) d)) (name_of l.text l.starts (slice_index_or l.places k d)) ≡ false
  neighbours k d z b = let f = none_at (out_of_order l) (length l.places) none_turned (k + 1) b in
      let p = get_or_default l.places (k + 1) d 0 b in
      let q = get_or_default l.places k d 0 (omega arith) in
      grind (arith, nat_tests)

  pub in_order : (i j : ℕ) → i ≤ j → j < length l.places → name_before l.rules (name_at l j) (name_at l i) ≡ false
  in_order i j m b = sorted_far _ (ranks_by nat_list_cmp_total (λ (i : ℕ). key l.rules (name_of l.text l.starts i))) l.places neighbours i j 0 m b

  pub rising : (ask : List ℕ) (i j : ℕ) → i ≤ j → j < length l.places → along_at l ask i ≤ along_at l ask j
  rising ask i j m b =
      standings_rise (row Primary l.rules ask) (row Primary l.rules (name_at l i)) (row Primary l.rules (name_at l j))
      (first_rows l.rules (name_at l j) (name_at l i) (in_order i j m b))

-- by one row of numbers, and where these are the same by a number
abbrev pub row_then_number : {X : Type 0} → (X → List ℕ) → (X → ℕ) → X → X → Ordering
row_then_number k n x y = ordering_then (row_order (k x) (k y)) (nat_cmp (n x) (n y))

pub row_then_number_total : {X : Type 0} (k : X → List ℕ) (n : X → ℕ) → IsTotalOrder (row_then_number k n)
row_then_number_total k n = then_total (on_total k nat_list_cmp_total) (on_total n nat_cmp_total)
