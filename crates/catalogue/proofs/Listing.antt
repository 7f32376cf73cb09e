-- What the check of lists finds.
use Rattle.std.proofs.Common.{Option, MatchOption, nat_lt, nat_le, ◌&&◌, [], ◌∷◌, ◌∙◌, ◌≡◌, ℕ, zero, suc, ◌+◌, ◌-◌, ◌<◌, ◌≤◌, Bool, true, false, None, Some, length, slice_index_or, List, refl, sym, ⊎_elim, add-one, arith}
use Rattle.std.proofs.lemmas.Bool.{cases_lt, eq-eqb, ne_eqb, true≢false}
use Rattle.std.proofs.lemmas.Bool.Decides.{nat_tests}
use Rattle.table.proofs.Firsts.{first_is, looked_through, none_at, none_more}
use Rattle.table.specs.Refusals.{first_place}
use Rattle.table.specs.Rules.{Rules}
use Rattle.catalogue.specs.Arranging.{Arranged}
use Rattle.catalogue.specs.Lists.{Lists, falls, first_refused, lists, name_at, name_of, names_fault, no_such_name, out_of_order, places_fault, starts_fault}
use Rattle.catalogue.specs.declared.fault.ListFault.{ListFault}
use Rattle.catalogue.specs.declared.fault.ListFault.TheVariants.{NameRefused}
use Rattle.keys.specs.Refusals.{name_refusal}
use Rattle.keys.specs.declared.fault.NameRefusal.{NameRefusal}
use Rattle.std.specs.Option.{option_map, option_or}
use Rattle.std.proofs.lemmas.Option.{none-some}
use Rattle.order.specs.Names.{name_order}
use Rattle.std.specs.List.{AllWithin, HoldsAt}
use Rattle.std.specs.Ordering.{is_lt}

-- nothing is wrong with the starts: each part of the check finds nothing
pub record Sound (text starts : List ℕ) : Type 0 where
  pub some : 0 < length starts
  pub none_falls : first_place (falls starts) (length starts) ≡ None
  pub ends : slice_index_or starts (length starts - 1) 0 ≡ length text

pub sound_starts : (text starts : List ℕ) → starts_fault text starts ≡ None → Sound text starts
unfolding starts_fault
sound_starts text starts e = record {
  some = grind (arith, nat_tests);
  none_falls = grind (arith, nat_tests);
  ends = grind (arith, nat_tests);
}

pub starts_right : (text starts : List ℕ) → Sound text starts → starts_fault text starts ≡ None
unfolding starts_fault
starts_right text starts s =
    let a = s.some in
    rw (ne_eqb (length starts) 0 (omega arith), s.none_falls, eq-eqb (slice_index_or starts (length starts - 1) 0) (length text) s.ends)

-- and with the names
pub both_none : (o p : Option ListFault) → option_or o p ≡ None → (o ≡ None) × (p ≡ None)
both_none None p e = (refl, e)
both_none (Some x) p e = absurd (none-some x (sym e))

module _ (u : Bool) (text starts : List ℕ) (e : names_fault u text starts ≡ None) where
  pub parts : (starts_fault text starts ≡ None) × (first_refused u text starts (length starts - 1) ≡ None)
  unfolding names_fault
  parts = both_none (starts_fault text starts) (first_refused u text starts (length starts - 1)) e

  pub sound : Sound text starts
  sound = sound_starts text starts parts.0

pub nothing_wrong : (u : Bool) (text starts : List ℕ) → starts_fault text starts ≡ None → first_refused u text starts (length starts - 1) ≡ None → names_fault u text starts ≡ None
unfolding names_fault
nothing_wrong u text starts a b = rw (a, b)

-- the first name that is turned away
module _ (u : Bool) (text starts : List ℕ) where
  pub none_refused : (n : ℕ) → n ≡ 0 → first_refused u text starts n ≡ None
  unfolding first_refused
  none_refused zero e = refl
  none_refused (suc n) e = absurd (omega arith)

  pub not_refused : (k : ℕ) → first_refused u text starts k ≡ None → name_refusal u (name_of text starts k) ≡ None → first_refused u text starts (k + 1) ≡ None
  unfolding first_refused
  not_refused k e f = rw (add-one, e, f)

  pub is_refused : (k : ℕ) (why : NameRefusal) → first_refused u text starts k ≡ None → name_refusal u (name_of text starts k) ≡ Some why → (n : ℕ) → k < n → first_refused u text starts n ≡ Some (NameRefused k why)
  unfolding first_refused
  is_refused k why e f zero l = absurd (omega arith)
  is_refused k why e f (suc n) l =
      ⊎_elim
      (λ m. let ih = is_refused k why e f n m in rw ih)
      (λ m. let q : n ≡ k = omega (arith, l, m) in rw (q, e, f))
      (cases_lt k n)

  pub taken_below : (n : ℕ) → first_refused u text starts n ≡ None → (k : ℕ) → k < n → name_refusal u (name_of text starts k) ≡ None
  unfolding first_refused
  taken_below zero e k l = absurd (omega arith)
  taken_below (suc n) e k l =
      let b = both_none (first_refused u text starts n) (option_map (NameRefused n) (name_refusal u (name_of text starts n))) e in
      ⊎_elim
      (λ m. taken_below n b.0 k m)
      (λ m. let q : k ≡ n = omega (arith, l, m) in rw q (not_mapped (name_refusal u (name_of text starts n)) b.1))
      (cases_lt k n)
    where
      not_mapped : (o : Option NameRefusal) → option_map (NameRefused n) o ≡ None → o ≡ None
      not_mapped None e = refl
      not_mapped (Some x) e = absurd (none-some _ (sym e))

  pub all_taken : (n : ℕ) → ((k : ℕ) → k < n → name_refusal u (name_of text starts k) ≡ None) → first_refused u text starts n ≡ None
  unfolding first_refused
  all_taken zero h = refl
  all_taken (suc n) h = let ih = all_taken n (λ k l. h k (omega arith)) in let e = h n (omega arith) in rw (ih, e)

module _ (text starts : List ℕ) (s : Sound text starts) where
  rise : (i : ℕ) → i + 1 < length starts → slice_index_or starts i 0 ≤ slice_index_or starts (i + 1) 0
  rise i l = let f = none_at (falls starts) (length starts) s.none_falls (i + 1) l in grind (arith, nat_tests)

  -- no start is before an earlier one
  rises_to : (k i : ℕ) → i + k < length starts → slice_index_or starts i 0 ≤ slice_index_or starts (i + k) 0
  rises_to zero i l = grind arith
  rises_to (suc k) i l = let ih = rises_to k i (omega arith) in let s = rise (i + k) (omega arith) in grind (arith, add-one)

  stays : (i : ℕ) → i < length starts → slice_index_or starts i 0 ≤ length text
  stays i l =
      let e = s.ends in
      let r = rises_to (length starts - 1 - i) i (omega arith) in
      let n : i + (length starts - 1 - i) ≡ length starts - 1 = omega arith in
      grind arith

module _ (text starts : List ℕ) (e : starts_fault text starts ≡ None) where
  pub start_rises : (i : ℕ) → i + 1 < length starts → slice_index_or starts i 0 ≤ slice_index_or starts (i + 1) 0
  start_rises = rise text starts (sound_starts text starts e)

  pub start_within : (i : ℕ) → i < length starts → slice_index_or starts i 0 ≤ length text
  start_within = stays text starts (sound_starts text starts e)

  pub one_start : 0 < length starts
  one_start = (sound_starts text starts e).some

module _ (u : Bool) (text starts : List ℕ) (e : names_fault u text starts ≡ None) where
  pub begun : 0 < length starts
  begun = (sound u text starts e).some

  pub rises : (i : ℕ) → i + 1 < length starts → slice_index_or starts i 0 ≤ slice_index_or starts (i + 1) 0
  rises = rise text starts (sound u text starts e)

  pub within : (i : ℕ) → i < length starts → slice_index_or starts i 0 ≤ length text
  within = stays text starts (sound u text starts e)

-- a test that the first place can't pass, since none is in front of it, tried at one place after the other
module _ (p : ℕ → Bool) where
  none_behind : (n : ℕ) → n ≤ 1 → first_place (λ k. nat_lt 0 k && p k) n ≡ None
  unfolding first_place
  none_behind zero l = refl
  none_behind (suc zero) l = refl
  none_behind (suc (suc n)) l = absurd (omega arith)

  more_behind : (k : ℕ) → first_place (λ k. nat_lt 0 k && p k) k ≡ None → p k ≡ false → first_place (λ k. nat_lt 0 k && p k) (k + 1) ≡ None
  more_behind k e f = none_more _ k e (grind (arith, nat_tests))

  is_behind : (k : ℕ) → 1 ≤ k → first_place (λ k. nat_lt 0 k && p k) k ≡ None → p k ≡ true → (n : ℕ) → k < n → first_place (λ k. nat_lt 0 k && p k) n ≡ Some k
  is_behind k m e f = first_is _ k e (grind (arith, nat_tests))

module _ (starts : List ℕ) where
  pub fall_none : (n : ℕ) → n ≤ 1 → first_place (falls starts) n ≡ None
  fall_none = none_behind _

  pub fall_more : (k : ℕ) → first_place (falls starts) k ≡ None → (slice_index_or starts k 0 < slice_index_or starts (k - 1) 0 → ⊥) → first_place (falls starts) (k + 1) ≡ None
  fall_more k e n = more_behind _ k e (grind (arith, nat_tests))

  pub fall_is : (k : ℕ) → 1 ≤ k → first_place (falls starts) k ≡ None → slice_index_or starts k 0 < slice_index_or starts (k - 1) 0 → (n : ℕ) → k < n → first_place (falls starts) n ≡ Some k
  fall_is k p e f = is_behind _ k p e (grind (arith, nat_tests))

module _ (l : Lists) where
  pub turn_none : (n : ℕ) → n ≤ 1 → first_place (out_of_order l) n ≡ None
  turn_none = none_behind _

  pub turn_more : (k : ℕ) → first_place (out_of_order l) k ≡ None →
      is_lt (name_order l.rules (name_at l k) (name_at l (k - 1))) ≡ false → first_place (out_of_order l) (k + 1) ≡ None
  turn_more k e n = more_behind _ k e n

  pub turn_is : (k : ℕ) → 1 ≤ k → first_place (out_of_order l) k ≡ None →
      is_lt (name_order l.rules (name_at l k) (name_at l (k - 1))) ≡ true → (n : ℕ) → k < n → first_place (out_of_order l) n ≡ Some k
  turn_is k p e f = is_behind _ k p e f

-- the first number that is no name's, as looking through them finds it
pub unknown_found : (starts places : List ℕ) (r : Option ℕ) →
    MatchOption r (AllWithin (λ p. nat_le (length starts - 1) p ≡ false) places 0 (length places))
    (λ i. (i < length places) × HoldsAt (λ p. nat_le (length starts - 1) p ≡ true) places i × AllWithin (λ p. nat_le (length starts - 1) p ≡ false) places 0 i) →
    first_place (no_such_name starts places) (length places) ≡ r
unknown_found starts places None h = looked_through (no_such_name starts places) (length places) None (λ k g l. h k 0 g l)
unknown_found starts places (Some i) h = looked_through (no_such_name starts places) (length places) (Some i) (omega arith, h.0, h.1 0, λ k g l. h.2 k 0 g l)

-- where no number is unknown, that at a place is a name's
pub known_at : (starts places : List ℕ) → first_place (no_such_name starts places) (length places) ≡ None → (k : ℕ) → k < length places → slice_index_or places k 0 + 1 < length starts
known_at starts places e k l = let f = none_at (no_such_name starts places) (length places) e k l in grind (arith, nat_tests)

-- with a list of none nothing is wrong
pub none_listed : (l : Lists) → l.places ≡ [] → places_fault l ≡ None
unfolding places_fault first_place
none_listed l e = rw e

-- no names
pub none_sound : (u : Bool) (text starts : List ℕ) → text ≡ [] → starts ≡ 0 ∷ [] → names_fault u text starts ≡ None
unfolding names_fault starts_fault first_refused first_place
none_sound u text starts e f = rw (e, f)

pub same_sound : (u v : Bool) (text starts text' starts' : List ℕ) → names_fault u text starts ≡ None → v ≡ u → text' ≡ text → starts' ≡ starts → names_fault v text' starts' ≡ None
same_sound u v text starts text' starts' s d e f = rw (d, e, f) s

-- the same list of the same names
module _ (t u : Rules) (text starts text' starts' places : List ℕ) (d : u ≡ t) (e : text' ≡ text) (f : starts' ≡ starts) where
  pub same_listed : places_fault (lists t text starts places) ≡ None → places_fault (lists u text' starts' places) ≡ None
  same_listed s = rw (d, e, f) s

  pub same_whole : (b : Bool) → ∥ (b ≡ true → Arranged (lists t text starts places)) ∥₁ → ∥ (b ≡ true → Arranged (lists u text' starts' places)) ∥₁
  same_whole b s = rw (d, e, f) s

-- what is not put in order needs no list of all
pub not_whole : (b : Bool) (P : Type 0) → b ≡ false → ∥ (b ≡ true → P) ∥₁
not_whole b P e = ∣ (λ h. absurd (true≢false (sym h ∙ e))) ∣₁
