-- What the check of lists tells, in plain words.
use Rattle.std.proofs.Common.{◌≡◌, ℕ, zero, suc, ◌+◌, ◌-◌, ◌<◌, Bool, false, None, Some, Option, List, [], length, slice_index_or, refl, sym, subst, ◌∙◌, arith}
use Rattle.std.proofs.lemmas.Bool.Decides.{nat_tests}
use Rattle.std.proofs.lemmas.List.{get_or-map, length-map}
use Rattle.order.specs.Names.{name_before}
use Rattle.table.proofs.Firsts.{first_below, first_least, first_passes, none_at, none_below}
use Rattle.table.specs.Refusals.{first_place}
use Rattle.catalogue.proofs.Listing.{all_taken, nothing_wrong, parts, sound, sound_starts, starts_right, taken_below}
use Rattle.catalogue.proofs.Order.{in_order, known}
use Rattle.catalogue.specs.Laws.{AllKnown, AreNames, ExactlyLists, ExactlyNames, FirstOfNames, FirstOfPlaces, IsInOrder, IsName, NamesBelow, NamesWrong, NoneFalls, PlacesWrong}
use Rattle.catalogue.specs.Lists.{Lists, falls, first_refused, name_at, name_of, names_fault, no_such_name, out_of_order, places_fault, starts_fault}
use Rattle.keys.specs.Letters.{letters_in, unread_in}
use Rattle.keys.specs.Refusals.{length_refusal, name_refusal}
use Rattle.keys.specs.declared.fault.NameRefusal.{NameRefusal}
use Rattle.keys.specs.declared.fault.NameRefusal.TheVariants.{NotUtf8}
use Rattle.std.specs.Option.{option_map, option_or}
use Rattle.std.proofs.lemmas.Bool.{le-ltb}
use Rattle.std.proofs.lemmas.Option.{none-some, same_Some}
use Rattle.catalogue.specs.declared.fault.ListFault.{ListFault}
use Rattle.catalogue.specs.declared.fault.ListFault.TheVariants.{NoStart, StartFalls, EndsElsewhere, NameRefused, NoSuchName, OutOfOrder}

-- a name that is not turned away, in plain words
pub taken_is : (u : Bool) (n : List ℕ) → name_refusal u n ≡ None → IsName u n
taken_is u n e = go (unread_in u n) refl e
  where
    go : (r : Option ℕ) → unread_in u n ≡ r → option_or (option_map NotUtf8 r) (length_refusal (length (letters_in u n))) ≡ None → IsName u n
    go None f e = (f, grind (arith, nat_tests))
    go (Some k) f e = absurd (none-some _ (sym e))

is_taken : (u : Bool) (n : List ℕ) → IsName u n → name_refusal u n ≡ None
is_taken u n h = let l = h.1 in let t = le-ltb 1000 (length (letters_in u n)) l in rw (h.0, t)

module _ (u : Bool) (text starts : List ℕ) where
  none_falls : (n : ℕ) → ((k : ℕ) → k < n → falls starts k ≡ false) → NoneFalls starts n
  none_falls n h k l = let f = h (k + 1) l in grind (arith, nat_tests)

  names_below : (n : ℕ) → first_refused u text starts n ≡ None → NamesBelow u text starts n
  names_below n e k l = taken_is u (name_of text starts k) (taken_below u text starts n e k l)

  falls_not : NoneFalls starts (length starts) → (k : ℕ) → k < length starts → falls starts k ≡ false
  falls_not h zero l = refl
  falls_not h (suc k) l =
      let f : ◌≡◌ {A = ℕ} (suc k - 1) k = omega arith in
      let g : ◌≡◌ {A = ℕ} (suc k) (k + 1) = omega arith in
      let r = h k (omega arith) in
      grind (arith, nat_tests)

  pub sound_names : AreNames u text starts → names_fault u text starts ≡ None
  sound_names a = nothing_wrong u text starts
      (starts_right text starts (record { some = a.some; none_falls = none_below (falls starts) (length starts) (falls_not a.none_falls); ends = a.ends }))
      (all_taken u text starts (length starts - 1) (λ k l. is_taken u (name_of text starts k) (a.names k l)))

  pub are_names : names_fault u text starts ≡ None → AreNames u text starts
  are_names e =
      let s = sound u text starts e in record {
        some = s.some;
        none_falls = none_falls (length starts) (none_at (falls starts) (length starts) s.none_falls);
        ends = s.ends;
        names = names_below (length starts - 1) (parts u text starts e).1;
      }

  fall_told : (k : ℕ) → starts_fault text starts ≡ Some (StartFalls k) → first_place (falls starts) (length starts) ≡ Some k
  unfolding starts_fault
  fall_told k e = grind (arith, nat_tests)

  end_told : (k : ℕ) → starts_fault text starts ≡ Some (EndsElsewhere k) →
      (0 < length starts) × (first_place (falls starts) (length starts) ≡ None) × (k ≡ length starts - 1) × (slice_index_or starts k 0 ≡ length text → ⊥)
  unfolding starts_fault
  end_told k e = grind (arith, nat_tests)

  starts_wrong : (why : ListFault) → starts_fault text starts ≡ Some why → NamesWrong u text starts why
  unfolding starts_fault
  starts_wrong NoStart e = grind (arith, nat_tests)
  starts_wrong (StartFalls k) e =
      let f = fall_told k e in
      let l = first_below (falls starts) (length starts) k f in
      let p = first_passes (falls starts) (length starts) k f in
      (grind (arith, nat_tests), l, grind (arith, nat_tests), none_falls k (first_least (falls starts) (length starts) k f))
  starts_wrong (EndsElsewhere k) e =
      let f = end_told k e in
      (omega arith, f.3, none_falls (length starts) (none_at (falls starts) (length starts) f.1))
  starts_wrong (NameRefused i why) e = grind (arith, nat_tests)
  starts_wrong (NoSuchName k) e = grind (arith, nat_tests)
  starts_wrong (OutOfOrder k) e = grind (arith, nat_tests)

  -- the name that is told is the first that is turned away
  abbrev Told : (n : ℕ) → ListFault → Type 0
  Told n why = (i : ℕ) × (r : NameRefusal) × (why ≡ NameRefused i r) × (i < n) × (name_refusal u (name_of text starts i) ≡ Some r) × (first_refused u text starts i ≡ None)

  refused_told : (n : ℕ) (why : ListFault) → first_refused u text starts n ≡ Some why → Told n why
  unfolding first_refused
  refused_told zero why e = absurd (none-some why e)
  refused_told (suc n) why e = go (first_refused u text starts n) refl e (refused_told n why)
    where
      here : (o : Option NameRefusal) → name_refusal u (name_of text starts n) ≡ o → first_refused u text starts n ≡ None → option_map (NameRefused n) o ≡ Some why → Told (suc n) why
      here None f g e = absurd (none-some why e)
      here (Some r) f g e = (n, r, sym (same_Some _ _ e), omega arith, f, g)

      go : (o : Option ListFault) → first_refused u text starts n ≡ o → option_or o (option_map (NameRefused n) (name_refusal u (name_of text starts n))) ≡ Some why
          → (first_refused u text starts n ≡ Some why → Told n why) → Told (suc n) why
      go None f e ih = here (name_refusal u (name_of text starts n)) refl f e
      go (Some x) f e ih = let q = ih (f ∙ e) in (q.0, q.1, q.2, omega (arith, q.3), q.4, q.5)

  names_wrong : (why : ListFault) → names_fault u text starts ≡ Some why → NamesWrong u text starts why
  unfolding names_fault
  names_wrong why e = go (starts_fault text starts) refl e
    where
      go : (o : Option ListFault) → starts_fault text starts ≡ o → option_or o (first_refused u text starts (length starts - 1)) ≡ Some why → NamesWrong u text starts why
      go None f e =
          let q = refused_told (length starts - 1) why e in
          let s = sound_starts text starts f in
          subst (NamesWrong u text starts) (sym q.2)
          (omega (arith, q.3), q.4, names_below q.0 q.5, s.ends, none_falls (length starts) (none_at (falls starts) (length starts) s.none_falls))
      go (Some x) f e = starts_wrong why (f ∙ e)

pub exactly_names : ExactlyNames
exactly_names u text starts = (are_names u text starts, sound_names u text starts)

pub first_of_names : FirstOfNames
first_of_names u text starts why e = names_wrong u text starts why e

module _ (l : Lists) where
  all_known : (n : ℕ) → ((k : ℕ) → k < n → no_such_name l.starts l.places k ≡ false) → AllKnown l n
  all_known n h k b = let f = h k b in grind (arith, nat_tests)

  neighbours : (n : ℕ) → ((k : ℕ) → k < n → out_of_order l k ≡ false) → (j : ℕ) → j + 1 < n → name_before l.rules (name_at l (j + 1)) (name_at l j) ≡ false
  neighbours n h j b = let f = h (j + 1) b in grind (arith, nat_tests)

  is_in_order : places_fault l ≡ None → IsInOrder l
  is_in_order e = record {
    known = known l e;
    order = λ i j m b.
        let n = length-map l.places (name_of l.text l.starts) in
        let p = get_or-map (name_of l.text l.starts) l.places i 0 [] (omega arith) in
        let q = get_or-map (name_of l.text l.starts) l.places j 0 [] (omega arith) in
        rw (p, q) (in_order l e i j (omega arith) (omega arith));
  }

  turned_not : IsInOrder l → (k : ℕ) → k < length l.places → out_of_order l k ≡ false
  turned_not o zero b = refl
  turned_not o (suc k) b =
      let f : ◌≡◌ {A = ℕ} (suc k - 1) k = omega arith in
      let n = length-map l.places (name_of l.text l.starts) in
      let p = get_or-map (name_of l.text l.starts) l.places k 0 [] (omega arith) in
      let q = get_or-map (name_of l.text l.starts) l.places (suc k) 0 [] (omega arith) in
      let h = rw (p, q) at (o.order k (suc k) (omega arith) (omega arith)) in
      grind (arith, nat_tests)

  sound_list : IsInOrder l → places_fault l ≡ None
  unfolding places_fault
  sound_list o = rw (none_below (no_such_name l.starts l.places) (length l.places) (λ k b. let r = o.known k b in grind (arith, nat_tests)), none_below (out_of_order l) (length l.places) (turned_not o)) refl

  unknown_told : (k : ℕ) → places_fault l ≡ Some (NoSuchName k) → first_place (no_such_name l.starts l.places) (length l.places) ≡ Some k
  unfolding places_fault
  unknown_told k e = grind (arith, nat_tests)

  turn_told : (k : ℕ) → places_fault l ≡ Some (OutOfOrder k) →
      (first_place (no_such_name l.starts l.places) (length l.places) ≡ None) × (first_place (out_of_order l) (length l.places) ≡ Some k)
  unfolding places_fault
  turn_told k e = grind (arith, nat_tests)

  places_wrong : (why : ListFault) → places_fault l ≡ Some why → PlacesWrong l why
  unfolding places_fault
  places_wrong NoStart e = grind (arith, nat_tests)
  places_wrong (StartFalls k) e = grind (arith, nat_tests)
  places_wrong (NameRefused i why) e = grind (arith, nat_tests)
  places_wrong (EndsElsewhere k) e = grind (arith, nat_tests)
  places_wrong (NoSuchName k) e =
      let f = unknown_told k e in
      let b = first_below (no_such_name l.starts l.places) (length l.places) k f in
      let p = first_passes (no_such_name l.starts l.places) (length l.places) k f in
      (b, grind (arith, nat_tests), all_known k (first_least (no_such_name l.starts l.places) (length l.places) k f))
  places_wrong (OutOfOrder k) e =
      let f = turn_told k e in
      let b = first_below (out_of_order l) (length l.places) k f.1 in
      let p = first_passes (out_of_order l) (length l.places) k f.1 in
      (grind (arith, nat_tests), b, grind (arith, nat_tests), neighbours k (first_least (out_of_order l) (length l.places) k f.1), all_known (length l.places) (none_at (no_such_name l.starts l.places) (length l.places) f.0))

pub exactly_lists : ExactlyLists
exactly_lists l = (is_in_order l, sound_list l)

pub first_of_places : FirstOfPlaces
first_of_places l why e = places_wrong l why e
