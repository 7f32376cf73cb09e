-- One name more, behind the others.
use Rattle.std.proofs.Common.{◌≡◌, ℕ, zero, suc, ◌+◌, ◌-◌, ◌<◌, ◌≤◌, ⊎_elim, Bool, None, List, [], ◌∷◌, ◌++◌, length, slice_index_or, map, take, drop, refl, subst, sym, ap, ap₂, ◌∙◌, arith}
use Rattle.std.proofs.lemmas.Bool.{cases_lt}
use Rattle.std.proofs.lemmas.List.{get_or_append_left, length-append, drop-append-le, take-append-le, length-drop, take_all}
use Rattle.std.proofs.lemmas.List.FromFn.{map-range_with_len_more}
use Rattle.std.proofs.Math.Seq.{get_or-append_seam, drop-append_seam}
use Rattle.std.specs.List.{range_with_len}
use Rattle.catalogue.proofs.Listing.{within}
use Rattle.catalogue.proofs.Plain.{are_names, sound_names, taken_is}
use Rattle.keys.specs.Refusals.{name_refusal}
use Rattle.catalogue.specs.Laws.{AreNames, IsName}
use Rattle.catalogue.specs.Lists.{name_of, names_fault}

-- two maps that are the same below m
same_map : (f g : ℕ → List ℕ) (m : ℕ) → ((i : ℕ) → i < m → f i ≡ g i) → map f (range_with_len 0 m) ≡ map g (range_with_len 0 m)
same_map f g zero h = refl
same_map f g (suc m) h =
    let k : suc m ≡ m + 1 = omega arith in
    let more : (e : ℕ → List ℕ) → map e (range_with_len 0 (suc m)) ≡ map e (range_with_len 0 m) ++ e m ∷ [] = λ e. ap (λ j. map e (range_with_len 0 j)) k ∙ map-range_with_len_more e 0 m m (omega arith) in
    more f ∙ (ap₂ (λ xs x. xs ++ x ∷ []) (same_map f g m (λ i l. h i (omega arith))) (h m (omega arith)) ∙ sym (more g))

module _ (u : Bool) (text starts n : List ℕ) (e : names_fault u text starts ≡ None) where
  a : AreNames u text starts
  a = are_names u text starts e

  abbrev starts_more : List ℕ
  starts_more = starts ++ (length text + length n) ∷ []

  start_before : (i : ℕ) → i < length starts → slice_index_or starts_more i 0 ≡ slice_index_or starts i 0
  start_before i h = get_or_append_left starts ((length text + length n) ∷ []) 0 i h

  start_behind : (i : ℕ) → i ≡ length starts → slice_index_or starts_more i 0 ≡ length text + length n
  start_behind i h = ap (λ k. slice_index_or starts_more k 0) h ∙ get_or-append_seam starts (length text + length n) [] 0

  as_many : length starts_more ≡ length starts + 1
  as_many = length-append starts ((length text + length n) ∷ [])

  start_rises : (i : ℕ) → i + 1 < length starts_more → slice_index_or starts_more i 0 ≤ slice_index_or starts_more (i + 1) 0
  start_rises i h = ⊎_elim
      (λ (b : i + 1 < length starts). let r = a.none_falls i b in let p = start_before i (omega arith) in let q = start_before (i + 1) b in omega arith)
      (λ (b : length starts ≤ i + 1).
      let m = as_many in
      let r = within u text starts e i (omega arith) in
      let p = start_before i (omega arith) in
      let q = start_behind (i + 1) (omega arith) in
      omega arith)
      (cases_lt (i + 1) (length starts))

  -- its name and those before it
  name_before_it : (i : ℕ) → i + 1 < length starts → name_of (text ++ n) starts_more i ≡ name_of text starts i
  name_before_it i h =
      let p = start_before i (omega arith) in
      let q = start_before (i + 1) h in
      let r = a.none_falls i h in
      let w = within u text starts e (i + 1) h in
      let a = slice_index_or starts i 0 in
      let b = slice_index_or starts (i + 1) 0 in
      let f : drop a (text ++ n) ≡ drop a text ++ n = drop-append-le a text n (omega arith) in
      let g : take (b - a) (drop a text ++ n) ≡ take (b - a) (drop a text) = take-append-le (b - a) (drop a text) n (grind (arith, length-drop)) in
      rw (p, q) (ap (take (b - a)) f ∙ g)

  name_itself : (i : ℕ) → i + 1 ≡ length starts → name_of (text ++ n) starts_more i ≡ n
  name_itself i h =
      let s = a.ends in
      let k : length starts - 1 ≡ i = omega arith in
      let p : slice_index_or starts_more i 0 ≡ length text = start_before i (omega arith) ∙ ap (λ j. slice_index_or starts j 0) (sym k) ∙ s in
      let q : slice_index_or starts_more (i + 1) 0 ≡ length text + length n = start_behind (i + 1) h in
      let d : length text + length n - length text ≡ length n = omega arith in
      rw (p, q, d, drop-append_seam text n) (take_all (length n) n (omega arith))

  pub sound_more : name_refusal u n ≡ None → names_fault u (text ++ n) (starts ++ (length text + length n) ∷ []) ≡ None
  sound_more l =
      let m = as_many in
      let g = a.some in
      sound_names u (text ++ n) starts_more (record {
        some = omega arith;
        none_falls = start_rises;
        ends = start_behind (length starts_more - 1) (omega arith) ∙ sym (length-append text n);
        names = λ k b. ⊎_elim
            (λ (h : k + 1 < length starts). subst (IsName u) (sym (name_before_it k h)) (a.names k (omega arith)))
            (λ (h : length starts ≤ k + 1). subst (IsName u) (sym (name_itself k (omega arith))) (taken_is u n l))
            (cases_lt (k + 1) (length starts));
      })

  pub names_more : map (name_of (text ++ n) starts_more) (range_with_len 0 (length starts_more - 1)) ≡ map (name_of text starts) (range_with_len 0 (length starts - 1)) ++ n ∷ []
  names_more =
      let g = a.some in
      let m = as_many in
      let k : length starts_more - 1 ≡ length starts - 1 + 1 = omega arith in
      rw (k, map-range_with_len_more (name_of (text ++ n) starts_more) 0 (length starts - 1) (length starts - 1) (omega arith), same_map (name_of (text ++ n) starts_more) (name_of text starts) (length starts - 1) (λ i l. name_before_it i (omega arith)), name_itself (length starts - 1) (omega arith)) refl
