-- The laws of lists.
use Rattle.std.proofs.Common.{◌≡◌, ℕ, zero, suc, ◌+◌, ◌-◌, ◌<◌, ◌≤◌, Bool, true, None, List, [], ◌∷◌, ◌++◌, drop, filter, length, map, slice_index_or, slice_range, sym, refl, ap, ◌∙◌, ⊎_elim, arith}
use Rattle.std.specs.List.{concat, range_with_len}
use Rattle.std.proofs.lemmas.Bool.{cases_lt}
use Rattle.std.proofs.lemmas.List.{drop_all}
use Rattle.std.proofs.lemmas.List.Folds.{drop_split}
use Rattle.catalogue.specs.Cutting.{Cuts, along_at}
use Rattle.catalogue.specs.Finding.{PlacesStand, begins_so, standing_at}
use Rattle.catalogue.specs.Laws.{AllBegin, JustThatPart, PartThere, Tiled}
use Rattle.catalogue.specs.Lists.{name_of, names_fault}
use Rattle.catalogue.proofs.Cutting.{after_is, before_is, begins_is, part_at, part_filtered}
use Rattle.catalogue.proofs.Listing.{begun, rises, sound}
use Rattle.catalogue.proofs.Order.{rising}

pub just_that_part : JustThatPart
just_that_part l ask part f = sym (part_filtered l ask part f)

all_pass : (test : ℕ → Bool) → ((i : ℕ) → test i ≡ true) → (xs : List ℕ) → filter test xs ≡ xs
all_pass test t [] = refl
all_pass test t (x ∷ xs) = rw (t x, all_pass test t xs)

pub all_begin : AllBegin
all_begin l ask e = all_pass (begins_so l ask) (λ i. rw e) l.places

module _ (u : Bool) (text starts : List ℕ) (e : names_fault u text starts ≡ None) where
  -- from any start on
  tiled_from : (n i : ℕ) → i + n + 1 ≡ length starts → concat (map (name_of text starts) (range_with_len i n)) ≡ drop (slice_index_or starts i 0) text
  tiled_from zero i h =
      let k : i ≡ length starts - 1 = omega arith in
      sym (drop_all (slice_index_or starts i 0) text (let s = (sound u text starts e).ends in grind arith))
  tiled_from (suc n) i h =
      ap (λ xs. name_of text starts i ++ xs) (tiled_from n (i + 1) (omega arith))
      ∙ sym (drop_split text (slice_index_or starts i 0) (slice_index_or starts (i + 1) 0) (rises u text starts e i (omega arith)))

pub tiled : Tiled
tiled u text starts e = let b = begun u text starts e in tiled_from u text starts e (length starts - 1) 0 (omega arith)

-- where numbers that don't fall go past a bound
module _ (f : ℕ → ℕ) (n : ℕ) (up : (i j : ℕ) → i ≤ j → j < n → f i ≤ f j) (bound : ℕ) where
  cut_below : (m : ℕ) → m ≤ n → (c : ℕ) × Cuts f bound 0 m c
  cut_below zero l = (0, record { rises = omega arith; within = omega arith; low = λ k p q. absurd (omega arith); high = λ k p q. absurd (omega arith) })
  cut_below (suc m) l = ⊎_elim
      (λ (b : f m < bound + 1). (suc m, record { rises = omega arith; within = omega arith; low = λ k p q. let u = up k m (omega arith) (omega arith) in omega arith; high = λ k p q. absurd (omega arith) }))
      (λ (b : bound + 1 ≤ f m).
      let c = cut_below m (omega arith) in
      let w = c.1.within in
      (c.0, record { rises = omega arith; within = omega arith; low = c.1.low; high = λ k p q. ⊎_elim (λ r. c.1.high k p r) (λ r. let e : k ≡ m = omega arith in grind arith) (cases_lt k m) }))
      (cases_lt (f m) (bound + 1))

pub part_there : PartThere
part_there l ask e =
    let up = rising l e ask in
    let n = length l.places in
    let a = cut_below (along_at l ask) n up 0 n (omega arith) in
    let b = cut_below (along_at l ask) n up 1 n (omega arith) in
    let v = a.1.within in
    let w = b.1.within in
    let r : a.0 ≤ b.0 = ⊎_elim (λ (q : b.0 < a.0). let x = a.1.low b.0 (omega arith) q in let y = b.1.high b.0 (omega arith) (omega arith) in absurd (omega arith)) (λ q. q) (cases_lt b.0 a.0) in
    let s : PlacesStand l ask a.0 b.0 = record {
      rises = r;
      within = w;
      front = λ k p. before_is (standing_at l ask k) (a.1.low k (omega arith) p);
      part = λ k p q. begins_is (standing_at l ask k) (a.1.high k p (omega arith)) (b.1.low k (omega arith) q);
      behind = λ k p q. after_is (standing_at l ask k) (b.1.high k p q);
    } in
    let p = part_at true l ask a.0 b.0 s in
    rw (part_filtered l ask (slice_range l.places a.0 b.0) p) p
