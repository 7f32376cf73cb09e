-- Keys that lie one behind the other, and keys beside their numbers.
use Rattle.std.proofs.Common.{◌≡◌, ℕ, ◌+◌, ◌-◌, ◌≤◌, List, [], ◌∷◌, ◌++◌, length, drop, slice_index_or, slice_range, sym, ap, ◌∙◌, ⊎_elim, arith}
use Rattle.std.proofs.lemmas.Bool.{cases_lt}
use Rattle.std.proofs.lemmas.List.{drop-append-le, get_or_append_left, length-append, length-drop, map-append, length-map, get_or-map, map-id, take-append-le}
use Rattle.std.proofs.lemmas.List.Elements.{All-push}
use Rattle.std.proofs.lemmas.List.FromFn.{get_or-range_with_len, length-range_with_len, map-range_with_len_more}
use Rattle.std.proofs.Math.Seq.{drop-append_seam, get_or-append_seam, take-length}
use Rattle.std.specs.List.{range_with_len}
use Rattle.catalogue.specs.Keying.{AreKeyed, HasKey, KeysLie}
use Rattle.catalogue.specs.Lists.{name_of}
use Rattle.catalogue.specs.declared.names.arrange.Keyed.{Keyed}

-- a part is as it was when more is put behind
part_kept : (xs ys : List ℕ) (a b : ℕ) → a ≤ b → b ≤ length xs → slice_range (xs ++ ys) a b ≡ slice_range xs a b
part_kept xs ys a b l w =
    let d = length-drop a xs in
    rw (drop-append-le a xs ys (omega arith)) (take-append-le (b - a) (drop a xs) ys (omega arith))

part_behind : (xs ys : List ℕ) (a b : ℕ) → a ≡ length xs → b ≡ length (xs ++ ys) → slice_range (xs ++ ys) a b ≡ ys
part_behind xs ys a b e f =
    let n = length-append xs ys in
    let m : b - a ≡ length ys = omega arith in
    rw (m, e, drop-append_seam xs ys) (take-length ys)

module _ (key_of : ℕ → List ℕ) where
  module _ (n : ℕ) (numbers bounds : List ℕ) (k : KeysLie key_of n numbers bounds) where
    old : (i : ℕ) → i ≤ n → slice_index_or (bounds ++ length (numbers ++ key_of n) ∷ []) i 0 ≡ slice_index_or bounds i 0
    old i l = let c = k.count in get_or_append_left bounds (length (numbers ++ key_of n) ∷ []) 0 i (omega arith)

    new : slice_index_or (bounds ++ length (numbers ++ key_of n) ∷ []) (n + 1) 0 ≡ length (numbers ++ key_of n)
    new = let e = get_or-append_seam bounds (length (numbers ++ key_of n)) [] 0 in rw k.count at e

    longer : length numbers ≤ length (numbers ++ key_of n)
    longer = let e = length-append numbers (key_of n) in omega arith

    pub key_more : KeysLie key_of (n + 1) (numbers ++ key_of n) (bounds ++ length (numbers ++ key_of n) ∷ [])
    key_more = record {
      count = let c = k.count in let a = length-append bounds (length (numbers ++ key_of n) ∷ []) in omega arith;
      ends = new;
      rises = λ i l.
          let o = old i (omega arith) in
          let a = longer in
          let b = new in
          let e = k.ends in
          ⊎_elim (λ p. let q = old (i + 1) (omega arith) in let r = k.rises i p in omega arith) (λ p. let q : i ≡ n = omega arith in grind arith) (cases_lt i n);
      within = λ i l.
          let a = longer in
          let b = new in
          ⊎_elim (λ p. let q = old i (omega arith) in let r = k.within i (omega arith) in omega arith) (λ p. let q : i ≡ n + 1 = omega arith in grind arith) (cases_lt i (n + 1));
      each = λ i l.
          ⊎_elim
          (λ p. rw (old i (omega arith), old (i + 1) (omega arith)) (part_kept numbers (key_of n) _ _ (k.rises i p) (k.within (i + 1) (omega arith)) ∙ k.each i p))
          (λ p.
          let q : i ≡ n = omega arith in
          let e = k.ends in
          rw q (part_behind numbers (key_of n) _ _ (old n (omega arith) ∙ e) new))
          (cases_lt i n);
    }

  -- keys that lie so, beside their numbers
  pub keyed_by : (n : ℕ) (numbers bounds : List ℕ) (ks : List Keyed) → KeysLie key_of n numbers bounds → AreKeyed (name_of numbers bounds) n ks → AreKeyed key_of n ks
  keyed_by n numbers bounds ks l k = record {
    keys = λ i d b.
        let e = k.keys i d b in
        let m = get_or-map (λ (k : Keyed). k.number) ks i d 0 b in
        let q = length-range_with_len 0 n in
        let r = ap length k.numbers in
        let w = length-map ks (λ (k : Keyed). k.number) in
        let o = get_or-range_with_len 0 n i 0 (omega arith) in
        let v = ap (λ ns. slice_index_or ns i 0) k.numbers in
        let u : (slice_index_or ks i d).number ≡ i = omega arith in
        e ∙ l.each _ (omega arith);
    numbers = k.numbers;
  }

-- one more number
range_more : (n : ℕ) → range_with_len 0 (n + 1) ≡ range_with_len 0 n ++ n ∷ []
range_more n = sym (map-id (range_with_len 0 (n + 1))) ∙ map-range_with_len_more (λ (i : ℕ). i) 0 n n (omega arith) ∙ ap (λ r. r ++ n ∷ []) (map-id (range_with_len 0 n))

-- one more beside its number
pub keyed_more : (key_of : ℕ → List ℕ) (n : ℕ) (ks : List Keyed) (k : Keyed) → AreKeyed key_of n ks → k.key.now ≡ key_of n → k.number ≡ n → AreKeyed key_of (n + 1) (ks ++ k ∷ [])
keyed_more key_of n ks k a e f = record {
  keys = All-push (HasKey key_of) ks k a.keys (e ∙ ap key_of (sym f));
  numbers = map-append (λ (k : Keyed). k.number) ks (k ∷ []) ∙ (ap (λ r. r ++ k.number ∷ []) a.numbers ∙ rw f (sym (range_more n)));
}
