-- Each number of a part is a name's.
use Rattle.std.proofs.Common.{◌≡◌, ℕ, suc, ◌+◌, ◌-◌, ◌<◌, Bool, true, false, None, List, ◌∷◌, length, slice_index_or, drop, map, min, take, ap, sym, ◌∙◌, arith}
use Rattle.std.proofs.lemmas.List.{get_or-drop, get_or-take, take-map, take_min}
use Rattle.catalogue.proofs.Order.{known}
use Rattle.catalogue.specs.Finding.{Found}
use Rattle.catalogue.specs.Lists.{Lists, places_fault}

-- so are those behind the first
pub known_behind : (n x : ℕ) (xs ys : List ℕ) → ys ≡ x ∷ xs → ((k : ℕ) → k < length ys → slice_index_or ys k 0 + 1 < n) → (k : ℕ) → k < length xs → slice_index_or xs k 0 + 1 < n
known_behind n x xs ys e h k l = (rw e at h) (suc k) (omega arith)

pub known_within : (right : Bool) (l : Lists) (ask part : List ℕ) → places_fault l ≡ None → Found right l ask part → (k : ℕ) → k < length part → slice_index_or part k 0 + 1 < length l.starts
known_within true l ask part e f k b =
    let w = f.1.within in
    let n : f.0 + length part - f.0 ≡ length part = omega arith in
    let p : slice_index_or part k 0 ≡ slice_index_or l.places (f.0 + k) 0 = ap (λ xs. slice_index_or xs k 0) f.2 ∙ (get_or-take (f.0 + length part - f.0) (drop f.0 l.places) k 0 (omega arith) ∙ get_or-drop f.0 l.places k 0) in
    let q = known l e (f.0 + k) (omega arith) in
    omega arith
known_within false l ask part e f k b = let n = ap length f in absurd (omega arith)

-- the names of the first n numbers, or of all where there are not more
pub first_named : (f : ℕ → List ℕ) (xs : List ℕ) (n m : ℕ) → m ≡ min (length xs) n → map f (take m xs) ≡ take n (map f xs)
first_named f xs n m e =
    let k : m ≡ min n (length xs) = grind arith in
    ap (λ j. map f (take j xs)) k ∙ (ap (map f) (take_min n xs) ∙ sym (take-map f n xs))
