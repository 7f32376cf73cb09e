-- What the place of a pair says.
use Rattle.std.proofs.Common.{◌≡◌, ℕ, zero, suc, ◌+◌, ◌*◌, ◌<◌, ◌≤◌, Bool, true, false, cond, List, [], ◌∷◌, Some, None, Option, is_some, refl, sym, ap, ◌∙◌, arith}
use Rattle.std.proofs.lemmas.Bool.{le-ltb, ltb-false, or_from, or_parts}
use Rattle.std.specs.List.{slice_get}
use Rattle.std.specs.Option.{option_map}
use Rattle.std.proofs.lemmas.List.FromFn.{length-map-range_with_len, get_or-map-range_with_len}
use Rattle.std.proofs.lemmas.Option.{slice_get-get_or, slice_get_past}
use Rattle.table.specs.Numbers.{first_at, second_at, pair_at, pairs_in, place_in}
use Rattle.pieces.specs.Runs.{weights_at}
use Rattle.pieces.specs.declared.piece.Letter.{Letter}
use Rattle.table.specs.Laws.{KnownPair}
use Rattle.table.specs.Refusals.{foreign, last_letter}
use Rattle.table.specs.Rules.{contraction, joins_in, rules_by, weighs_in, weights_of}

pub place_below : (ps : List ℕ) (n a b k : ℕ) → place_in ps n a b ≡ Some k → k < n
unfolding place_in
place_below ps zero a b k e = grind arith
place_below ps (suc n) a b k e = let ih = place_below ps n a b k in grind arith

-- the letters of a pair that is not foreign
pub known_pair : (u : Bool) (ps : List ℕ) (k : ℕ) → foreign u ps k ≡ false → KnownPair u ps k
known_pair u ps k e = let o = or_parts _ _ e in (ltb-false (last_letter u) (first_at ps k) o.0, ltb-false (last_letter u) (second_at ps k) o.1)

-- UTF-8 has the letters that bytes are, and more
pub known_in_utf8 : (u : Bool) (ps : List ℕ) (k : ℕ) → foreign u ps k ≡ false → foreign true ps k ≡ false
known_in_utf8 true ps k e = e
known_in_utf8 false ps k e = let h = known_pair false ps k e in or_from _ _ (le-ltb 65535 (first_at ps k) (omega (arith, h.0))) (le-ltb 65535 (second_at ps k) (omega (arith, h.1)))

-- the pair at a place of the list of pairs
pub nth_pair : (ps : List ℕ) (n k : ℕ) → k < n → slice_get (pairs_in ps n) k ≡ Some (pair_at ps k)
nth_pair ps n k l =
    let e = length-map-range_with_len (pair_at ps) 0 n in
    slice_get-get_or (pairs_in ps n) k (pair_at ps k) (omega arith) ∙ ap Some (get_or-map-range_with_len (pair_at ps) 0 n k k (pair_at ps k) l (omega arith))

pub nth_none : (ps : List ℕ) (n k : ℕ) → n ≤ k → slice_get (pairs_in ps n) k ≡ None
nth_none ps n k l = let e = length-map-range_with_len (pair_at ps) 0 n in slice_get_past (pairs_in ps n) k (omega arith)

-- what two letters weigh as one, by the place of their pair
pub contracts : (u : Bool) (ls : List ℕ) (os : List Letter) (ps : List ℕ) (n a b : ℕ) → contraction (rules_by u ls os ps n) (a ∷ (b ∷ [])) ≡ option_map (λ k. weights_at ps (5 * k + 2)) (place_in ps n a b)
unfolding joins_in weighs_in
contracts u ls os ps n a b = go (place_in ps n a b)
  where
    go : (o : Option ℕ) → cond (is_some o) (Some (weights_of ps o)) None ≡ option_map (λ k. weights_at ps (5 * k + 2)) o
    go None = refl
    go (Some k) = refl

pub none_contracts : (u : Bool) (ls : List ℕ) (os : List Letter) (ps : List ℕ) (n a b : ℕ) → None ≡ place_in ps n a b → contraction (rules_by u ls os ps n) (a ∷ (b ∷ [])) ≡ None
none_contracts u ls os ps n a b e = contracts u ls os ps n a b ∙ ap (option_map (λ k. weights_at ps (5 * k + 2))) (sym e)
