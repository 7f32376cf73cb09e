-- Numbers written one after the other into the front of room.
use Rattle.std.specs.List.{fold}
use Rattle.std.proofs.lemmas.Iterator.{YieldsList}
use Rattle.std.proofs.lemmas.Iterator.Consumers.{YieldsList-from_shown}
use Rattle.keys.specs.declared.numbers.KeyNumbers.{KeyNumbers}
use Rattle.keys.specs.Reading.{Numbered, numbers_left}
use Rattle.std.proofs.Common.{◌≡◌, ℕ, ◌+◌, ◌≤◌, min, List, [], ◌∷◌, ◌++◌, length, map, take, drop, refl, sym, ap, ap₂, ◌∙◌, arith}
use Rattle.std.proofs.lemmas.List.{append_assoc, drop-drop, length-append, map-append}

-- the first n of all numbers are written, and those left are still to come; room behind them is as it was first
abbrev pub Filled : {X : Type 0} → (all first : List X) → (n : ℕ) → (room left : List X) → Type 0
Filled all first n room left = (n + length left ≡ length all) × (take n room ++ left ≡ all) × (drop n room ≡ drop n first)

-- what the iterator over a key's numbers gives
pub given : (k : KeyNumbers) → YieldsList Numbered (λ x. x) k (numbers_left k)
given k = YieldsList-from_shown Numbered (λ x. x) numbers_left (λ s t h. ap length h.0) (λ s x t h. h.0) k

-- counting up to the largest number, from n on
pub counted : (all : List ℕ) (n most : ℕ) → n ≤ most → fold (λ k x. min (k + 1) most) n all ≡ min (n + length all) most
counted [] n most h = omega arith
counted (x ∷ all) n most h = let ih = counted all (min (n + 1) most) most (omega arith) in ih ∙ omega arith

take_all : {X : Type 0} (xs ys : List X) → take (length xs) (xs ++ ys) ≡ xs
take_all [] ys = refl
take_all (x ∷ xs) ys = ap (λ zs. x ∷ zs) (take_all xs ys)

drop_all : {X : Type 0} (xs ys : List X) → drop (length xs) (xs ++ ys) ≡ ys
drop_all [] ys = refl
drop_all (x ∷ xs) ys = drop_all xs ys

drop_past : {X : Type 0} (xs ys : List X) (k : ℕ) → drop (length xs + k) (xs ++ ys) ≡ drop k ys
drop_past xs ys k = sym (drop-drop k (length xs) (xs ++ ys)) ∙ ap (drop k) (drop_all xs ys)

-- what stands in front of room grows by what is written behind it
pub grown : {X : Type 0} (done ws : List X) (n m : ℕ) (first room more : List X) → (n ≡ length done) × (room ≡ done ++ drop n first) → m ≡ n + length ws
    → more ≡ take n room ++ (ws ++ drop m room) → (m ≡ length (done ++ ws)) × (more ≡ (done ++ ws) ++ drop m first)
grown done ws n m first room more (a, e) b g =
    let t : take n room ≡ done = ap₂ take a e ∙ take_all done (drop n first) in
    let d : drop m room ≡ drop m first =
    ap₂ drop (b ∙ ap (λ k. k + length ws) a) e
    ∙ (drop_past done (drop n first) (length ws) ∙ (drop-drop (length ws) n first ∙ ap (λ k. drop k first) (sym b))) in
    (b ∙ (ap (λ k. k + length ws) a ∙ sym (length-append done ws)), g ∙ (ap₂ (λ x y. x ++ (ws ++ y)) t d ∙ sym (append_assoc done ws (drop m first))))

-- three rows written so, with a 0 between, are a key
pub cells : {X : Type 0} (c : ℕ → X) (r s t : List ℕ) → (((map c r ++ (c 0 ∷ [])) ++ map c s) ++ (c 0 ∷ [])) ++ map c t ≡ map c (r ++ (0 ∷ (s ++ (0 ∷ t))))
cells c r s t =
    let e = map-append c r (0 ∷ (s ++ (0 ∷ t))) in
    let f = map-append c s (0 ∷ t) in
    append_assoc ((map c r ++ (c 0 ∷ [])) ++ map c s) (c 0 ∷ []) (map c t)
    ∙ (append_assoc (map c r ++ (c 0 ∷ [])) (map c s) (c 0 ∷ map c t)
    ∙ (append_assoc (map c r) (c 0 ∷ []) (map c s ++ (c 0 ∷ map c t)) ∙ sym (e ∙ ap (λ x. map c r ++ (c 0 ∷ x)) f)))
