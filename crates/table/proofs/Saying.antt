-- What tables say, equal where they agree on every run.
use Rattle.std.proofs.Common.{◌≡◌, ℕ, ◌+◌, ◌*◌, ◌<◌, Bool, true, false, cond, ltb, List, [], ◌∷◌, length, get_or, replicate, refl, ⊎_elim, arith}
use mathlib.Core.Path.{fun_ext}
use Rattle.std.proofs.lemmas.List.{get_or-replicate, get_or_past, length-replicate}
use Rattle.std.proofs.lemmas.Bool.{cases_lt}
use Rattle.pieces.specs.declared.piece.Weights.{Weights}
use Rattle.table.specs.Numbers.{place_in}
use Rattle.pieces.specs.Runs.{weights_at, nothing}
use Rattle.table.specs.Refusals.{last_letter}
use Rattle.pieces.specs.Ranks.{at_rank}
use Rattle.table.specs.Rules.{Rules, joins_in, weighs_in, rules_by, no_rules}

pub same_rules : (t u : Rules) → ((run : List ℕ) → t.joins run ≡ u.joins run) → ((run : List ℕ) → t.weighs run ≡ u.weighs run) → ((run : List ℕ) → t.expands run ≡ u.expands run) → t.utf8 ≡ u.utf8 → t ≡ u
same_rules t u j w e b = λ i. record { joins = fun_ext j i; weighs = fun_ext w i; expands = fun_ext e i; utf8 = b i }

pub same_weights : (v w : Weights) → v.primary ≡ w.primary → v.secondary ≡ w.secondary → v.tertiary ≡ w.tertiary → v ≡ w
same_weights v w p s t = λ i. record { primary = p i; secondary = s i; tertiary = t i }

cond_same : {A : Type 0} (b : Bool) (x : A) → cond b x x ≡ x
cond_same true x = refl
cond_same false x = refl

pub last_below : (u : Bool) → last_letter u < 65536
last_below true = omega arith
last_below false = omega arith

zeros_at : (n i : ℕ) → ◌≡◌ {A = ℕ} (get_or (replicate n 0) i 0) 0
zeros_at n i =
    let e : length (replicate {A = ℕ} n 0) ≡ n = length-replicate n 0 in
    ⊎_elim (λ l. get_or-replicate n i 0 0 l) (λ l. get_or_past (replicate n 0) i 0 (omega arith)) (cases_lt i n)

pub zero_weights : (i : ℕ) → weights_at (replicate 768 0) i ≡ nothing
zero_weights i = same_weights _ _ (zeros_at 768 i) (zeros_at 768 (i + 1)) (zeros_at 768 (i + 2))

pub blank_rules : (u : Bool) → rules_by u (replicate 768 0) [] [] 0 ≡ no_rules u
unfolding joins_in weighs_in place_in at_rank
blank_rules u = same_rules (rules_by u (replicate 768 0) [] [] 0) (no_rules u) joins weighs (λ run. refl) refl
  where
    joins : (run : List ℕ) → joins_in [] 0 run ≡ false
    joins [] = refl
    joins (a ∷ []) = refl
    joins (a ∷ (b ∷ [])) = refl
    joins (a ∷ (b ∷ (c ∷ run))) = refl

    weighs : (run : List ℕ) → weighs_in (replicate 768 0) [] [] 0 run ≡ nothing
    weighs [] = refl
    weighs (a ∷ []) = let e = zero_weights (3 * a) in rw e (cond_same (ltb a 256) nothing)
    weighs (a ∷ (b ∷ [])) = refl
    weighs (a ∷ (b ∷ (c ∷ run))) = refl
