-- The valley's numbers say what its rule says.
use Rattle.std.proofs.Common.{◌≡◌, ℕ, ◌+◌, ◌*◌, ◌/◌, ◌%◌, ◌<◌, cond, ltb, List, [], ◌∷◌, length, get_or, None, sym, refl, ap, ◌∙◌, ⊎_elim, arith}
use Rattle.std.proofs.lemmas.List.FromFn.{length-map-range_with_len, get_or-map-range_with_len}
use Rattle.std.proofs.lemmas.Bool.{cases_lt, lt-ltb, le-ltb}
use Rattle.std.proofs.lemmas.Bool.Decides.{nat_tests}
use Rattle.table.specs.Numbers.{place_in}
use Rattle.pieces.specs.Runs.{weights_at, nothing, same_run}
use Rattle.table.specs.Refusals.{refusal_of, first_place}
use Rattle.table.specs.Rules.{letter_weighs, joins_in, weighs_in, rules_in}
use Rattle.pieces.specs.Ranks.{at_rank}
use Rattle.table.specs.Valley.{valley, valley_letter, valley_weighs, valley_list, valley_pair, level}
use Rattle.table.proofs.Saying.{same_rules, same_weights}

-- the numbers of the rule, kept shut so that no goal writes them out
unfoldable pub numbers : List ℕ
numbers = valley_list

numbers_end : length numbers ≡ 768
unfolding numbers
numbers_end = length-map-range_with_len (λ i. level (i % 3) (valley_letter (i / 3))) 0 768

number_at : (a k : ℕ) → a < 256 → k < 3 → get_or numbers (3 * a + k) 0 ≡ level k (valley_letter a)
unfolding numbers
number_at a k l h =
    let d : (3 * a + k) / 3 ≡ a = omega arith in
    let m : (3 * a + k) % 3 ≡ k = omega arith in
    get_or-map-range_with_len (λ i. level (i % 3) (valley_letter (i / 3))) 0 768 (3 * a + k) (3 * a + k) 0 (omega arith) (omega arith)
    ∙ (ap (λ i. level i (valley_letter ((3 * a + k) / 3))) m ∙ ap (λ i. level k (valley_letter i)) d)

letter_known : (a : ℕ) → a < 256 → weights_at numbers (3 * a) ≡ valley_letter a
letter_known a l =
    let z : 3 * a + 0 ≡ 3 * a = omega arith in
    let p = ap (λ i. get_or numbers i 0) (sym z) ∙ number_at a 0 l (omega arith) in
    same_weights _ _ p (number_at a 1 l (omega arith)) (number_at a 2 l (omega arith))

letter_known_or : (a : ℕ) → letter_weighs numbers [] a ≡ cond (ltb a 256) (valley_letter a) nothing
unfolding at_rank
letter_known_or a =
    ⊎_elim
    (λ l. let t = lt-ltb a 256 l in rw t (letter_known a l))
    (λ l. let t = le-ltb a 256 l in rw t)
    (cases_lt a 256)

joins_as : (run : List ℕ) → joins_in valley_pair 1 run ≡ same_run (99 ∷ (104 ∷ [])) run
unfolding joins_in place_in
joins_as [] = refl
joins_as (a ∷ []) = grind (arith, nat_tests)
joins_as (a ∷ (b ∷ [])) = grind (arith, nat_tests)
joins_as (a ∷ (b ∷ (c ∷ run))) = grind (arith, nat_tests)

weighs_as : (run : List ℕ) → weighs_in numbers [] valley_pair 1 run ≡ valley_weighs run
unfolding weighs_in place_in
weighs_as [] = refl
weighs_as (a ∷ []) = letter_known_or a
weighs_as (a ∷ (b ∷ [])) = grind (arith, nat_tests)
weighs_as (a ∷ (b ∷ (c ∷ run))) = grind (arith, nat_tests)

pub valley_rules : rules_in numbers valley_pair 1 ≡ valley
valley_rules = same_rules (rules_in numbers valley_pair 1) valley joins_as weighs_as (λ run. refl) refl

pub valley_kept : refusal_of numbers valley_pair 1 ≡ None
unfolding refusal_of first_place place_in
valley_kept = rw (numbers_end)
