-- How long rows and keys are at the most, and that no 0 stands in a row.
use Rattle.std.proofs.Common.{◌≡◌, refl, ap, ◌∙◌, ℕ, zero, suc, ◌+◌, ◌-◌, ◌*◌, ◌≤◌, Bool, eqb, List, [], ◌∷◌, ◌++◌, map, length, arith}
use Rattle.std.proofs.lemmas.List.{length-append, length-map, map-append}
use Rattle.std.proofs.Math.Nat.{mul-le-mul_left, mul-suc, mul_assoc}
use Rattle.std.proofs.lemmas.Bool.{cond_both}
use Rattle.std.proofs.lemmas.Bool.Decides.{nat_tests}
use Rattle.table.specs.Rules.{Rules, triples}
use Rattle.keys.specs.declared.level.Level.{Level}
use Rattle.keys.specs.declared.level.Level.TheVariants.{Primary, Secondary, Tertiary}
use Rattle.keys.specs.Pieces.{pieces, pieces_behind, taken}
use Rattle.keys.specs.Laws.{Narrow, NoneExpands, ZeroFree}
use Rattle.keys.specs.Letters.{letters_in}
use Rattle.keys.specs.Rows.{key, on, row, row_of, weighed, without_zeros}
use Rattle.keys.proofs.Lettering.{few_letters}

few_behind : (j : List ℕ → Bool) (k : ℕ) (n : List ℕ) → length (pieces_behind j k n) ≤ length n
unfolding pieces_behind
few_behind j zero [] = omega arith
few_behind j (suc k) [] = omega arith
few_behind j (suc k) (a ∷ n) = let ih = few_behind j k n in omega arith
few_behind j zero (a ∷ n) = let ih = few_behind j (taken j (a ∷ n) - 1) n in omega arith

pieces_few : (j : List ℕ → Bool) (n : List ℕ) → length (pieces j n) ≤ length n
pieces_few j n = few_behind j 0 n

pub zeros_fewer : (xs : List ℕ) → length (without_zeros xs) ≤ length xs
unfolding without_zeros
zeros_fewer [] = omega arith
zeros_fewer (x ∷ xs) = let ih = zeros_fewer xs in grind (arith, nat_tests)

zeros_gone : (xs : List ℕ) → ZeroFree (without_zeros xs)
unfolding without_zeros
zeros_gone [] = tt
zeros_gone (x ∷ xs) = cond_both (eqb x 0) (without_zeros xs) (x ∷ without_zeros xs) ZeroFree (λ e. zeros_gone xs) (λ e. (grind (arith, nat_tests), zeros_gone xs))

pub row_free : (l : Level) (t : Rules) (n : List ℕ) → ZeroFree (row l t n)
unfolding row row_of
row_free l t n = zeros_gone (map (on l) (weighed t (pieces t.joins (letters_in t.utf8 n))))

pub zeros_parted : (xs ys : List ℕ) → without_zeros (xs ++ ys) ≡ without_zeros xs ++ without_zeros ys
unfolding without_zeros
zeros_parted [] ys = refl
zeros_parted (x ∷ xs) ys = let ih = zeros_parted xs ys in grind (arith, nat_tests)

module _ (most : ℕ) (t : Rules) (narrow : Narrow most t) where
  weighed_few : (l : Level) (ps : List (List ℕ)) → length (without_zeros (map (on l) (weighed t ps))) ≤ most * length ps
  unfolding weighed without_zeros
  weighed_few l [] = omega arith
  weighed_few l (p ∷ ps) =
      let ih = weighed_few l ps in
      let h = narrow l p in
      let e = ap length (ap without_zeros (map-append (on l) (triples t p) (weighed t ps)) ∙ zeros_parted (map (on l) (triples t p)) (map (on l) (weighed t ps))) in
      let f = length-append (without_zeros (map (on l) (triples t p))) (without_zeros (map (on l) (weighed t ps))) in
      nat_more most (length ps) _ _ _ (e ∙ f) h ih
    where
      nat_more : (m k a b c : ℕ) → a ≡ b + c → b ≤ m → c ≤ m * k → a ≤ m * suc k
      nat_more m k a b c e h i = let d = mul-suc m k in omega arith

  pub row_few : (l : Level) (n : List ℕ) → length (row l t n) ≤ most * length (letters_in t.utf8 n)
  unfolding row row_of
  row_few l n =
      let ls = letters_in t.utf8 n in
      let p = pieces_few t.joins ls in
      let k = weighed_few l (pieces t.joins ls) in
      let m = mul-le-mul_left most p in
      omega arith

  pub key_by_letters : (n : List ℕ) → length (key t n) ≤ 3 * most * length (letters_in t.utf8 n) + 2
  unfolding key
  key_by_letters n =
      let one = row_few Primary n in
      let two = row_few Secondary n in
      let three = row_few Tertiary n in
      let a = length-append (row Primary t n) (0 ∷ (row Secondary t n ++ (0 ∷ row Tertiary t n))) in
      let b = length-append (row Secondary t n) (0 ∷ row Tertiary t n) in
      let c = mul_assoc 3 most (length (letters_in t.utf8 n)) in
      omega arith

  pub key_few : (n : List ℕ) → length (key t n) ≤ 3 * most * length n + 2
  key_few n = let k = key_by_letters n in let l = few_letters t.utf8 n in let m = mul-le-mul_left (3 * most) l in omega arith

-- where no letter expands a piece gives a row one number at the most
pub none_narrow : (t : Rules) → NoneExpands t → Narrow 1 t
none_narrow t e l p = let z = zeros_fewer (map (on l) (triples t p)) in let m = length-map (triples t p) (on l) in let n = ap length (e p) in omega arith
