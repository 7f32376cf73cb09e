-- Digits read as a number.
use Rattle.std.proofs.Common.{◌≡◌, ℕ, zero, suc, ◌+◌, ◌*◌, ◌^◌, ◌<◌, ◌≤◌, ◌⊎◌, inl, inr, Bool, true, false, cond, ◌&&◌, ltb, leb, eqb, List, [], ◌∷◌, get_or, length, take, Some, None, Option, Decides, sym, refl, ap, ◌∙◌, rules, arith}
use Rattle.std.proofs.lemmas.Bool.{lt-ltb, ltb-true, le-leb, leb-true, and_parts, true≢false}
use Rattle.std.proofs.lemmas.Bool.Decides.{nat_tests, Decides-like, Decides-and, Decides-ltb}
use Rattle.std.proofs.lemmas.Int.Digits.{digits_value-lt, digits_value_more}
use Rattle.std.proofs.lemmas.Str.Parse.{IsNumeralModel, digits_value-take-le, numerals_by_fold}
use Rattle.std.specs.Char.{digit_value, is_digit}
use Rattle.std.specs.List.{list_all}
use Rattle.std.specs.Option.{SomeIff}
use Rattle.std.specs.Str.Parse.{AllDigits, IsNumeral, digits_value}
use Rattle.texts.specs.Numerals.{all_digits, value, number_of, hex_of, one_letter}
use Rattle.utf8.specs.Reading.{first_letter}
use Rattle.utf8.proofs.Letters.{none_read}
use Rattle.utf8.proofs.Numbers.{three_says, two_says}
use native.Mathlib.Nat.{pow-le-pow_right}

-- two that are `Some v` just where P holds are one
pub same_some : (r s : Option ℕ) (P : Type 0) (v : ℕ) → SomeIff r P v → SomeIff s P v → r ≡ s
same_some None None P v h k = refl
same_some None (Some y) P v h k = absurd (h k.0)
same_some (Some x) None P v h k = absurd (k h.0)
same_some (Some x) (Some y) P v h k = ap Some (h.1 ∙ sym k.1)

-- a choice by a test of P is `Some` just where P holds
chosen : (t : Bool) (P : Type 0) → Decides t P → (v u : ℕ) → (P → v ≡ u) → SomeIff (cond t (Some u) None) P v
chosen true P d v u e = (d.0 refl, sym (e (d.0 refl)))
chosen false P d v u e = λ p. true≢false (sym (d.1 p))

-- each byte of a numeral is a digit, and what its front writes is no more than what it writes
module _ (base : ℕ) where
  pub digit_of : (w : List ℕ) (i : ℕ) → AllDigits base w → i < length w → digit_value (get_or w i 0) < base
  digit_of [] i d l = absurd (omega arith)
  digit_of (x ∷ w) zero d l = d.0
  digit_of (x ∷ w) (suc i) d l = digit_of w i d.1 (omega arith)

  pub front_below : (w : List ℕ) (i n m : ℕ) → 1 ≤ base → i < length w → n ≡ digits_value base (take i w) → m ≡ n * base + digit_value (get_or w i 0) → m ≤ digits_value base w
  front_below w i n m b l e f =
      let g = f ∙ (ap (λ v. v * base + digit_value (get_or w i 0)) e ∙ sym (digits_value_more base w i l)) in
      let t = digits_value-take-le base w (i + 1) b in
      rw g t

-- the test that the code makes of each byte
module _ (base : ℕ) where
  pub digits_pass : (w : List ℕ) → AllDigits base w → list_all (λ x. is_digit x base) w ≡ true
  digits_pass [] d = refl
  digits_pass (x ∷ w) d = rw (lt-ltb (digit_value x) base d.0) (digits_pass w d.1)

-- decimal digits
own : IsNumeralModel (λ ds. all_digits ds ≡ true) (value 0)
unfolding all_digits value
own = numerals_by_fold _ (search rules) value (search rules)

number_tells : (w : List ℕ) → Decides (ltb 0 (length w) && (all_digits w && leb (value 0 w) 65535)) (IsNumeral 10 w × (digits_value 10 w < 65536))
number_tells w =
    Decides-like _ (λ q. let e = own.same w q.1.0 in ((q.0, q.1.0), omega arith)) (λ p. let e = own.same w p.0.1 in (p.0.0, (p.0.1, omega arith)))
    (Decides-and _ _ (Decides-ltb 0 (length w)) (Decides-and _ _ (own.to w, own.from w) (leb-true (value 0 w) 65535, le-leb (value 0 w) 65535)))

pub number_reads : (w : List ℕ) → SomeIff (number_of w) (IsNumeral 10 w × (digits_value 10 w < 65536)) (digits_value 10 w)
number_reads w = chosen _ _ (number_tells w) _ (value 0 w) (λ p. sym (own.same w p.0.1))

pub decimal_read : (w : List ℕ) (r : Option ℕ) → SomeIff r (IsNumeral 10 w × (digits_value 10 w < 65536)) (digits_value 10 w) → r ≡ number_of w
decimal_read w r h = same_some r (number_of w) _ _ h (number_reads w)

-- hexadecimal digits, four to six
digits_all : (base : ℕ) (w : List ℕ) → list_all (λ x. is_digit x base) w ≡ true → AllDigits base w
digits_all base [] h = tt
digits_all base (x ∷ w) h = let k = and_parts (is_digit x base) (list_all (λ y. is_digit y base) w) h in (ltb-true (digit_value x) base k.0, digits_all base w k.1)

abbrev IsHex : List ℕ → Type 0
IsHex d = ((4 ≤ length d) × (length d ≤ 6)) × AllDigits 16 d

hex_tells : (d : List ℕ) → Decides ((leb 4 (length d) && leb (length d) 6) && list_all (λ x. is_digit x 16) d) (IsHex d)
hex_tells d = Decides-and _ _ (Decides-and _ _ (leb-true 4 (length d), le-leb 4 (length d)) (leb-true (length d) 6, le-leb (length d) 6)) (digits_all 16 d, digits_pass 16 d)

pub hex_reads : (d : List ℕ) → SomeIff (hex_of d) (IsHex d) (digits_value 16 d)
hex_reads d = chosen _ _ (hex_tells d) _ _ (λ p. refl)

-- a choice of the same
some_like : (r : Option ℕ) (P Q : Type 0) (v : ℕ) → (P → Q) → (Q → P) → SomeIff r P v → SomeIff r Q v
some_like None P Q v f g h = λ q. h (g q)
some_like (Some x) P Q v f g h = (f h.0, h.1)

-- their number is small
hex_small : (d : List ℕ) → AllDigits 16 d → length d ≤ 6 → digits_value 16 d < 2 ^ 32
hex_small d h l = omega (arith, digits_value-lt 16 d h, pow-le-pow_right {n = 16} (omega arith) l)

pub hex_read : (d : List ℕ) (r : Option ℕ) → 4 ≤ length d → length d ≤ 6 → SomeIff r (IsNumeral 16 d × (digits_value 16 d < 2 ^ 32)) (digits_value 16 d) → r ≡ hex_of d
hex_read d r l h s =
    same_some r (hex_of d) (IsHex d) _ (some_like r _ _ _ (λ p. ((l, h), p.0.1)) (λ q. ((omega arith, q.1), hex_small d q.1 h)) s) (hex_reads d)

pub hex_none : (d : List ℕ) → (length d < 4) ⊎ (6 < length d) → hex_of d ≡ None
hex_none d h = go (hex_of d) (hex_reads d)
  where
    go : (r : Option ℕ) → SomeIff r (IsHex d) (digits_value 16 d) → r ≡ None
    go None s = refl
    go (Some x) s = elim h [ inl l ↦ absurd (omega arith) | inr l ↦ absurd (omega arith) ]

-- the letter that all bytes are
pub one_none : (w : List ℕ) → first_letter w ≡ None → one_letter w ≡ None
one_none w e = rw (none_read w e)

pub one_read : (w : List ℕ) (a k : ℕ) → first_letter w ≡ Some (a, k) → one_letter w ≡ cond (eqb k (length w) && leb a 65535) (Some a) None
unfolding first_letter
one_read [] a k e = grind arith
one_read (x ∷ []) a k e = grind (arith, nat_tests)
one_read (x ∷ (b ∷ [])) a k e = grind (arith, nat_tests, two_says)
one_read (x ∷ (b ∷ (c ∷ []))) a k e = grind (arith, nat_tests, two_says, three_says)
one_read (x ∷ (b ∷ (c ∷ (d ∷ n)))) a k e = grind (arith, nat_tests)
