-- Numbers written one after the other, and letters in hexadecimal digits.
use Rattle.std.proofs.Common.{◌≡◌, ℕ, zero, suc, ◌+◌, ◌-◌, ◌^◌, ◌<◌, ◌≤◌, ◌/◌, ◌%◌, inl, inr, true, false, ◌&&◌, leb, List, [], ◌∷◌, ◌++◌, length, get_or, take, codes, decimal, replicate, sym, refl, ap, ◌∙◌, arith}
use Rattle.std.proofs.lemmas.List.{append-nil, append_assoc, length-append, length-replicate, take_more}
use Rattle.std.proofs.lemmas.Bool.{cases_eq, eq-eqb, ne_eqb}
use Rattle.std.proofs.lemmas.Fmt.{digits_is_IsNumeral}
use Rattle.std.specs.Fmt.{digits, digits_onto, digit_glyph, padded_integral, format_spec, char_count}
use Rattle.std.specs.Str.Parse.{AllDigits, digits_value}
use Rattle.texts.specs.Written.{hex_text, letter_text, numbers_text}
use native.Mathlib.Nat.{pow-succ'}

one_behind : (x : ℕ) (xs : List ℕ) (y : ℕ) → numbers_text (x ∷ xs) ++ (codes " " ++ decimal y) ≡ numbers_text (x ∷ (xs ++ y ∷ []))
unfolding numbers_text
one_behind x [] y = refl
one_behind x (z ∷ xs) y =
    append_assoc (decimal x) (codes " " ++ numbers_text (z ∷ xs)) (codes " " ++ decimal y)
    ∙ (ap (λ l. decimal x ++ l) (append_assoc (codes " ") (numbers_text (z ∷ xs)) (codes " " ++ decimal y))
    ∙ ap (λ l. decimal x ++ (codes " " ++ l)) (one_behind z xs y))

-- the first number, some of those behind it, and one more
pub one_more : (x : ℕ) (xs : List ℕ) (i : ℕ) → i < length xs → numbers_text (x ∷ take i xs) ++ (codes " " ++ decimal (get_or xs i 0)) ≡ numbers_text (x ∷ take (i + 1) xs)
one_more x xs i h = one_behind x (take i xs) (get_or xs i 0) ∙ ap (λ l. numbers_text (x ∷ l)) (sym (take_more xs i 0 h))

-- what `{:04X}` writes, of any number
padded_digits : (ds : List ℕ) → padded_integral (format_spec 32 0 4 4 (2 ^ 64 - 1)) false [] ds ≡ replicate (4 - length ds) 48 ++ ds
unfolding padded_integral char_count
padded_digits ds = let e : 4 - length ds - 0 - 0 ≡ 4 - length ds = omega arith in rw (e, append-nil ds)

-- a letter that can't be seen
pub by_number : (n : ℕ) → (leb 33 n && leb n 126) ≡ false → codes "U+" ++ padded_integral (format_spec 32 0 4 4 (2 ^ 64 - 1)) false [] (digits 16 true n) ≡ letter_text n
by_number n t = rw (padded_digits (digits 16 true n), t)

-- no more digits than the number asks for
digits_most : (k j n : ℕ) (acc : List ℕ) → n < 16 ^ j → 0 < j → length (digits_onto k 16 true n acc) ≤ j + length acc
digits_most zero j n acc h l = omega arith
digits_most (suc k) zero n acc h l = absurd (omega arith)
digits_most (suc k) (suc j) n acc h l = elim (cases_eq (n / 16) 0) [
  | inl e ↦ rw (eq-eqb (n / 16) 0 e) (omega arith)
  | inr e ↦ rw (ne_eqb (n / 16) 0 e) (
      let p = pow-succ' 16 j in
      let s : n / 16 < 16 ^ j = omega arith in
      elim (cases_eq j 0) [
        | inl z ↦ absurd (let o = ap (λ i. 16 ^ i) z in omega arith)
        | inr z ↦ let m = digits_most k j (n / 16) (digit_glyph true (n % 16) ∷ acc) s (omega arith) in omega arith
      ])
]

digits_few : (n : ℕ) → n < 2 ^ 24 → length (digits 16 true n) ≤ 6
unfolding digits
digits_few n h = let m = digits_most 64 6 n [] (omega arith) (omega arith) in omega arith

-- zeros in front of digits change no number
zeros_in_front : (k : ℕ) (ds : List ℕ) → AllDigits 16 ds → AllDigits 16 (replicate k 48 ++ ds) × (digits_value 16 (replicate k 48 ++ ds) ≡ digits_value 16 ds)
zeros_in_front zero ds h = (h, refl)
zeros_in_front (suc k) ds h = let r = zeros_in_front k ds h in ((omega arith, r.0), r.1)

-- four to six digits that are the number again
pub hex_again : (n : ℕ) → n < 2 ^ 24 → (4 ≤ length (hex_text n)) × (length (hex_text n) ≤ 6) × AllDigits 16 (hex_text n) × (digits_value 16 (hex_text n) ≡ n)
hex_again n h =
    let ds = digits 16 true n in
    let d = digits_is_IsNumeral 16 true (omega arith) (omega arith) n (omega arith) in
    let m = digits_few n h in
    let l : length (hex_text n) ≡ 4 - length ds + length ds = length-append (replicate (4 - length ds) 48) ds ∙ ap (λ k. k + length ds) (length-replicate (4 - length ds) 48) in
    let z = zeros_in_front (4 - length ds) ds d.0.1 in
    (omega arith, omega arith, z.0, z.1 ∙ d.1)
