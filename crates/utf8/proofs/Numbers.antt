-- The ranges of bytes in numbers, and the letters that they are.
use Rattle.std.proofs.Common.{◌≡◌, ℕ, ◌+◌, ◌/◌, ◌%◌, ◌<◌, ◌≤◌, Bool, true, false, ◌&&◌, ◌||◌, eqb, [], ◌∷◌, inl, inr, ap, ap₂, ◌∙◌, arith}
use Rattle.std.proofs.lemmas.Bool.{cases_eq, false_from_ne_true, lt-ltb, le-ltb, or_cases, or_left, or_right}
use Rattle.std.proofs.lemmas.Bool.Decides.{nat_tests}
use Rattle.utf8.specs.Letters.{bytes_of, is_letter}
use Rattle.utf8.specs.Ranges.{follows, of_three, of_two, three, two, within}

-- Two bytes that are a letter. The first part of what is said shows `grind` which call it is about.
pub two_says : (a b : ℕ) → two a b ≡ true → (two a b ≡ two a b) × (194 ≤ a) × (a ≤ 223) × (128 ≤ b) × (b ≤ 191)
unfolding two
two_says a b e = grind (arith, nat_tests)

pub two_holds : (a b : ℕ) → 194 ≤ a → a ≤ 223 → 128 ≤ b → b ≤ 191 → two a b ≡ true
unfolding two
two_holds a b p q r s = grind (arith, nat_tests)

pub two_not : (a b : ℕ) → a < 194 → two a b ≡ false
two_not a b h = false_from_ne_true (two a b) (λ e. let s = two_says a b e in omega arith)

-- three of them, by the rows of the ranges
abbrev pub InThree : ℕ → ℕ → ℕ → Type 0
InThree a b c = (three a b c ≡ three a b c) × (224 ≤ a) × (a ≤ 239) × (128 ≤ b) × (b ≤ 191) × (128 ≤ c) × (c ≤ 191) × (a ≡ 224 → 160 ≤ b) × (a ≡ 237 → b ≤ 159)

abbrev low : ℕ → ℕ → ℕ → Bool
low a b c = eqb a 224 && (within 160 191 b && follows c)

abbrev middle : ℕ → ℕ → ℕ → Bool
middle a b c = (within 225 236 a || within 238 239 a) && (follows b && follows c)

abbrev high : ℕ → ℕ → ℕ → Bool
high a b c = eqb a 237 && (within 128 159 b && follows c)

low_says : (a b c : ℕ) → low a b c ≡ true → InThree a b c
low_says a b c e = grind (arith, nat_tests)

middle_says : (a b c : ℕ) → middle a b c ≡ true → InThree a b c
middle_says a b c e = grind (arith, nat_tests)

high_says : (a b c : ℕ) → high a b c ≡ true → InThree a b c
high_says a b c e = grind (arith, nat_tests)

low_holds : (a b c : ℕ) → a ≡ 224 → 160 ≤ b → b ≤ 191 → 128 ≤ c → c ≤ 191 → low a b c ≡ true
low_holds a b c p q r s t = grind (arith, nat_tests)

middle_holds : (a b c : ℕ) → 225 ≤ a → a ≤ 239 → (a ≡ 237 → ⊥) → 128 ≤ b → b ≤ 191 → 128 ≤ c → c ≤ 191 → middle a b c ≡ true
middle_holds a b c p q r s t u v = grind (arith, nat_tests)

high_holds : (a b c : ℕ) → a ≡ 237 → 128 ≤ b → b ≤ 159 → 128 ≤ c → c ≤ 191 → high a b c ≡ true
high_holds a b c p q r s t = grind (arith, nat_tests)

pub three_says : (a b c : ℕ) → three a b c ≡ true → InThree a b c
unfolding three
three_says a b c e =
    elim (or_cases (low a b c || middle a b c) (high a b c) e) [
      | inl l ↦ elim (or_cases (low a b c) (middle a b c) l) [ inl m ↦ low_says a b c m | inr m ↦ middle_says a b c m ]
      | inr h ↦ high_says a b c h
    ]

pub three_holds : (a b c : ℕ) → 224 ≤ a → a ≤ 239 → 128 ≤ b → b ≤ 191 → 128 ≤ c → c ≤ 191 → (a ≡ 224 → 160 ≤ b) → (a ≡ 237 → b ≤ 159) → three a b c ≡ true
unfolding three
three_holds a b c p q r s t u v w =
    elim (cases_eq a 224) [
      | inl e ↦ or_left (low a b c || middle a b c) (high a b c) (or_left (low a b c) (middle a b c) (low_holds a b c e (v e) s t u))
      | inr n ↦ elim (cases_eq a 237) [
        | inl f ↦ or_right (low a b c || middle a b c) (high a b c) (high_holds a b c f r (w f) t u)
        | inr m ↦ or_left (low a b c || middle a b c) (high a b c) (or_right (low a b c) (middle a b c) (middle_holds a b c (omega arith) q m r s t u))
      ]
    ]

pub three_not : (a b c : ℕ) → a < 224 → three a b c ≡ false
three_not a b c h = false_from_ne_true (three a b c) (λ e. let s = three_says a b c e in omega arith)

-- a letter in numbers
pub letter_says : (a : ℕ) → is_letter a ≡ true → (a < 65536) × (55296 ≤ a → 57344 ≤ a)
letter_says a e = grind (arith, nat_tests)

pub letter_holds : (a : ℕ) → a < 65536 → (55296 ≤ a → 57344 ≤ a) → is_letter a ≡ true
letter_holds a h k = grind (arith, nat_tests)

-- how many bytes it is written in
pub in_one : (a : ℕ) → a < 128 → bytes_of a ≡ a ∷ []
unfolding bytes_of
in_one a h = rw (lt-ltb a 128 h)

pub in_two : (a : ℕ) → 128 ≤ a → a < 2048 → bytes_of a ≡ (192 + a / 64) ∷ ((128 + a % 64) ∷ [])
unfolding bytes_of
in_two a h k = rw (le-ltb a 128 h, lt-ltb a 2048 k)

pub in_three : (a : ℕ) → 2048 ≤ a → bytes_of a ≡ (224 + a / 4096) ∷ ((128 + a / 64 % 64) ∷ ((128 + a % 64) ∷ []))
unfolding bytes_of
in_three a h = let k : 128 ≤ a = omega arith in rw (le-ltb a 128 k, le-ltb a 2048 h)

-- the bytes of a letter are within the ranges
pub two_made : (a : ℕ) → 128 ≤ a → a < 2048 → (two (192 + a / 64) (128 + a % 64) ≡ true) × (of_two (192 + a / 64) (128 + a % 64) ≡ a)
two_made a h k = (two_holds (192 + a / 64) (128 + a % 64) (omega arith) (omega arith) (omega arith) (omega arith), omega arith)

pub three_made : (a : ℕ) → 2048 ≤ a → a < 65536 → (55296 ≤ a → 57344 ≤ a) → (three (224 + a / 4096) (128 + a / 64 % 64) (128 + a % 64) ≡ true) × (of_three (224 + a / 4096) (128 + a / 64 % 64) (128 + a % 64) ≡ a)
three_made a h k s = (
  three_holds (224 + a / 4096) (128 + a / 64 % 64) (128 + a % 64) (omega arith) (omega arith) (omega arith) (omega arith) (omega arith) (omega arith)
      (λ e. omega arith) (λ e. grind arith),
  omega arith,
)

-- three bytes are no letter that two would do for, and no surrogate
three_large : (a b c : ℕ) → InThree a b c → 2048 ≤ of_three a b c
three_large a b c s = grind arith

three_apart : (a b c : ℕ) → InThree a b c → 55296 ≤ of_three a b c → 57344 ≤ of_three a b c
three_apart a b c s h = grind arith

-- and bytes within the ranges are those of a letter
pub two_back : (a b : ℕ) → two a b ≡ true → bytes_of (of_two a b) ≡ a ∷ (b ∷ [])
two_back a b e =
    let s = two_says a b e in
    let p : 192 + of_two a b / 64 ≡ a = omega arith in
    let q : 128 + of_two a b % 64 ≡ b = omega arith in
    in_two (of_two a b) (omega arith) (omega arith) ∙ ap₂ (λ x y. x ∷ (y ∷ [])) p q

pub three_back : (a b c : ℕ) → three a b c ≡ true → bytes_of (of_three a b c) ≡ a ∷ (b ∷ (c ∷ []))
three_back a b c e =
    let s = three_says a b c e in
    let p : 224 + of_three a b c / 4096 ≡ a = omega arith in
    let q : 128 + of_three a b c / 64 % 64 ≡ b = omega arith in
    let r : 128 + of_three a b c % 64 ≡ c = omega arith in
    in_three (of_three a b c) (three_large a b c s) ∙ (ap₂ (λ x y. x ∷ (y ∷ ((128 + of_three a b c % 64) ∷ []))) p q ∙ ap (λ z. a ∷ (b ∷ (z ∷ []))) r)

pub two_letter : (a b : ℕ) → two a b ≡ true → is_letter (of_two a b) ≡ true
two_letter a b e = let s = two_says a b e in letter_holds (of_two a b) (omega arith) (λ h. omega arith)

pub three_letter : (a b c : ℕ) → three a b c ≡ true → is_letter (of_three a b c) ≡ true
three_letter a b c e = let s = three_says a b c e in letter_holds (of_three a b c) (omega arith) (three_apart a b c s)
