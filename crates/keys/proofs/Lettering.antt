-- Names read letter by letter.
use Rattle.std.proofs.Common.{◌≡◌, ℕ, ◌<◌, ◌≤◌, Bool, true, false, List, [], ◌∷◌, ◌++◌, length, drop, ltb, ◌||◌, Some, None, refl, sym, ap, ◌∙◌, arith}
use Rattle.std.proofs.lemmas.Bool.{ltb-true, or_parts, true≢false}
use Rattle.std.proofs.lemmas.Option.{same_Some}
use Rattle.utf8.specs.Reading.{first_letter}
use Rattle.utf8.proofs.Letters.{first_one, first_read, letters_few, letters_none, none_read, parted, small, starts}
use Rattle.keys.specs.Laws.{all_small}
use Rattle.keys.specs.Letters.{begins_in, first_in, letters_in, one_byte}

-- what the first letter says of all
pub read_first : (u : Bool) (n : List ℕ) (a k : ℕ) → first_in u n ≡ Some (a, k) → (letters_in u n ≡ a ∷ letters_in u (drop k n)) × (0 < k) × (k ≤ length n)
unfolding letters_in first_in
read_first true n a k e = first_read n a k e
read_first false [] a k e = grind arith
read_first false (b ∷ n) a k e =
    let p : ◌≡◌ {A = ℕ × ℕ} (b, 1) (a, k) = same_Some _ _ e in
    let x = ap (λ q. q.0) p in
    let y = ap (λ q. q.1) p in
    rw (← x, ← y) (refl, omega arith, omega arith)

nothing_first : None ≡ first_letter []
unfolding first_letter
nothing_first = refl

-- how the first letter is read: one byte, or as UTF-8 has it
pub none_first : (u : Bool) (n : List ℕ) → length n ≡ 0 → None ≡ first_in u n
unfolding first_in
none_first true [] l = nothing_first
none_first false [] l = refl
none_first u (a ∷ n) l = absurd (omega arith)

pub small_first : (u : Bool) (a : ℕ) (n m : List ℕ) → m ≡ a ∷ n → one_byte u a ≡ true → Some (a, 1) ≡ first_in u m
unfolding first_in
small_first true a n m e h = sym (ap first_letter e ∙ first_one a n (ltb-true a 128 (by_true (ltb a 128) h)))
  where
    by_true : (b : Bool) → (b || false) ≡ true → b ≡ true
    by_true true h = refl
    by_true false h = h
small_first false a n m e h = sym (ap (first_in false) e)

pub long_first : (u : Bool) (a : ℕ) (n : List ℕ) → one_byte u a ≡ false → first_letter n ≡ first_in u n
unfolding first_in
long_first true a n h = refl
long_first false a n h = absurd (let p = (or_parts (ltb a 128) true h).1 in true≢false p)

-- where there is none there are no bytes
pub read_none : (u : Bool) (n : List ℕ) → first_in u n ≡ None → n ≡ []
unfolding first_in
read_none true n e = none_read n e
read_none false [] e = refl
read_none false (b ∷ n) e = grind arith

pub no_letters : (u : Bool) → letters_in u [] ≡ []
unfolding letters_in
no_letters true = letters_none
no_letters false = refl

pub few_letters : (u : Bool) (n : List ℕ) → length (letters_in u n) ≤ length n
unfolding letters_in
few_letters true n = letters_few n
few_letters false n = omega arith

pub small_letters : (u : Bool) (n : List ℕ) → all_small n ≡ true → letters_in u n ≡ n
unfolding letters_in
small_letters true n h = small n h
small_letters false n h = refl

-- a name is read in two parts where a letter may begin
pub parted_in : (u : Bool) (xs ys : List ℕ) → begins_in u ys ≡ true → letters_in u (xs ++ ys) ≡ letters_in u xs ++ letters_in u ys
unfolding letters_in
parted_in true xs ys b = parted xs ys b
parted_in false xs ys b = refl

-- and a letter that can be read is one that may begin there
pub starts_in : (u : Bool) (n : List ℕ) (a k : ℕ) → first_in u n ≡ Some (a, k) → a < 65536 → begins_in u n ≡ true
unfolding first_in
starts_in true n a k e l = starts n a k e l
starts_in false n a k e l = refl
