-- What reading the first letter says of all letters, and what joins and bounds them.
use Rattle.std.proofs.Common.{◌≡◌, ℕ, zero, suc, ◌+◌, ◌<◌, ◌≤◌, ◌⊎◌, Bool, true, false, cond, ltb, List, [], ◌∷◌, ◌++◌, length, drop, get_or, Some, None, inl, inr, refl, sym, ap, ◌∙◌, arith, subst}
use Rattle.std.specs.List.{list_all}
use Rattle.std.proofs.lemmas.Bool.{and_parts, cond-true, cond-false, le-ltb, lt-ltb, ltb-false, ltb-true}
use Rattle.std.proofs.lemmas.Bool.Decides.{nat_tests}
use Rattle.std.proofs.lemmas.List.{append_assoc, drop_at, length-append}
use Rattle.utf8.specs.Letters.{bytes_of, is_letter}
use Rattle.utf8.specs.Ranges.{of_three, of_two, three, two}
use Rattle.utf8.specs.Reading.{begins_letter, first_letter, later, letters, unread}
use Rattle.utf8.proofs.Numbers.{in_one, in_three, in_two, letter_holds, letter_says, three_back, three_letter, three_made, three_not, three_says, two_back, two_letter, two_made, two_not, two_says}

pub none_read : (n : List ℕ) → first_letter n ≡ None → n ≡ []
unfolding first_letter
none_read [] e = refl
none_read (a ∷ []) e = cc
none_read (a ∷ (b ∷ [])) e = cc
none_read (a ∷ (b ∷ (c ∷ n))) e = cc

pub letters_none : letters [] ≡ []
unfolding letters
letters_none = refl

pub unread_none : unread [] ≡ None
unfolding unread
unread_none = refl

pub first_read : (n : List ℕ) (a k : ℕ) → first_letter n ≡ Some (a, k) → (letters n ≡ a ∷ letters (drop k n)) × (0 < k) × (k ≤ length n)
unfolding first_letter letters
first_read [] a k e = grind arith
first_read (x ∷ []) a k e = grind arith
first_read (x ∷ (b ∷ [])) a k e = grind arith
first_read (x ∷ (b ∷ (c ∷ n))) a k e = grind arith

-- the same of the first place at which no letter can be read
pub unread_read : (n : List ℕ) (a k : ℕ) → first_letter n ≡ Some (a, k) → unread n ≡ cond (ltb a 65536) (later k (unread (drop k n))) (Some 0)
unfolding first_letter unread
unread_read [] a k e = grind arith
unread_read (x ∷ []) a k e = grind (arith, nat_tests)
unread_read (x ∷ (b ∷ [])) a k e = grind (arith, nat_tests, two_says)
unread_read (x ∷ (b ∷ (c ∷ n))) a k e = grind (arith, nat_tests, two_says, three_says)

pub starts : (n : List ℕ) (a k : ℕ) → first_letter n ≡ Some (a, k) → a < 65536 → begins_letter n ≡ true
unfolding first_letter
starts [] a k e h = refl
starts (x ∷ []) a k e h = grind (arith, nat_tests)
starts (x ∷ (b ∷ [])) a k e h = grind (arith, nat_tests, two_says)
starts (x ∷ (b ∷ (c ∷ n))) a k e h = grind (arith, nat_tests, two_says, three_says)

-- one letter in front
pub first_one : (a : ℕ) (n : List ℕ) → a < 128 → first_letter (a ∷ n) ≡ Some (a, 1)
unfolding first_letter
first_one a [] h = rw (lt-ltb a 128 h)
first_one a (b ∷ []) h = let k : a < 194 = omega arith in rw (two_not a b k, lt-ltb a 128 h)
first_one a (b ∷ (c ∷ n)) h = let k : a < 194 = omega arith in let l : a < 224 = omega arith in rw (two_not a b k, three_not a b c l, lt-ltb a 128 h)

pub first_two : (a b : ℕ) (n : List ℕ) → two a b ≡ true → first_letter (a ∷ (b ∷ n)) ≡ Some (of_two a b, 2)
unfolding first_letter
first_two a b [] e = rw e
first_two a b (c ∷ n) e = rw e

pub first_three : (a b c : ℕ) (n : List ℕ) → three a b c ≡ true → first_letter (a ∷ (b ∷ (c ∷ n))) ≡ Some (of_three a b c, 3)
unfolding first_letter
first_three a b c n e = let s = three_says a b c e in let t : two a b ≡ false = grind (arith, two_says) in rw (t, e)

-- no byte, and one that is a letter
pub at_none : (n : List ℕ) → length n < 1 → None ≡ first_letter n
unfolding first_letter
at_none [] h = refl
at_none (a ∷ n) h = absurd (omega arith)

pub at_one : (n : List ℕ) → 0 < length n → get_or n 0 0 < 128 → Some (get_or n 0 0, 1) ≡ first_letter n
at_one [] h k = absurd (omega arith)
at_one (a ∷ n) h k = sym (first_one a n k)

-- what is read where a byte stands behind the first of a letter, or two do
pub long_two : (a : ℕ) (n : List ℕ) → 0 < length n → two a (get_or n 0 0) ≡ true → Some (of_two a (get_or n 0 0), 2) ≡ first_letter (a ∷ n)
long_two a [] h e = absurd (omega arith)
long_two a (b ∷ n) h e = sym (first_two a b n e)

pub long_three : (a : ℕ) (n : List ℕ) → 1 < length n → three a (get_or n 0 0) (get_or n 1 0) ≡ true → Some (of_three a (get_or n 0 0) (get_or n 1 0), 3) ≡ first_letter (a ∷ n)
long_three a [] h e = absurd (omega arith)
long_three a (b ∷ []) h e = absurd (omega arith)
long_three a (b ∷ (c ∷ n)) h e = sym (first_three a b c n e)

pub long_alone : (a : ℕ) (n : List ℕ) → 128 ≤ a → (0 < length n → two a (get_or n 0 0) ≡ false) → (1 < length n → three a (get_or n 0 0) (get_or n 1 0) ≡ false) → Some (65536 + a, 1) ≡ first_letter (a ∷ n)
unfolding first_letter
long_alone a [] h e f = rw (le-ltb a 128 h)
long_alone a (b ∷ []) h e f = rw (e (omega arith), le-ltb a 128 h)
long_alone a (b ∷ (c ∷ n)) h e f = rw (e (omega arith), f (omega arith), le-ltb a 128 h)

-- the letter that stands in front of bytes
pub record Taken (n : List ℕ) : Type 0 where
  pub letter : ℕ
  pub rest : List ℕ
  pub is : is_letter letter ≡ true
  pub whole : n ≡ bytes_of letter ++ rest

-- none can be read at their first
abbrev pub Stuck : ℕ → List ℕ → Type 0
Stuck a n = (128 ≤ a) × (first_letter (a ∷ n) ≡ Some (65536 + a, 1))

-- one or the other
front : (a : ℕ) (n : List ℕ) → Taken (a ∷ n) ⊎ Stuck a n
front a n = small (ltb a 128) refl
  where
    triple : (b c : ℕ) (m : List ℕ) (t : Bool) → 128 ≤ a → two a b ≡ false → three a b c ≡ t → Taken (a ∷ (b ∷ (c ∷ m))) ⊎ Stuck a (b ∷ (c ∷ m))
    triple b c m true h d e = inl (record { letter = of_three a b c; rest = m; is = three_letter a b c e; whole = ap (λ l. l ++ m) (sym (three_back a b c e)) })
    triple b c m false h d e = inr (h, sym (long_alone a (b ∷ (c ∷ m)) h (λ k. d) (λ k. e)))

    pair : (b : ℕ) (m : List ℕ) (t : Bool) → 128 ≤ a → two a b ≡ t → Taken (a ∷ (b ∷ m)) ⊎ Stuck a (b ∷ m)
    pair b m true h e = inl (record { letter = of_two a b; rest = m; is = two_letter a b e; whole = ap (λ l. l ++ m) (sym (two_back a b e)) })
    pair b [] false h e = inr (h, sym (long_alone a (b ∷ []) h (λ k. e) (λ k. absurd (omega arith))))
    pair b (c ∷ m) false h e = triple b c m (three a b c) h e refl

    large : (m : List ℕ) → 128 ≤ a → Taken (a ∷ m) ⊎ Stuck a m
    large [] h = inr (h, sym (long_alone a [] h (λ k. absurd (omega arith)) (λ k. absurd (omega arith))))
    large (b ∷ m) h = pair b m (two a b) h refl

    small : (t : Bool) → ltb a 128 ≡ t → Taken (a ∷ n) ⊎ Stuck a n
    small true e =
        let h = ltb-true a 128 e in
        inl (record { letter = a; rest = n; is = letter_holds a (omega arith) (λ k. omega arith); whole = ap (λ l. l ++ n) (sym (in_one a h)) })
    small false e = large n (ltb-false a 128 e)

pub bytes_some : (a : ℕ) → 0 < length (bytes_of a)
unfolding bytes_of
bytes_some a = grind (arith, nat_tests)

-- induction over bytes, by their letters and the bytes at which none can be read
module _ (P : List ℕ → Type 0) (none : P []) (taken : (a : ℕ) (n : List ℕ) → is_letter a ≡ true → P n → P (bytes_of a ++ n))
    (stuck : (a : ℕ) (n : List ℕ) → Stuck a n → P n → P (a ∷ n)) where
  up_to : (m : ℕ) (n : List ℕ) → length n ≤ m → P n
  up_to m [] h = none
  up_to zero (a ∷ n) h = absurd (omega arith)
  up_to (suc m) (a ∷ n) h =
      elim (front a n) [
        | inl t ↦
            let k = bytes_some t.letter in
            let l = length-append (bytes_of t.letter) t.rest in
            let e = ap length t.whole in
            subst P (sym t.whole) (taken t.letter t.rest t.is (up_to m t.rest (omega arith)))
        | inr s ↦ stuck a n s (up_to m n (omega arith))
      ]

  pub by_letters : (n : List ℕ) → P n
  by_letters n = up_to (length n) n (omega arith)

-- a letter that is written in front is read there
pub first_written : (a : ℕ) (n : List ℕ) → is_letter a ≡ true → first_letter (bytes_of a ++ n) ≡ Some (a, length (bytes_of a))
first_written a n e = one (ltb a 128) refl
  where
    says : (a < 65536) × (55296 ≤ a → 57344 ≤ a)
    says = letter_says a e

    three_bytes : 2048 ≤ a → first_letter (bytes_of a ++ n) ≡ Some (a, length (bytes_of a))
    three_bytes h =
        let m = three_made a h says.0 says.1 in
        rw (in_three a h) (first_three _ _ _ n m.0 ∙ ap (λ x. Some (x, 3)) m.1)

    two_bytes : (t : Bool) → 128 ≤ a → ltb a 2048 ≡ t → first_letter (bytes_of a ++ n) ≡ Some (a, length (bytes_of a))
    two_bytes true h f =
        let k = ltb-true a 2048 f in
        let m = two_made a h k in
        rw (in_two a h k) (first_two _ _ n m.0 ∙ ap (λ x. Some (x, 2)) m.1)
    two_bytes false h f = three_bytes (ltb-false a 2048 f)

    one : (t : Bool) → ltb a 128 ≡ t → first_letter (bytes_of a ++ n) ≡ Some (a, length (bytes_of a))
    one true f = let h = ltb-true a 128 f in rw (in_one a h) (first_one a n h)
    one false f = two_bytes (ltb a 2048) (ltb-false a 128 f) refl

module _ (a : ℕ) (n : List ℕ) (e : is_letter a ≡ true) where
  pub letters_written : letters (bytes_of a ++ n) ≡ a ∷ letters n
  letters_written =
      (first_read (bytes_of a ++ n) a (length (bytes_of a)) (first_written a n e)).0
      ∙ ap (λ l. a ∷ letters l) (drop_at (bytes_of a) n (length (bytes_of a)) refl)

  pub unread_written : unread (bytes_of a ++ n) ≡ later (length (bytes_of a)) (unread n)
  unread_written =
      unread_read (bytes_of a ++ n) a (length (bytes_of a)) (first_written a n e)
      ∙ (cond-true (ltb a 65536) _ _ (lt-ltb a 65536 (letter_says a e).0)
      ∙ ap (λ l. later (length (bytes_of a)) (unread l)) (drop_at (bytes_of a) n (length (bytes_of a)) refl))

module _ (a : ℕ) (n : List ℕ) (s : Stuck a n) where
  pub letters_stuck : letters (a ∷ n) ≡ (65536 + a) ∷ letters n
  letters_stuck = (first_read (a ∷ n) (65536 + a) 1 s.1).0

  pub unread_stuck : unread (a ∷ n) ≡ Some 0
  unread_stuck = unread_read (a ∷ n) (65536 + a) 1 s.1 ∙ cond-false (ltb (65536 + a) 65536) _ _ (le-ltb (65536 + a) 65536 (omega arith))

-- at most as many letters as bytes
pub letters_few : (n : List ℕ) → length (letters n) ≤ length n
letters_few =
    by_letters (λ n. length (letters n) ≤ length n) (let e = ap length letters_none in omega arith)
    (λ a n e ih.
    let l = ap length (letters_written a n e) in
    let k = length-append (bytes_of a) n in
    let b = bytes_some a in
    omega arith)
    (λ a n s ih. let l = ap length (letters_stuck a n s) in omega arith)

-- a byte at which no letter can be read stays so with bytes behind it that begin a letter
still_stuck : (a : ℕ) (n ys : List ℕ) → begins_letter ys ≡ true → Stuck a n → first_letter (a ∷ (n ++ ys)) ≡ Some (65536 + a, 1)
unfolding first_letter
still_stuck a [] [] b s = s.1
still_stuck a [] (y ∷ []) b s = grind (arith, nat_tests, two_says)
still_stuck a [] (y ∷ (z ∷ ys)) b s = grind (arith, nat_tests, two_says, three_says)
still_stuck a (x ∷ []) [] b s = s.1
still_stuck a (x ∷ []) (y ∷ ys) b s = grind (arith, nat_tests, two_says, three_says)
still_stuck a (x ∷ (w ∷ n)) ys b s = s.1

pub parted : (xs ys : List ℕ) → begins_letter ys ≡ true → letters (xs ++ ys) ≡ letters xs ++ letters ys
parted xs ys b =
    by_letters (λ n. letters (n ++ ys) ≡ letters n ++ letters ys) (ap (λ l. l ++ letters ys) (sym letters_none))
    (λ a n e ih.
    ap letters (append_assoc (bytes_of a) n ys) ∙ (letters_written a (n ++ ys) e
    ∙ (ap (λ l. a ∷ l) ih ∙ ap (λ l. l ++ letters ys) (sym (letters_written a n e)))))
    (λ a n s ih.
    letters_stuck a (n ++ ys) (s.0, still_stuck a n ys b s)
    ∙ (ap (λ l. (65536 + a) ∷ l) ih ∙ ap (λ l. l ++ letters ys) (sym (letters_stuck a n s))))
    xs

-- bytes below 128 are letters as they stand
pub small : (n : List ℕ) → list_all (λ b. ltb b 128) n ≡ true → letters n ≡ n
small [] h = letters_none
small (a ∷ n) h =
    let p = and_parts (ltb a 128) (list_all (λ b. ltb b 128) n) h in
    (first_read (a ∷ n) a 1 (first_one a n (ltb-true a 128 p.0))).0 ∙ ap (λ l. a ∷ l) (small n p.1)
