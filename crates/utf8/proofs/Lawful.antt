-- What is promised of any bytes and their letters.
use Rattle.std.proofs.Common.{◌≡◌, ◌≢◌, ℕ, suc, ◌+◌, ◌<◌, ◌≤◌, Bool, true, false, ltb, List, [], ◌∷◌, ◌++◌, length, take, drop, Some, None, Option, refl, sym, ap, ◌∙◌, arith}
use Rattle.std.proofs.lemmas.Bool.{and_from, and_parts, ltb-false, ltb-true}
use Rattle.std.proofs.lemmas.List.{length-append}
use Rattle.utf8.specs.Laws.{ByRanges, FirstUnread, GivesBack, OneWay, ReadsAll, all_letters}
use Rattle.utf8.specs.Letters.{bytes_of, is_letter, written}
use Rattle.utf8.specs.Ranges.{are_letter, letter_of}
use Rattle.utf8.specs.Reading.{later, letters, unread}
use Rattle.utf8.proofs.Letters.{Stuck, by_letters, bytes_some, letters_none, letters_written, unread_none, unread_stuck, unread_written}
use Rattle.utf8.proofs.Numbers.{in_one, in_three, in_two, letter_holds, letter_says, three_back, three_letter, three_made, two_back, two_letter, two_made}

-- a letter's bytes are within the ranges, and are that letter
within_ranges : (a : ℕ) → is_letter a ≡ true → (are_letter (bytes_of a) ≡ true) × (letter_of (bytes_of a) ≡ a)
within_ranges a e = one (ltb a 128) refl
  where
    says : (a < 65536) × (55296 ≤ a → 57344 ≤ a)
    says = letter_says a e

    two_bytes : (t : Bool) → 128 ≤ a → ltb a 2048 ≡ t → (are_letter (bytes_of a) ≡ true) × (letter_of (bytes_of a) ≡ a)
    two_bytes true h f = let k = ltb-true a 2048 f in rw (in_two a h k) (two_made a h k)
    two_bytes false h f = let k = ltb-false a 2048 f in rw (in_three a k) (three_made a k says.0 says.1)

    one : (t : Bool) → ltb a 128 ≡ t → (are_letter (bytes_of a) ≡ true) × (letter_of (bytes_of a) ≡ a)
    one true f = let h = ltb-true a 128 f in rw (in_one a h) (f, refl)
    one false f = two_bytes (ltb a 2048) (ltb-false a 128 f) refl

-- bytes within them are a letter, and are how it is written
are_written : (n : List ℕ) → are_letter n ≡ true → (is_letter (letter_of n) ≡ true) × (bytes_of (letter_of n) ≡ n)
are_written [] e = cc
are_written (a ∷ []) e = let h = ltb-true a 128 e in (letter_holds a (omega arith) (λ k. omega arith), in_one a h)
are_written (a ∷ (b ∷ [])) e = (two_letter a b e, two_back a b e)
are_written (a ∷ (b ∷ (c ∷ []))) e = (three_letter a b c e, three_back a b c e)
are_written (a ∷ (b ∷ (c ∷ (d ∷ n)))) e = cc

pub by_ranges : ByRanges
by_ranges = (within_ranges, are_written)

-- a place counted from further left is one only where it was one
later_none : (k : ℕ) (o : Option ℕ) → later k o ≡ None → o ≡ None
later_none k None e = refl
later_none k (Some j) e = cc

later_not_first : (k : ℕ) (o : Option ℕ) → 0 < k → later k o ≡ Some 0 → ⊥
later_not_first k None h e = cc
later_not_first k (Some j) h e = let f : k + j ≡ 0 = cc in absurd (omega arith)

later_some : (k p : ℕ) (o : Option ℕ) → later k o ≡ Some p → (j : ℕ) × (o ≡ Some j) × (p ≡ k + j)
later_some k p None e = cc
later_some k p (Some j) e = (j, refl, cc)

pub gives_back : GivesBack
unfolding written
gives_back =
    by_letters (λ n. unread n ≡ None → (all_letters (letters n) ≡ true) × (written (letters n) ≡ n))
    (λ e. rw letters_none (refl, refl))
    (λ a n e ih f.
    let k = ih (later_none (length (bytes_of a)) (unread n) (sym (unread_written a n e) ∙ f)) in
    rw (letters_written a n e) (and_from (is_letter a) (all_letters (letters n)) e k.0, ap (λ l. bytes_of a ++ l) k.1))
    (λ a n s ih f. let g = unread_stuck a n s in cc)

read_written : (ls : List ℕ) → all_letters ls ≡ true → (unread (written ls) ≡ None) × (letters (written ls) ≡ ls)
unfolding written
read_written [] e = (unread_none, letters_none)
read_written (a ∷ ls) e =
    let p = and_parts (is_letter a) (all_letters ls) e in
    let k = read_written ls p.1 in
    (unread_written a (written ls) p.0 ∙ ap (later (length (bytes_of a))) k.0, letters_written a (written ls) p.0 ∙ ap (λ l. a ∷ l) k.1)

pub reads_all : ReadsAll
reads_all ls n e f = let k = read_written ls e in (ap unread (sym f) ∙ k.0, ap letters (sym f) ∙ k.1)

pub one_way : OneWay
one_way ls ms e f g = sym (read_written ls e).1 ∙ (ap letters g ∙ (read_written ms f).1)

-- places behind a first part
take_behind : (xs ys : List ℕ) (j : ℕ) → take (length xs + j) (xs ++ ys) ≡ xs ++ take j ys
take_behind [] ys j = let e : 0 + j ≡ j = omega arith in ap (λ k. take k ys) e
take_behind (x ∷ xs) ys j = let e : length (x ∷ xs) + j ≡ suc (length xs + j) = omega arith in ap (λ k. take k (x ∷ (xs ++ ys))) e ∙ ap (λ l. x ∷ l) (take_behind xs ys j)

drop_behind : (xs ys : List ℕ) (j : ℕ) → drop (length xs + j) (xs ++ ys) ≡ drop j ys
drop_behind [] ys j = let e : 0 + j ≡ j = omega arith in ap (λ k. drop k ys) e
drop_behind (x ∷ xs) ys j = let e : length (x ∷ xs) + j ≡ suc (length xs + j) = omega arith in ap (λ k. drop k (x ∷ (xs ++ ys))) e ∙ drop_behind xs ys j

abbrev FirstAt : List ℕ → Type 0
FirstAt n =
    (k : ℕ) → unread n ≡ Some k →
    (k < length n) × (unread (take k n) ≡ None)
    × ((a : ℕ) (rest : List ℕ) → is_letter a ≡ true → drop k n ≢ bytes_of a ++ rest)

pub first_unread : FirstUnread
first_unread = by_letters FirstAt none taken stuck
  where
    none : FirstAt []
    none k e = let f = unread_none in cc

    taken : (a : ℕ) (n : List ℕ) → is_letter a ≡ true → FirstAt n → FirstAt (bytes_of a ++ n)
    taken a n e ih k f =
        let s = later_some (length (bytes_of a)) k (unread n) (sym (unread_written a n e) ∙ f) in
        let j = s.0 in
        let i = ih j s.1 in
        let l = length-append (bytes_of a) n in
        let t = take_behind (bytes_of a) n j in
        let d = drop_behind (bytes_of a) n j in
        let q = s.2 in (
          omega (arith, i.0),
          ap (λ k. unread (take k (bytes_of a ++ n))) q ∙ (ap unread t ∙ (unread_written a (take j n) e ∙ ap (later (length (bytes_of a))) i.1)),
          λ b rest g h. i.2 b rest g (sym d ∙ (ap (λ k. drop k (bytes_of a ++ n)) (sym q) ∙ h)),
        )

    stuck : (a : ℕ) (n : List ℕ) → Stuck a n → FirstAt n → FirstAt (a ∷ n)
    stuck a n s ih k f =
        let z : k ≡ 0 = let g = unread_stuck a n s in cc in
        let u = unread_stuck a n s in (
          omega arith,
          ap (λ k. unread (take k (a ∷ n))) z ∙ unread_none,
          λ b rest g h.
              let whole : a ∷ n ≡ bytes_of b ++ rest = ap (λ k. drop k (a ∷ n)) (sym z) ∙ h in
              later_not_first (length (bytes_of b)) (unread rest) (bytes_some b) (sym (unread_written b rest g) ∙ (ap unread (sym whole) ∙ u)),
        )
