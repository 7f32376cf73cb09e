-- What is promised of bytes and the letters that they are read as, beyond what the functions answer.
use Rattle.std.specs.Prelude.{◌≡◌, ◌≢◌, ℕ, ◌<◌, Bool, true, List, ◌++◌, length, take, drop, Some, None, nat_lt}
use Rattle.std.specs.List.{list_all}
use Rattle.utf8.specs.Letters.{bytes_of, is_letter, written}
use Rattle.utf8.specs.Ranges.{are_letter, letter_of}
use Rattle.utf8.specs.Reading.{begins_letter, letters, unread}

-- each is a letter
abbrev pub all_letters : List ℕ → Bool
all_letters ls = list_all is_letter ls

-- The published ranges say just how letters are written: a letter's bytes are within them and are that letter; and bytes within
-- them are a letter, and are how it is written.
abbrev pub ByRanges : Type 0
ByRanges =
    ((a : ℕ) → is_letter a ≡ true → (are_letter (bytes_of a) ≡ true) × (letter_of (bytes_of a) ≡ a))
    × ((n : List ℕ) → are_letter n ≡ true → (is_letter (letter_of n) ≡ true) × (bytes_of (letter_of n) ≡ n))

-- Where a letter can be read everywhere, bytes are read as letters that are written so.
abbrev pub GivesBack : Type 0
GivesBack = (n : List ℕ) → unread n ≡ None → (all_letters (letters n) ≡ true) × (written (letters n) ≡ n)

-- Where a row of letters is written so, it can be read everywhere, and as that row.
abbrev pub ReadsAll : Type 0
ReadsAll = (ls n : List ℕ) → all_letters ls ≡ true → written ls ≡ n → (unread n ≡ None) × (letters n ≡ ls)

-- Two rows of letters are not written the same.
abbrev pub OneWay : Type 0
OneWay = (ls ms : List ℕ) → all_letters ls ≡ true → all_letters ms ≡ true → written ls ≡ written ms → ls ≡ ms

-- At the first place at which no letter can be read stands a byte; all bytes before it are letters; and what stands from there on
-- begins with no letter.
abbrev pub FirstUnread : Type 0
FirstUnread =
    (n : List ℕ) (k : ℕ) → unread n ≡ Some k →
    (k < length n) × (unread (take k n) ≡ None)
    × ((a : ℕ) (rest : List ℕ) → is_letter a ≡ true → drop k n ≢ bytes_of a ++ rest)

-- Bytes may be read in two parts, wherever the second begins with no byte that stands behind the first of a letter.
abbrev pub Parted : Type 0
Parted = (xs ys : List ℕ) → begins_letter ys ≡ true → letters (xs ++ ys) ≡ letters xs ++ letters ys

-- Bytes below 128 are letters as they stand.
abbrev pub Small : Type 0
Small = (n : List ℕ) → list_all (λ b. nat_lt b 128) n ≡ true → letters n ≡ n

-- all of these
pub record Laws : Type 0 where
  pub by_ranges : ByRanges
  pub gives_back : GivesBack
  pub reads_all : ReadsAll
  pub one_way : OneWay
  pub first_unread : FirstUnread
  pub parted : Parted
  pub small : Small
