-- Numbers and letters as they are written in a line.
use Rattle.std.specs.Prelude.{ℕ, ◌+◌, ◌-◌, ◌*◌, Bool, true, cond, ◌&&◌, List, [], ◌∷◌, length, drop, Some, None, Option, ◌==◌, nat_le, nat_lt, slice_index}
use Rattle.std.specs.Char.{is_ascii_digit, is_digit}
use Rattle.std.specs.List.{list_all}
use Rattle.std.specs.Str.Parse.{digits_value}
use Rattle.utf8.specs.Ranges.{are_letter}
use Rattle.utf8.specs.Ranges as utf8

-- nothing but digits
unfoldable pub all_digits : List ℕ → Bool
all_digits [] = true
all_digits (x ∷ xs) = is_ascii_digit x && all_digits xs

-- the value of n and then these digits
unfoldable pub value : ℕ → List ℕ → ℕ
value n [] = n
value n (x ∷ xs) = value (10 * n + (x - 48)) xs

-- a number up to 65,535: one digit or more, and nothing else
abbrev pub number_of : List ℕ → Option ℕ
number_of w = cond (nat_lt 0 (length w) && (all_digits w && nat_le (value 0 w) 65535)) (Some (value 0 w)) None

-- the number of four to six hexadecimal digits, of either case
abbrev pub hex_of : List ℕ → Option ℕ
hex_of d = cond ((nat_le 4 (length d) && nat_le (length d) 6) && list_all (λ x. is_digit x 16) d) (Some (digits_value 16 d)) None

-- the letter that bytes are, all of them
abbrev pub one_letter : List ℕ → Option ℕ
one_letter w = cond (are_letter w) (Some (utf8.letter_of w)) None

-- a letter: written as itself, or by its number as U+ and four to six hexadecimal digits
unfoldable pub letter_of : List ℕ → Option ℕ
letter_of w = cond (slice_index w 0 == 85 && slice_index w 1 == 43) (hex_of (drop 2 w)) (one_letter w)
