-- Letters, and how each is written in bytes.
use Rattle.std.specs.Prelude.{ℕ, ◌+◌, ◌/◌, ◌%◌, Bool, not, ◌&&◌, cond, List, [], ◌∷◌, ◌++◌, nat_le, nat_lt}

-- A letter is a number below 65,536 that is no surrogate: none from 55,296 (D800) to 57,343 (DFFF).
abbrev pub is_letter : ℕ → Bool
is_letter a = nat_lt a 65536 && not (nat_le 55296 a && nat_lt a 57344)

-- how it is written: in one byte below 128, in two below 2,048, else in three; each byte but the first has six bits of it
unfoldable pub bytes_of : ℕ → List ℕ
bytes_of a =
    cond (nat_lt a 128) (a ∷ [])
    (cond (nat_lt a 2048) ((192 + a / 64) ∷ ((128 + a % 64) ∷ []))
    ((224 + a / 4096) ∷ ((128 + a / 64 % 64) ∷ ((128 + a % 64) ∷ []))))

-- a row of letters in bytes: those of each, one behind the other
unfoldable pub written : List ℕ → List ℕ
written [] = []
written (a ∷ ls) = bytes_of a ++ written ls
