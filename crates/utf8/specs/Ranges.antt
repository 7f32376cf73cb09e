-- Which bytes are a letter, by their ranges as published.
use Rattle.std.specs.Prelude.{ℕ, ◌+◌, ◌-◌, ◌*◌, Bool, false, ◌&&◌, ◌||◌, List, [], ◌∷◌, ◌==◌, nat_le, nat_lt}

-- from lo to hi
abbrev pub within : (lo hi : ℕ) → ℕ → Bool
within lo hi b = nat_le lo b && nat_le b hi

-- a byte that stands behind the first of a letter: 80 to BF
abbrev pub follows : ℕ → Bool
follows b = within 128 191 b

-- two bytes are a letter: C2 to DF, 80 to BF
unfoldable pub two : ℕ → ℕ → Bool
two a b = within 194 223 a && follows b

-- three are: E0, A0 to BF, 80 to BF; or E1 to EC or EE to EF, 80 to BF, 80 to BF; or ED, 80 to 9F, 80 to BF
unfoldable pub three : ℕ → ℕ → ℕ → Bool
three a b c =
    (((a == 224) && (within 160 191 b && follows c))
    || ((within 225 236 a || within 238 239 a) && (follows b && follows c)))
    || ((a == 237) && (within 128 159 b && follows c))

-- the letter that two bytes are, and that three are
abbrev pub of_two : ℕ → ℕ → ℕ
of_two a b = (a - 192) * 64 + (b - 128)

abbrev pub of_three : ℕ → ℕ → ℕ → ℕ
of_three a b c = (a - 224) * 4096 + ((b - 128) * 64 + (c - 128))

-- bytes are one letter; one byte is below 128 (00 to 7F)
abbrev pub are_letter : List ℕ → Bool
are_letter [] = false
are_letter (a ∷ []) = nat_lt a 128
are_letter (a ∷ (b ∷ [])) = two a b
are_letter (a ∷ (b ∷ (c ∷ []))) = three a b c
are_letter (a ∷ (b ∷ (c ∷ (d ∷ n)))) = false

-- and which
abbrev pub letter_of : List ℕ → ℕ
letter_of [] = 0
letter_of (a ∷ []) = a
letter_of (a ∷ (b ∷ [])) = of_two a b
letter_of (a ∷ (b ∷ (c ∷ n))) = of_three a b c
