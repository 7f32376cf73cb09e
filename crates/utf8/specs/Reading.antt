-- Bytes read from the left, letter by letter.
use Rattle.std.specs.Prelude.{◌≡◌, ℕ, ◌+◌, Bool, true, not, cond, List, [], ◌∷◌, length, Some, None, Ok, Err, Option, Result, nat_lt}
use Rattle.utf8.specs.Ranges.{follows, of_three, of_two, three, two}

-- What one byte taken alone is read as: below 128 a letter. Else no letter can be read there, and it is read as 65,536 and the
-- byte, which is no letter.
abbrev pub alone : ℕ → ℕ
alone a = cond (nat_lt a 128) a (65536 + a)

-- What bytes are read as, whichever they are. Two or three bytes that are a letter are taken so where they are met, and reading
-- goes on behind them; else one byte is taken.
unfoldable pub letters : List ℕ → List ℕ
letters [] = []
letters (a ∷ []) = alone a ∷ []
letters (a ∷ (b ∷ [])) = cond (two a b) (of_two a b ∷ []) (alone a ∷ letters (b ∷ []))
letters (a ∷ (b ∷ (c ∷ n))) =
    cond (two a b) (of_two a b ∷ letters (c ∷ n))
    (cond (three a b c) (of_three a b c ∷ letters n) (alone a ∷ letters (b ∷ (c ∷ n))))

-- the first letter read so, and how many bytes it takes; None of no bytes
unfoldable pub first_letter : List ℕ → Option (ℕ × ℕ)
first_letter [] = None
first_letter (a ∷ []) = Some (alone a, 1)
first_letter (a ∷ (b ∷ [])) = Some (cond (two a b) (of_two a b, 2) (alone a, 1))
first_letter (a ∷ (b ∷ (c ∷ n))) = Some (cond (two a b) (of_two a b, 2) (cond (three a b c) (of_three a b c, 3) (alone a, 1)))

-- a place counted from k bytes further left
abbrev pub later : (k : ℕ) → Option ℕ → Option ℕ
later k None = None
later k (Some place) = Some (k + place)

-- the place of the first byte at which no letter can be read, counted from 0; None where all is letters
unfoldable pub unread : List ℕ → Option ℕ
unread [] = None
unread (a ∷ []) = cond (nat_lt a 128) None (Some 0)
unread (a ∷ (b ∷ [])) = cond (two a b) None (cond (nat_lt a 128) (later 1 (unread (b ∷ []))) (Some 0))
unread (a ∷ (b ∷ (c ∷ n))) =
    cond (two a b) (later 2 (unread (c ∷ n)))
    (cond (three a b c) (later 3 (unread n)) (cond (nat_lt a 128) (later 1 (unread (b ∷ (c ∷ n)))) (Some 0)))

-- a letter may begin with the first byte: it is none that stands behind the first of a letter
abbrev pub begins_letter : List ℕ → Bool
begins_letter [] = true
begins_letter (b ∷ n) = not (follows b)

-- how many letters bytes are; or the first place at which none can be read
abbrev pub Counted : List ℕ → Result ℕ ℕ → Type 0
Counted n (Ok count) = (unread n ≡ None) × (count ≡ length (letters n))
Counted n (Err place) = unread n ≡ Some place
