-- Names as letters.
use Rattle.std.specs.Prelude.{ℕ, Bool, true, false, not, ◌||◌, nat_lt, List, [], ◌∷◌, drop, length, Some, None, Ok, Err, Option, Result, ◌≡◌}
use denote.Ref.{Bor}
use Rattle.utf8.specs.Reading.{begins_letter, first_letter, letters, unread}

-- The letters of a name: as UTF-8 has them, or each byte is one. Where no letter can be read at a byte, it counts as one that no
-- table has.
unfoldable pub letters_in : (utf8 : Bool) → List ℕ → List ℕ
letters_in true n = letters n
letters_in false n = n

-- a byte is a letter by itself
abbrev pub one_byte : (utf8 : Bool) → ℕ → Bool
one_byte utf8 b = nat_lt b 128 || not utf8

-- the first letter, and how many bytes it takes; none of no bytes
unfoldable pub first_in : (utf8 : Bool) → List ℕ → Option (ℕ × ℕ)
first_in true n = first_letter n
first_in false [] = None
first_in false (a ∷ n) = Some (a, 1)

-- the first letter and what is behind it, where there is one
abbrev pub Split : (utf8 : Bool) → List ℕ → Option (ℕ × Bor (List ℕ)) → Type 0
Split utf8 n None = first_in utf8 n ≡ None
Split utf8 n (Some (a, rest)) = (k : ℕ) × (first_in utf8 n ≡ Some (a, k)) × (rest.now ≡ drop k n)

-- a letter may begin with the first byte, whatever stands in front
abbrev pub begins_in : (utf8 : Bool) → List ℕ → Bool
begins_in true n = begins_letter n
begins_in false n = true

-- the place of the first byte at which no letter can be read; each byte is a letter where names are not in UTF-8
unfoldable pub unread_in : (utf8 : Bool) → List ℕ → Option ℕ
unread_in true n = unread n
unread_in false n = None

-- how many letters a name has; or the first place at which none can be read
abbrev pub CountedIn : (utf8 : Bool) → List ℕ → Result ℕ ℕ → Type 0
CountedIn utf8 n (Ok count) = (unread_in utf8 n ≡ None) × (count ≡ length (letters_in utf8 n))
CountedIn utf8 n (Err place) = unread_in utf8 n ≡ Some place
