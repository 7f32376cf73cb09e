-- Why names are turned away: which refusal, its number and its place.
use Rattle.std.specs.Prelude.{ℕ, Bool, cond, List, length, Some, None, Option, nat_lt}
use Rattle.std.specs.Option.{option_map, option_or}
use Rattle.keys.specs.declared.fault.NameRefusal.{NameRefusal}
use Rattle.keys.specs.declared.fault.NameRefusal.TheVariants.{NotUtf8, TooLong}
use Rattle.keys.specs.Letters.{letters_in, unread_in}

-- a name of more than 1,000 letters has the number 2, bytes that are none 5
abbrev pub name_refusal_number : NameRefusal → ℕ
name_refusal_number (TooLong k) = 2
name_refusal_number (NotUtf8 k) = 5

-- how many letters it has, or the byte at which none can be read
abbrev pub name_refusal_place : NameRefusal → ℕ
name_refusal_place (TooLong k) = k
name_refusal_place (NotUtf8 k) = k

-- the refusal of so many letters
abbrev pub length_refusal : ℕ → Option NameRefusal
length_refusal k = cond (nat_lt 1000 k) (Some (TooLong k)) None

-- the refusal of a name, the first in this order; None where it is taken
abbrev pub name_refusal : (utf8 : Bool) → List ℕ → Option NameRefusal
name_refusal utf8 n = option_or (option_map NotUtf8 (unread_in utf8 n)) (length_refusal (length (letters_in utf8 n)))
