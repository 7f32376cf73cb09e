-- What measuring and writing a key answer and leave.
use Rattle.std.specs.Prelude.{◌≡◌, ℕ, ◌-◌, ◌^◌, ◌<◌, ◌≤◌, min, cond, List, ◌++◌, length, map, drop, Some, None, Ok, Err, Option, Result, nat_lt}
use Rattle.table.specs.Rules.{Rules}
use Rattle.table.specs.declared.fault.Failure.{Failure}
use Rattle.table.specs.declared.fault.Failure.TheVariants.{Refused, NoMemory}
use Rattle.keys.specs.declared.fault.NameRefusal.{NameRefusal}
use Rattle.keys.specs.declared.sort_key.Short.{Short}
use Rattle.keys.specs.Refusals.{name_refusal}
use Rattle.keys.specs.Rows.{key}

-- a length as the machine holds it: where it is past what a usize holds, the largest one
abbrev pub saturated : ℕ → ℕ
saturated n = min n (2 ^ 64 - 1)

-- whether a key of k numbers fits into room of so many; else how many it needs
abbrev pub fits : (k room : ℕ) → Result Unit Short
fits k room = cond (nat_lt room k) (Err (record { needs = saturated k })) (Ok tt)

-- a key of which each number lies in room as so: written into its front, or, where nothing is answered, not
abbrev pub KeyIf : {X : Type 0} → (cell : ℕ → X) → (key : List ℕ) → (room : List X) → Option ℕ → (after : List X) → Type 0
KeyIf cell k room None after = after ≡ room
KeyIf cell k room (Some n) after = (n ≡ length k) × (after ≡ map cell k ++ drop n room)

-- a key written into room: it fits and stands in front, what is behind it being as it was; or it doesn't fit, and room is
-- as it was
abbrev pub Written : (key room : List ℕ) → Result ℕ Short → (after : List ℕ) → Type 0
Written k room (Ok n) after = (n ≡ length k) × (length k ≤ length room) × (after ≡ k ++ drop n room)
Written k room (Err short) after = (short.needs ≡ saturated (length k)) × (length room < length k) × (after ≡ room)

-- a key made in memory of its own, whose items are the key; or why not
abbrev pub Made : {V : Type 0} → Rules → (name : List ℕ) → (V → List ℕ) → Result V (Failure NameRefusal) → Type 0
Made t n items (Ok v) = (name_refusal t.utf8 n ≡ None) × (items v ≡ key t n)
Made t n items (Err (Refused why)) = name_refusal t.utf8 n ≡ Some why
Made t n items (Err NoMemory) = name_refusal t.utf8 n ≡ None
