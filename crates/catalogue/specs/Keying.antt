-- Names' keys, one behind the other, and beside their numbers.
use Rattle.std.specs.Prelude.{◌≡◌, ℕ, ◌+◌, ◌<◌, ◌≤◌, All, List, length, map, slice_index_or}
use Rattle.std.specs.List.{range_with_len}
use Rattle.catalogue.specs.Lists.{name_of}
use Rattle.catalogue.specs.declared.names.arrange.Keyed.{Keyed}

-- Keys of n names, one behind the other, and where each begins, with the end behind.
pub record KeysLie (key_of : ℕ → List ℕ) (n : ℕ) (numbers bounds : List ℕ) : Type 0 where
  pub count : length bounds ≡ n + 1
  pub ends : slice_index_or bounds n 0 ≡ length numbers
  pub rises : (i : ℕ) → i < n → slice_index_or bounds i 0 ≤ slice_index_or bounds (i + 1) 0
  pub within : (i : ℕ) → i ≤ n → slice_index_or bounds i 0 ≤ length numbers
  pub each : (i : ℕ) → i < n → name_of numbers bounds i ≡ key_of i

-- its key is that of its number
abbrev pub HasKey : (key_of : ℕ → List ℕ) → Keyed → Type 0
HasKey key_of k = k.key.now ≡ key_of k.number

-- their numbers
abbrev pub numbers_of : List Keyed → List ℕ
numbers_of ks = map (λ (k : Keyed). k.number) ks

-- each has the key of its number, and the numbers are those from 0 on
pub record AreKeyed (key_of : ℕ → List ℕ) (n : ℕ) (ks : List Keyed) : Type 0 where
  pub keys : All (HasKey key_of) ks
  pub numbers : numbers_of ks ≡ range_with_len 0 n
