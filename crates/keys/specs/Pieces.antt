-- A name in pieces: what is read at once.
use Rattle.std.specs.Prelude.{ℕ, zero, suc, ◌-◌, Bool, cond, ◌&&◌, List, [], ◌∷◌, ◌++◌, length, nat_le, take}

-- the first k letters are there, and are one together
abbrev pub met : (joins : List ℕ → Bool) → (k : ℕ) → List ℕ → Bool
met joins k n = nat_le k (length n) && joins (take k n)

-- how many letters are taken at once at the front: as many as the longest run has that is met there; one letter where none is
abbrev pub taken : (joins : List ℕ → Bool) → List ℕ → ℕ
taken joins n = cond (met joins 4 n) 4 (cond (met joins 3 n) 3 (cond (met joins 2 n) 2 1))

-- A name is read from the left. At each letter so many are taken, and reading goes on behind them; the first letters that are left
-- may belong to a piece that was taken already: so many are passed over.
unfoldable pub pieces_behind : (joins : List ℕ → Bool) → (passed : ℕ) → List ℕ → List (List ℕ)
pieces_behind joins k [] = []
pieces_behind joins (suc k) (a ∷ n) = pieces_behind joins k n
pieces_behind joins zero (a ∷ n) = take (taken joins (a ∷ n)) (a ∷ n) ∷ pieces_behind joins (taken joins (a ∷ n) - 1) n

-- the pieces of letters
abbrev pub pieces : (joins : List ℕ → Bool) → List ℕ → List (List ℕ)
pieces joins n = pieces_behind joins 0 n

-- pieces put together again
unfoldable pub together : List (List ℕ) → List ℕ
together [] = []
together (p ∷ ps) = p ++ together ps
