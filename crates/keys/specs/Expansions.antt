-- Letters that weigh as others do one behind the other, and names in which they are written out.
use Rattle.std.specs.Prelude.{◌≡◌, ℕ, ◌+◌, ◌≤◌, ◌⊎◌, Bool, true, false, cond, List, [], ◌∷◌, ◌++◌, length, map, ◌==◌}
use Rattle.std.specs.List.{list_any}
use Rattle.table.specs.Rules.{Rules, triples}
use Rattle.keys.specs.declared.level.Level.TheVariants.{Primary}
use Rattle.keys.specs.Letters.{letters_in}
use Rattle.keys.specs.Rows.{on, row, weighed, without_zeros}

-- letters with these in place of each that is a
unfoldable pub written_out : (a : ℕ) → (ds : List ℕ) → List ℕ → List ℕ
written_out a ds [] = []
written_out a ds (x ∷ ls) = cond (x == a) (ds ++ written_out a ds ls) (x ∷ written_out a ds ls)

-- on level one, zeros left out, a letter weighs as these do one behind the other
abbrev pub WeighsAs : Rules → (a : ℕ) → (ds : List ℕ) → Type 0
WeighsAs t a ds = without_zeros (map (on Primary) (triples t (a ∷ []))) ≡ without_zeros (map (on Primary) (weighed t (map (λ d. d ∷ []) ds)))

-- a run that is one together is met in letters, with these in front of it and those behind
abbrev pub Met : (joins : List ℕ → Bool) → (letters before run after : List ℕ) → Type 0
Met joins ls before run after = (joins run ≡ true) × (ls ≡ before ++ (run ++ after))

-- no run that has the letter is met
abbrev pub HasNone : (joins : List ℕ → Bool) → (a : ℕ) → (letters : List ℕ) → Type 0
HasNone joins a ls = (before run after : List ℕ) → Met joins ls before run after → list_any (λ x. x == a) run ≡ false

-- wherever the letter stands: each run that is met in the letters written out ends in front of what is written in there, or begins
-- behind it
abbrev pub CoversNone : (joins : List ℕ → Bool) → (a : ℕ) → (ds : List ℕ) → (letters : List ℕ) → Type 0
CoversNone joins a ds ls =
    (front behind before run after : List ℕ) → ls ≡ front ++ (a ∷ behind) → Met joins (written_out a ds ls) before run after →
    (length before + length run ≤ length (written_out a ds front)) ⊎ (length (written_out a ds front) + length ds ≤ length before)

-- the second name is the first with each such letter written out, and no run stands in the way
pub record WrittenOut (t : Rules) (a : ℕ) (ds n m : List ℕ) : Type 0 where
  pub weighs_as : WeighsAs t a ds
  pub letters : letters_in t.utf8 m ≡ written_out a ds (letters_in t.utf8 n)
  pub has_none : HasNone t.joins a (letters_in t.utf8 n)
  pub covers_none : CoversNone t.joins a ds (letters_in t.utf8 n)

-- then both have the same first row, all such letters being written out at once
abbrev pub SameFirstRow : Type 0
SameFirstRow = (t : Rules) (a : ℕ) (ds n m : List ℕ) → WrittenOut t a ds n m → row Primary t m ≡ row Primary t n
