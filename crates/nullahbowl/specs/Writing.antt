-- What is written.
use Rattle.std.specs.Prelude.{ℕ, zero, suc, ◌-◌, ◌^◌, cond, decimal, length, take, List, [], ◌∷◌, ◌++◌}
use Rattle.std.specs.List.{flat_map}
use Rattle.std.specs.Option.{unwrap_or}
use Rattle.nullahbowl.specs.declared.argument.Options.{Options}
use Rattle.table.specs.Rules.{Rules, letter_triples}
use Rattle.pieces.specs.Runs.{counts_some}
use Rattle.pieces.specs.declared.piece.LetterEntry.{LetterEntry}
use Rattle.pieces.specs.declared.piece.Long as long
use Rattle.pieces.specs.declared.piece.Pair as pair
use Rattle.texts.specs.Written.{entry_text}
use Rattle.texts.specs.declared.line.Entry.{Entry}
use Rattle.texts.specs.declared.line.Entry.TheVariants.{Letter, Long, Pair}

-- names, each with a line feed behind it
unfoldable pub lines_of : List (List ℕ) → List ℕ
lines_of [] = []
lines_of (n ∷ ns) = n ++ 10 ∷ lines_of ns

-- of names that are found: how many there are, and a line feed; or the first of them, as many as a `usize` counts where no limit is
-- given
abbrev pub found_text : Options → List (List ℕ) → List ℕ
found_text o ns = cond o.count (decimal (length ns) ++ 10 ∷ []) (lines_of (take (unwrap_or o.first (2 ^ 64 - 1)) ns))

-- an entry as the line that says it
abbrev pub entry_line : Entry → List ℕ
entry_line e = entry_text e ++ 10 ∷ []

-- the line of a letter, if it weighs something
abbrev pub letter_line : LetterEntry → List ℕ
letter_line e = cond (counts_some e.weights) (entry_line (Letter e)) []

-- the first n letters of a table that weigh something, in the order of their numbers, each as its line
unfoldable pub letters_text : Rules → (n : ℕ) → List ℕ
letters_text t zero = []
letters_text t (suc n) = letters_text t n ++ letter_line (record { letter = n; weights = letter_triples t n })

-- pairs, each as its line
abbrev pub pairs_text : List pair.Pair → List ℕ
pairs_text ps = flat_map (λ p. entry_line (Pair p)) ps

-- longer runs, each as its line
abbrev pub longs_text : List long.Long → List ℕ
longs_text es = flat_map (λ e. entry_line (Long e)) es

-- a table as the lines that make it: all letters that weigh something, then its pairs, as they lie, and then its longer runs
abbrev pub table_text : Rules → List pair.Pair → List long.Long → List ℕ
table_text t ps es = letters_text t 65536 ++ (pairs_text ps ++ longs_text es)
