-- What is promised of names and their keys, beyond what the functions answer.
use Rattle.std.specs.Prelude.{◌≡◌, ℕ, ◌+◌, ◌*◌, ◌<◌, ◌≤◌, ◌⊎◌, Bool, true, false, cond, nat_lt, List, [], ◌∷◌, ◌++◌, length, drop, map, codes, slice_index_or}
use Rattle.std.specs.List.{list_all}
use Rattle.table.specs.declared.view.Table.{Table}
use Rattle.table.specs.Meaning.{expansions_of, rules_of}
use Rattle.table.specs.Rules.{Rules, rules_in, triples}
use Rattle.table.specs.Valley.{valley}
use Rattle.keys.specs.declared.level.Level.{Level}
use Rattle.keys.specs.Expansions.{SameFirstRow}
use Rattle.keys.specs.Letters.{letters_in}
use Rattle.keys.specs.Pieces.{pieces, together}
use Rattle.keys.specs.Rows.{key, on, row, weight, without_zeros}

-- a piece is one letter, or a run that is one together
abbrev pub IsPiece : (joins : List ℕ → Bool) → List ℕ → Type 0
IsPiece joins p = (length p ≡ 1) ⊎ (joins p ≡ true)

-- A name's letters in pieces, in words that do not go by how they are found. The pieces put together again are the letters; each
-- is a letter, or a run that is one together; and where it begins no longer run begins that is one together.
pub record Reads (joins : List ℕ → Bool) (n : List ℕ) (ps : List (List ℕ)) : Type 0 where
  pub whole : together ps ≡ n
  pub each : (k : ℕ) → k < length ps → IsPiece joins (slice_index_or ps k [])
  pub longest : (k : ℕ) → k < length ps → (run rest : List ℕ) → joins run ≡ true → together (drop k ps) ≡ run ++ rest → length run ≤ length (slice_index_or ps k [])

-- only two, three or four letters are one together
abbrev pub RunsFit : (joins : List ℕ → Bool) → Type 0
RunsFit joins = (run : List ℕ) → joins run ≡ true → (2 ≤ length run) × (length run ≤ 4)

-- then the pieces of letters are such a reading, and there is no other
abbrev pub OneReading : Type 0
OneReading =
    (joins : List ℕ → Bool) (n : List ℕ) → RunsFit joins →
    Reads joins n (pieces joins n) × ((ps : List (List ℕ)) → Reads joins n ps → ps ≡ pieces joins n)

-- two ways to cut a name that both are such readings are the same
abbrev pub SameReading : Type 0
SameReading = (joins : List ℕ → Bool) (n : List ℕ) (ps qs : List (List ℕ)) → RunsFit joins → Reads joins n ps → Reads joins n qs → ps ≡ qs

-- how many numbers a piece gives a row at the most
abbrev pub Narrow : (most : ℕ) → Rules → Type 0
Narrow most t = (l : Level) (p : List ℕ) → length (without_zeros (map (on l) (triples t p))) ≤ most

-- one where no letter expands, and else three
abbrev pub most_triples : Table → ℕ
most_triples t = cond (nat_lt 0 (length (expansions_of t))) 3 1

abbrev pub TablesNarrow : Type 0
TablesNarrow = (t : Table) → Narrow (most_triples t) (rules_of t)

-- all this is so under every table
abbrev pub TablesFit : Type 0
TablesFit = (t : Table) → RunsFit (rules_of t).joins

-- only two letters are one together
abbrev pub OnlyPairs : (joins : List ℕ → Bool) → Type 0
OnlyPairs joins = (run : List ℕ) → joins run ≡ true → length run ≡ 2

-- names read where only pairs are looked for: two letters that are one are taken so where they are met, else one letter
unfoldable pub pair_pieces : (joins : List ℕ → Bool) → List ℕ → List (List ℕ)
pair_pieces joins [] = []
pair_pieces joins (a ∷ []) = (a ∷ []) ∷ []
pair_pieces joins (a ∷ (b ∷ xs)) =
    cond (joins (a ∷ (b ∷ []))) ((a ∷ (b ∷ [])) ∷ pair_pieces joins xs) ((a ∷ []) ∷ pair_pieces joins (b ∷ xs))

-- no letter expands
abbrev pub NoneExpands : Rules → Type 0
NoneExpands t = (p : List ℕ) → t.expands p ≡ []

-- a table without expansions reads every name so: a row has one weight for each piece, but for zeros
abbrev pub PlainRead : Type 0
PlainRead = (l : Level) (t : Rules) (n : List ℕ) → NoneExpands t → row l t n ≡ without_zeros (map (weight l t) (pieces t.joins (letters_in t.utf8 n)))

-- one that has only pairs, too, reads every name so, and so do all tables that are lent as numbers
pub record PairsRead : Type 0 where
  pub read : (joins : List ℕ → Bool) (n : List ℕ) → OnlyPairs joins → pieces joins n ≡ pair_pieces joins n
  pub rows : (l : Level) (t : Rules) (n : List ℕ) → OnlyPairs t.joins → NoneExpands t → row l t n ≡ without_zeros (map (weight l t) (pair_pieces t.joins (letters_in t.utf8 n)))
  pub lent : (ls ps : List ℕ) (n : ℕ) → OnlyPairs (rules_in ls ps n).joins × NoneExpands (rules_in ls ps n)

-- numbers none of which is 0
abbrev pub ZeroFree : List ℕ → Type 0
ZeroFree [] = Unit {0}
ZeroFree (x ∷ xs) = (0 < x) × ZeroFree xs

-- no 0 stands in a row
abbrev pub RowsZeroFree : Type 0
RowsZeroFree = (l : Level) (t : Rules) (n : List ℕ) → ZeroFree (row l t n)

-- a row has at most so many numbers for each letter, a key three times as many and the two between, and a name no more letters than
-- bytes
abbrev pub KeysShort : Type 0
KeysShort =
    (most : ℕ) (t : Rules) (n : List ℕ) → Narrow most t →
    ((l : Level) → length (row l t n) ≤ most * length (letters_in t.utf8 n))
    × (length (key t n) ≤ 3 * most * length (letters_in t.utf8 n) + 2) × (length (letters_in t.utf8 n) ≤ length n)

-- letters below 128, which are one byte in UTF-8 too
abbrev pub all_small : List ℕ → Bool
all_small n = list_all (λ a. nat_lt a 128) n

-- On names of such letters a table of names in UTF-8 and a table of bytes give the same key, where both join the same runs of
-- these letters, and weigh letters and runs of them alike, and these letters expand alike.
abbrev pub SameKeys : Type 0
SameKeys =
    (t u : Rules) (n : List ℕ) → t.utf8 ≡ true → u.utf8 ≡ false → all_small n ≡ true →
    ((run : List ℕ) → all_small run ≡ true → (t.joins run ≡ u.joins run) × (t.weighs run ≡ u.weighs run) × (t.expands run ≡ u.expands run)) → key t n ≡ key u n

-- four keys under the valley's table
abbrev pub KeyOfCab : Type 0
KeyOfCab = key valley (codes "cab") ≡ 30 ∷ (10 ∷ (20 ∷ (0 ∷ (1 ∷ (1 ∷ (1 ∷ (0 ∷ (1 ∷ (1 ∷ (1 ∷ []))))))))))

abbrev pub KeyOfChad : Type 0
KeyOfChad = key valley (codes "chad") ≡ 35 ∷ (10 ∷ (40 ∷ (0 ∷ (1 ∷ (1 ∷ (1 ∷ (0 ∷ (1 ∷ (1 ∷ (1 ∷ []))))))))))

-- a large letter differs on the third level alone
abbrev pub KeyOfLarge : Type 0
KeyOfLarge = key valley (codes "Cab") ≡ 30 ∷ (10 ∷ (20 ∷ (0 ∷ (1 ∷ (1 ∷ (1 ∷ (0 ∷ (2 ∷ (1 ∷ (1 ∷ []))))))))))

-- a mark does not count on the first level, and what is behind it does
abbrev pub KeyOfMarked : Type 0
KeyOfMarked = key valley (codes "c'ab") ≡ 30 ∷ (10 ∷ (20 ∷ (0 ∷ (1 ∷ (2 ∷ (1 ∷ (1 ∷ (0 ∷ (1 ∷ (1 ∷ (1 ∷ (1 ∷ []))))))))))))

-- all of these
pub record Laws : Type 0 where
  pub one_reading : OneReading
  pub same_reading : SameReading
  pub tables_fit : TablesFit
  pub tables_narrow : TablesNarrow
  pub plain_read : PlainRead
  pub same_first_row : SameFirstRow
  pub pairs_read : PairsRead
  pub rows_zero_free : RowsZeroFree
  pub keys_short : KeysShort
  pub same_keys : SameKeys
  pub key_of_cab : KeyOfCab
  pub key_of_chad : KeyOfChad
  pub key_of_large : KeyOfLarge
  pub key_of_marked : KeyOfMarked
