-- What is promised of tables, in words that do not go by how they are checked. Which of several faults is told is said by
-- `refusal_of` alone.
use Rattle.std.specs.Prelude.{◌≡◌, ℕ, ◌+◌, ◌*◌, ◌<◌, ◌≤◌, Bool, true, false, List, [], ◌∷◌, ◌++◌, ◌⊎◌, length, Some, None}
use Rattle.std.specs.List.{slice_get}
use Rattle.table.specs.declared.fault.Refusal.TheVariants.{Foreign, Twice}
use Rattle.pieces.specs.declared.piece.Expansion.{Expansion}
use Rattle.pieces.specs.declared.piece.Letter.{Letter}
use Rattle.pieces.specs.declared.piece.LetterEntry.{LetterEntry}
use Rattle.pieces.specs.declared.piece.Long.{Long}
use Rattle.pieces.specs.declared.piece.Pair.{Pair}
use Rattle.pieces.specs.declared.piece.Run.{Run}
use Rattle.table.specs.declared.buffer.TableBuf.{TableBuf}
use Rattle.table.specs.declared.view.Table.{Table}
use Rattle.table.specs.Buffer.{EntryIn, LongIn, PairIn, buffer_letters, buffer_rules, buffer_runs, letter_refusal, long_refusal, pair_refusal}
use Rattle.table.specs.Meaning.{expansions_of, letters_of, longs_of, pairs_of, rules_of}
use Rattle.table.specs.Numbers.{first_at, second_at, numbers_of, pairs_in}
use Rattle.pieces.specs.Runs.{counts, expanded, long_letters, nothing, weights_at}
use Rattle.table.specs.Records.{IsOf, records_refusal}
use Rattle.table.specs.Refusals.{known_long, last_letter, refusal_of}
use Rattle.table.specs.Entries.{is_expansion, is_other}
use Rattle.table.specs.Rules.{contraction, no_rules, rules_in}
use Rattle.table.specs.Valley.{valley, valley_list, valley_pair, valley_pairs}

-- the pairs at places j and k are of the same two letters
abbrev pub SamePair : List ℕ → ℕ → ℕ → Type 0
SamePair ps j k = (first_at ps j ≡ first_at ps k) × (second_at ps j ≡ second_at ps k)

-- the letters of the pair at place k are not above the last that a pair may have: 255, or of names in UTF-8 65,535
abbrev pub KnownPair : (utf8 : Bool) → List ℕ → ℕ → Type 0
KnownPair utf8 ps k = (first_at ps k ≤ last_letter utf8) × (second_at ps k ≤ last_letter utf8)

-- numbers are a table of bytes: 768 weights, five numbers for each of at most 200 pairs, of known letters, none there twice
pub record IsTable (ls ps : List ℕ) (n : ℕ) : Type 0 where
  pub whole : length ls ≡ 768
  pub fives : length ps ≡ 5 * n
  pub few : n ≤ 200
  pub known : (k : ℕ) → k < n → KnownPair false ps k
  pub apart : (j k : ℕ) → j < k → k < n → SamePair ps j k → ⊥

-- numbers are taken exactly if they are a table
abbrev pub ExactlyTables : Type 0
ExactlyTables = (ls ps : List ℕ) (n : ℕ) → (refusal_of ls ps n ≡ None → IsTable ls ps n) × (IsTable ls ps n → refusal_of ls ps n ≡ None)

-- the place of a foreign pair is that of the first one
abbrev pub FirstForeign : Type 0
FirstForeign =
    (ls ps : List ℕ) (n k : ℕ) → refusal_of ls ps n ≡ Some (Foreign k) →
    (k < n) × (KnownPair false ps k → ⊥) × ((j : ℕ) → j < k → KnownPair false ps j)

-- the place of a pair that is there twice is that of the first one that equals an earlier one, where all letters are known
abbrev pub FirstTwice : Type 0
FirstTwice =
    (ls ps : List ℕ) (n k : ℕ) → refusal_of ls ps n ≡ Some (Twice k) →
    (k < n) × ((i : ℕ) × (i < k) × SamePair ps i k) × ((i j : ℕ) → i < j → j < k → SamePair ps i j → ⊥) × ((j : ℕ) → j < n → KnownPair false ps j)

-- in a table just its pairs are one together, and each weighs what stands behind its letters
abbrev pub JustPairs : Type 0
JustPairs =
    (ls ps : List ℕ) (n : ℕ) → IsTable ls ps n →
    ((k : ℕ) → k < n →
    ((rules_in ls ps n).joins (first_at ps k ∷ (second_at ps k ∷ [])) ≡ true)
    × ((rules_in ls ps n).weighs (first_at ps k ∷ (second_at ps k ∷ [])) ≡ weights_at ps (5 * k + 2)))
    × ((run : List ℕ) → (rules_in ls ps n).joins run ≡ true → (k : ℕ) × (k < n) × (run ≡ first_at ps k ∷ (second_at ps k ∷ [])))

-- under a table of bytes a letter weighs what stands at its place, there are no others, and none expands
abbrev pub LettersWeigh : Type 0
LettersWeigh =
    (ls ps : List ℕ) (n a : ℕ) →
    (a < 256 → (rules_in ls ps n).weighs (a ∷ []) ≡ weights_at ls (3 * a)) × (256 ≤ a → (rules_in ls ps n).weighs (a ∷ []) ≡ nothing)
    × ((rules_in ls ps n).expands (a ∷ []) ≡ [])

-- The numbers that a table holds: 768 weights; entries of other letters, each of a letter above 255 that weighs something, and
-- above those in front of it, and none where names are bytes; letters that weigh as two or three, each above those in front of it,
-- one of whose triples counts, and which weigh nothing themselves; and five numbers for each pair, and longer runs, at most 200 in
-- all, of known letters, none there twice.
pub record Holds (t : Table) : Type 0 where
  pub whole : length t.letters.now ≡ 768
  pub others : (k : ℕ) (e : Letter) → slice_get t.others.now k ≡ Some e → is_other e ≡ true
  pub rise : (j k : ℕ) (e f : Letter) → j < k → slice_get t.others.now j ≡ Some e → slice_get t.others.now k ≡ Some f → e.letter < f.letter
  pub bytes : t.utf8 ≡ false → t.others.now ≡ []
  pub expansions : (k : ℕ) (e : Expansion) → slice_get t.expansions.now k ≡ Some e → is_expansion t.utf8 t.letters.now t.others.now e ≡ true
  pub climb : (j k : ℕ) (e f : Expansion) → j < k → slice_get t.expansions.now j ≡ Some e → slice_get t.expansions.now k ≡ Some f → e.letter < f.letter
  pub fives : length t.pairs.numbers.now ≡ 5 * t.pairs.count
  pub few : t.pairs.count + length t.longs.now ≤ 200
  pub known : (k : ℕ) → k < t.pairs.count → KnownPair t.utf8 t.pairs.numbers.now k
  pub apart : (j k : ℕ) → j < k → k < t.pairs.count → SamePair t.pairs.numbers.now j k → ⊥
  pub long_known : (k : ℕ) (e : Long) → slice_get t.longs.now k ≡ Some e → known_long t.utf8 e ≡ true
  pub long_apart : (j k : ℕ) (e f : Long) → j < k → slice_get t.longs.now j ≡ Some e → slice_get t.longs.now k ≡ Some f → e.run ≡ f.run → ⊥

-- whoever holds a table holds such numbers, and they are a table of bytes where names are bytes
abbrev pub HeldAreTables : Type 0
HeldAreTables = (t : Table) → Holds t × (t.utf8 ≡ false → IsTable t.letters.now t.pairs.numbers.now t.pairs.count)

-- the letters that a table lists weigh what is listed with them, and no other letter weighs anything itself
abbrev pub LettersListed : Type 0
LettersListed =
    (t : Table) →
    ((k : ℕ) (e : Letter) → slice_get (letters_of t) k ≡ Some e → (rules_of t).weighs (e.letter ∷ []) ≡ e.weights)
    × ((a : ℕ) → counts ((rules_of t).weighs (a ∷ [])) ≡ true → (k : ℕ) × (e : Letter) × (slice_get (letters_of t) k ≡ Some e) × (e.letter ≡ a))

-- a letter that a table lists as one that weighs as two or three expands to what is listed with it, and weighs nothing itself; and
-- nothing else expands
pub record ExpansionsListed (t : Table) : Type 0 where
  pub each : (k : ℕ) (e : Expansion) → slice_get (expansions_of t) k ≡ Some e →
      ((rules_of t).expands (e.letter ∷ []) ≡ expanded e.weights) × (counts ((rules_of t).weighs (e.letter ∷ [])) ≡ false)
  pub no_others : (p : List ℕ) → 0 < length ((rules_of t).expands p) → (k : ℕ) × (e : Expansion) × (slice_get (expansions_of t) k ≡ Some e) × (p ≡ e.letter ∷ [])

-- a run is that of a pair that a table lists, or of a longer run
abbrev pub IsPairOf : Table → List ℕ → Type 0
IsPairOf t run = (k : ℕ) × (p : Pair) × (slice_get (pairs_of t) k ≡ Some p) × (run ≡ p.first ∷ (p.second ∷ []))

abbrev pub IsLongOf : Table → List ℕ → Type 0
IsLongOf t run = (k : ℕ) × (e : Long) × (slice_get (longs_of t) k ≡ Some e) × (run ≡ long_letters e.run)

-- the pairs and longer runs that a table lists are just those that are one together, each with what it weighs
pub record RunsListed (t : Table) : Type 0 where
  pub pairs : (k : ℕ) (p : Pair) → slice_get (pairs_of t) k ≡ Some p → contraction (rules_of t) (p.first ∷ (p.second ∷ [])) ≡ Some p.weights
  pub longs : (k : ℕ) (e : Long) → slice_get (longs_of t) k ≡ Some e → contraction (rules_of t) (long_letters e.run) ≡ Some e.weights
  pub no_others : (run : List ℕ) → (rules_of t).joins run ≡ true → IsPairOf t run ⊎ IsLongOf t run

-- two, three or four letters are one together
abbrev pub RunsFit : Type 0
RunsFit = (t : Table) (run : List ℕ) → (rules_of t).joins run ≡ true → (2 ≤ length run) × (length run ≤ 4)

-- the valley's numbers are a table that says its rule
abbrev pub ValleySays : Type 0
ValleySays =
    (refusal_of valley_list valley_pair 1 ≡ None) × (rules_in valley_list valley_pair 1 ≡ valley) × (pairs_in valley_pair 1 ≡ valley_pairs)

-- a pair that is added meets the refusal that the numbers with it behind would meet
abbrev pub SameRefusal : Type 0
SameRefusal =
    (ls ps : List ℕ) (n : ℕ) (p : Pair) → refusal_of ls ps n ≡ None → refusal_of ls (ps ++ numbers_of p) (n + 1) ≡ pair_refusal (rules_in ls ps n) n p

-- A pair, or a longer run, that is added to a table of records meets the refusal that the records with it behind would meet.
abbrev pub SameRunRefusal : Type 0
SameRunRefusal =
    (ls : List LetterEntry) (rs : List Run) (b : TableBuf) (r : Run) → IsOf ls rs b →
    ((p : Pair) → r.letters.now ≡ p.first ∷ (p.second ∷ []) → records_refusal ls (rs ++ r ∷ []) ≡ pair_refusal (buffer_rules b) (buffer_runs b) p)
    × ((e : Long) → r.letters.now ≡ long_letters e.run → records_refusal ls (rs ++ r ∷ []) ≡ long_refusal (buffer_rules b) (buffer_runs b) e)

-- Every table of names in UTF-8 that is filled step by step is one of records: a blank one of none, and one to which a letter, a
-- pair or a longer run has been added of those before and this one.
pub record FilledByRecords : Type 0 where
  pub blank : (b : TableBuf) → buffer_rules b ≡ no_rules true → buffer_letters b ≡ 0 → buffer_runs b ≡ 0 → IsOf [] [] b
  pub letter : (ls : List LetterEntry) (rs : List Run) (b c : TableBuf) (e : LetterEntry) → IsOf ls rs b →
      letter_refusal (buffer_rules b) (buffer_letters b) e ≡ None → EntryIn b e c → IsOf (ls ++ e ∷ []) rs c
  pub pair : (ls : List LetterEntry) (rs : List Run) (b c : TableBuf) (r : Run) (p : Pair) → IsOf ls rs b →
      (r.letters.now ≡ p.first ∷ (p.second ∷ [])) × (r.weights ≡ p.weights) →
      pair_refusal (buffer_rules b) (buffer_runs b) p ≡ None → PairIn b p c → IsOf ls (rs ++ r ∷ []) c
  pub long : (ls : List LetterEntry) (rs : List Run) (b c : TableBuf) (r : Run) (e : Long) → IsOf ls rs b →
      (r.letters.now ≡ long_letters e.run) × (r.weights ≡ e.weights) →
      long_refusal (buffer_rules b) (buffer_runs b) e ≡ None → LongIn b e c → IsOf ls (rs ++ r ∷ []) c

-- all of these
pub record Laws : Type 0 where
  pub exactly_tables : ExactlyTables
  pub first_foreign : FirstForeign
  pub first_twice : FirstTwice
  pub just_pairs : JustPairs
  pub letters_weigh : LettersWeigh
  pub held_are_tables : HeldAreTables
  pub letters_listed : LettersListed
  pub expansions_listed : (t : Table) → ExpansionsListed t
  pub runs_listed : (t : Table) → RunsListed t
  pub runs_fit : RunsFit
  pub valley_says : ValleySays
  pub same_refusal : SameRefusal
  pub same_run_refusal : SameRunRefusal
  pub filled_by_records : FilledByRecords
