-- What a table that is filled step by step says, and what a letter or a run that is added changes.
use Rattle.std.specs.Prelude.{◌≡◌, ℕ, zero, suc, ◌+◌, ◌*◌, ◌/◌, Bool, cond, not, List, [], ◌∷◌, ◌++◌, length, Some, None, Ok, Err, vec_items, Option, Result, nat_le}
use Rattle.std.specs.declared.alloc.AllocError.{AllocError}
use Rattle.pieces.specs.declared.piece.Expansion.{Expansion}
use Rattle.pieces.specs.declared.piece.Letter.{Letter}
use Rattle.pieces.specs.declared.piece.LetterEntry.{LetterEntry}
use Rattle.pieces.specs.declared.piece.Long.{Long}
use Rattle.pieces.specs.declared.piece.Pair.{Pair}
use Rattle.pieces.specs.declared.piece.Triples.{Triples}
use Rattle.pieces.specs.declared.piece.Triples.TheVariants.{Excess, One, Several}
use Rattle.pieces.specs.Ranks.{put_in}
use Rattle.pieces.specs.Runs.{counts, counts_some, long_letters, long_rank, weights_at}
use Rattle.table.specs.declared.fault.Failure.{Failure}
use Rattle.table.specs.declared.fault.Failure.TheVariants.{Refused, NoMemory}
use Rattle.table.specs.declared.buffer.TableBuf.{TableBuf}
use Rattle.table.specs.declared.fault.Refusal.{Refusal}
use Rattle.table.specs.declared.fault.Refusal.TheVariants.{TooMany, Foreign, Twice, TooManyLetters, NoLetter, LetterTwice, TooManyTriples}
use Rattle.table.specs.Numbers.{pairs_in}
use Rattle.table.specs.Refusals.{unknown, unknown_run}
use Rattle.table.specs.Entries.{is_letter_of}
use Rattle.table.specs.Rules.{Rules, is_weighed, rules_by, with_expansions, with_longs, with_pair, with_run, with_triples}

-- how many pairs it has: five numbers each
abbrev pub buffer_count : TableBuf → ℕ
buffer_count b = length (vec_items b.pairs) / 5

-- its pairs, in the order in which they were added
abbrev pub buffer_pairs : TableBuf → List Pair
buffer_pairs b = pairs_in (vec_items b.pairs) (buffer_count b)

-- its runs of three and four letters, in the order in which they are looked up
abbrev pub buffer_longs : TableBuf → List Long
buffer_longs b = vec_items b.longs

-- how many runs these are
abbrev pub many_runs : List Pair → List Long → ℕ
many_runs ps es = length ps + length es

-- how many runs it has
abbrev pub buffer_runs : TableBuf → ℕ
buffer_runs b = many_runs (buffer_pairs b) (buffer_longs b)

-- its letters that weigh as two or three, in the order of their numbers
abbrev pub buffer_expansions : TableBuf → List Expansion
buffer_expansions b = vec_items b.expansions

-- what it says
abbrev pub buffer_rules : TableBuf → Rules
buffer_rules b =
    with_expansions (with_longs (rules_by b.utf8 (vec_items b.letters) (vec_items b.others) (vec_items b.pairs) (buffer_count b)) (buffer_longs b)) (buffer_expansions b)

-- how many numbers below n pass the test
unfoldable pub many_below : (ℕ → Bool) → (n : ℕ) → ℕ
many_below test zero = 0
many_below test (suc k) = many_below test k + cond (test k) 1 0

-- how many letters weigh something themselves: those below 256 that do, and the others, each of which does
abbrev pub letters_weighing : (letters : List ℕ) → (others : List Letter) → ℕ
letters_weighing ls os = many_below (λ a. counts (weights_at ls (3 * a))) 256 + length os

-- and how many do at all: those that weigh as two or three too
abbrev pub buffer_letters : TableBuf → ℕ
buffer_letters b = letters_weighing (vec_items b.letters) (vec_items b.others) + length (buffer_expansions b)

-- the refusal of an entry at place k, of a letter that weighs something already, or doesn't; else see what comes next
abbrev pub entry_refusal : (utf8 : Bool) → (weighed : Bool) → (k letter : ℕ) → Option Refusal → Option Refusal
entry_refusal utf8 weighed k a next =
    cond (not (is_letter_of utf8 a)) (Some (NoLetter k))
    (cond weighed (Some (LetterTwice k)) next)

-- the refusal of one that weighs as more than three
abbrev pub excess_refusal : (k : ℕ) → Triples → Option Refusal
excess_refusal k (One w) = None
excess_refusal k (Several e) = None
excess_refusal k Excess = Some (TooManyTriples k)

-- the refusal of one letter more, where so many weigh something; an entry that weighs nothing is as if it weren't there
abbrev pub letter_refusal : Rules → (many : ℕ) → LetterEntry → Option Refusal
letter_refusal t k e =
    cond (not (counts_some e.weights)) None
    (cond (nat_le 2000 k) (Some TooManyLetters)
    (entry_refusal t.utf8 (is_weighed t e.letter) k e.letter (excess_refusal k e.weights)))

-- a table with one entry more
abbrev pub with_entry : Rules → LetterEntry → Rules
with_entry t e = cond (counts_some e.weights) (with_triples t e.letter e.weights) t

-- the refusal of one run more, where a table has so many
abbrev pub run_refusal : Rules → (k : ℕ) → (run : List ℕ) → (foreign : Bool) → Option Refusal
run_refusal t k run foreign =
    cond (nat_le 200 k) (Some TooMany)
    (cond foreign (Some (Foreign k))
    (cond (t.joins run) (Some (Twice k)) None))

-- of one pair more
abbrev pub pair_refusal : Rules → (k : ℕ) → Pair → Option Refusal
pair_refusal t k p = run_refusal t k (p.first ∷ (p.second ∷ [])) (unknown t.utf8 p.first p.second)

-- and of a longer run
abbrev pub long_refusal : Rules → (k : ℕ) → Long → Option Refusal
long_refusal t k e = run_refusal t k (long_letters e.run) (unknown_run t.utf8 (long_letters e.run))

-- what both say, and what they list, is the same
abbrev pub SameBuffer : TableBuf → TableBuf → Type 0
SameBuffer b c =
    (buffer_rules c ≡ buffer_rules b) × (buffer_letters c ≡ buffer_letters b) × (buffer_pairs c ≡ buffer_pairs b) × (buffer_longs c ≡ buffer_longs b)

-- a letter that weighs something is there
abbrev pub LetterIn : TableBuf → LetterEntry → TableBuf → Type 0
LetterIn b e c =
    (buffer_rules c ≡ with_triples (buffer_rules b) e.letter e.weights) × (buffer_letters c ≡ buffer_letters b + 1)
    × (buffer_pairs c ≡ buffer_pairs b) × (buffer_longs c ≡ buffer_longs b)

-- an entry has been taken: it is there if it weighs something
abbrev pub EntryIn : TableBuf → LetterEntry → TableBuf → Type 0
EntryIn b e c =
    (buffer_rules c ≡ with_entry (buffer_rules b) e) × (buffer_letters c ≡ buffer_letters b + cond (counts_some e.weights) 1 0)
    × (buffer_pairs c ≡ buffer_pairs b) × (buffer_longs c ≡ buffer_longs b)

-- a pair is there, behind the others
abbrev pub PairIn : TableBuf → Pair → TableBuf → Type 0
PairIn b p c =
    (buffer_rules c ≡ with_pair (buffer_rules b) p) × (buffer_letters c ≡ buffer_letters b)
    × (buffer_pairs c ≡ buffer_pairs b ++ p ∷ []) × (buffer_longs c ≡ buffer_longs b)

-- a longer run is there, at its place among the others
abbrev pub LongIn : TableBuf → Long → TableBuf → Type 0
LongIn b e c =
    (buffer_rules c ≡ with_run (buffer_rules b) (long_letters e.run) e.weights) × (buffer_letters c ≡ buffer_letters b)
    × (buffer_pairs c ≡ buffer_pairs b) × (buffer_longs c ≡ put_in long_rank e (buffer_longs b))

-- what is written is there; or there is no memory, and nothing changes
abbrev pub Written : (TableBuf → Type 0) → TableBuf → Result Unit AllocError → TableBuf → Type 0
Written there b (Ok x) c = there c
Written there b (Err x) c = SameBuffer b c

-- what nothing speaks against is there; what is turned away, or finds no memory, changes nothing
abbrev pub Added : (refusal : Option Refusal) → (TableBuf → Type 0) → TableBuf → Result Unit (Failure Refusal) → TableBuf → Type 0
Added refusal there b (Ok x) c = (refusal ≡ None) × there c
Added refusal there b (Err (Refused why)) c = (refusal ≡ Some why) × (c ≡ b)
Added refusal there b (Err NoMemory) c = (refusal ≡ None) × SameBuffer b c
