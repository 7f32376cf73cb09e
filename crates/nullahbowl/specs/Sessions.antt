-- What the lines read so far make, and what one line more changes and is answered.
use Rattle.std.specs.Prelude.{◌≡◌, ℕ, Bool, true, false, cond, List, [], ◌∷◌, ◌++◌, map, replicate, slice_set, Some, None, Ok, Err, Option, Result, vec_items, ◌&&◌}
use Rattle.std.specs.declared.alloc.AllocError.{AllocError}
use Rattle.catalogue.specs.Arranging.{Arranged}
use Rattle.catalogue.specs.Filling.{Appended, Kept, SameNames, TableSet, TooMuch, held_rules, held_starts, held_text}
use Rattle.catalogue.specs.Finding.{looked_through, may_ask}
use Rattle.catalogue.specs.Lists.{Lists, lists, name_of}
use Rattle.keys.specs.Making.{Made}
use Rattle.keys.specs.Refusals.{name_refusal}
use Rattle.nullahbowl.specs.declared.answer.Answer.{Answer}
use Rattle.nullahbowl.specs.declared.answer.Answer.TheVariants.{Find, Key, Nothing}
use Rattle.nullahbowl.specs.declared.answer.TakeError.{TakeError}
use Rattle.nullahbowl.specs.declared.answer.TakeError.TheVariants.{Full, NoMemory, Refused}
use Rattle.nullahbowl.specs.declared.session.Session.{Session}
use Rattle.table.specs.Buffer.{buffer_letters, buffer_longs, buffer_pairs, letter_refusal, long_refusal, many_runs, pair_refusal, with_entry}
use Rattle.table.specs.declared.fault.Refusal.{Refusal}
use Rattle.table.specs.Rules.{Rules, in_utf8, no_rules, with_pair, with_run}
use Rattle.table.specs.Valley.{valley, valley_pairs}
use Rattle.table.specs.declared.buffer.TableBuf.{TableBuf}
use Rattle.pieces.specs.declared.piece.LetterEntry.{LetterEntry}
use Rattle.pieces.specs.declared.piece.Long.{Long}
use Rattle.pieces.specs.declared.piece.Pair.{Pair}
use Rattle.pieces.specs.Ranks.{put_in}
use Rattle.pieces.specs.Runs.{long_letters, long_rank}
use Rattle.texts.specs.declared.fault.Fault.TheVariants.{Bytes, Name, Question, Table, Text}
use Rattle.texts.specs.declared.line.Entry.TheVariants as entry
use Rattle.texts.specs.Lines.{Meaning, blank, damaged, enters, finds, names, says, unreadable, wants_key}

-- the letters that the lines of a table name, by their numbers; all, where the table is the valley's
abbrev pub session_letters : Session → List Bool
session_letters s = s.named

-- what the lines of a table say by now, their pairs and longer runs and how many these are, how many letters weigh something, and
-- which are named
abbrev pub entered_rules : Session → Rules
entered_rules s = cond s.own (held_rules s.book) (no_rules true)

abbrev pub entered_pairs : Session → List Pair
entered_pairs s = cond s.own (buffer_pairs s.book.table) []

abbrev pub entered_longs : Session → List Long
entered_longs s = cond s.own (buffer_longs s.book.table) []

abbrev pub entered_runs : Session → ℕ
entered_runs s = many_runs (entered_pairs s) (entered_longs s)

abbrev pub entered_letters : Session → ℕ
entered_letters s = cond s.own (buffer_letters s.book.table) 0

abbrev pub entered_named : Session → List Bool
entered_named s = cond s.own (s.named) (replicate 65536 false)

-- all names under the table, and their list
abbrev pub session_lists : Session → Lists
session_lists s = lists (held_rules s.book) (held_text s.book) (held_starts s.book) (vec_items s.book.places)

-- nothing has been taken yet, and the table is the valley's, of names in UTF-8
pub record Fresh (s : Session) : Type 0 where
  pub own : s.own ≡ false
  pub named : s.named ≡ replicate 65536 true
  pub rules : held_rules s.book ≡ in_utf8 valley
  pub pairs : buffer_pairs s.book.table ≡ valley_pairs
  pub longs : buffer_longs s.book.table ≡ []
  pub text : held_text s.book ≡ []
  pub starts : held_starts s.book ≡ 0 ∷ []
  pub arranged : s.book.arranged ≡ false

-- where the names have been put in order, their list is one of all names, in order under the table (between the bars: that it
-- is so)
abbrev pub IsListed : Session → Type 0
IsListed s = s.book.arranged ≡ true → ∥ Arranged (session_lists s) ∥₁

-- the names of this list that begin so, in its order: what looking through it gives; none where the names are not in order, or
-- what is asked is too long
abbrev pub found_names : Session → (ask : List ℕ) → List (List ℕ)
found_names s ask = map (name_of (held_text s.book) (held_starts s.book)) (looked_through (s.book.arranged && may_ask (session_lists s) ask) (session_lists s) ask)

-- what lines of a table have said is the same
pub record SameEntries (s t : Session) : Type 0 where
  pub own : t.own ≡ s.own
  pub named : t.named ≡ s.named

-- table, names and entries are the same
pub record Same (s t : Session) : Type 0 where
  pub entries : SameEntries s t
  pub table : t.book.table ≡ s.book.table
  pub names : SameNames s.book t.book

-- what the table says, its pairs and longer runs, its letters and names are the same, and so is their list
abbrev pub SameSaid : (s t : Session) → Type 0
SameSaid s t =
    (held_rules t.book ≡ held_rules s.book) × (buffer_pairs t.book.table ≡ buffer_pairs s.book.table)
    × (buffer_longs t.book.table ≡ buffer_longs s.book.table)
    × (buffer_letters t.book.table ≡ buffer_letters s.book.table) × SameEntries s t × Kept s.book t.book

-- all names are in order, and nothing else changes; or there is no memory
abbrev pub Settled : Session → Result Unit AllocError → Session → Type 0
Settled s (Ok x) t = (t.book.arranged ≡ true) × Same s t
Settled s (Err x) t = (s.book.arranged ≡ false) × (t ≡ s)

-- The first line of a table has been taken, which makes this one: it stands in place of the valley's, and no letter is named yet.
abbrev pub Begun : Session → TableBuf → Session → Type 0
Begun s b t = (t.own ≡ true) × (t.named ≡ replicate 65536 false) × TableSet s.book b t.book

-- An entry is added to those of the lines, where nothing speaks against it: the table is that of the lines then, and has these rules,
-- pairs and longer runs, and these letters are named. Where it can't be one of them it is turned away, as the table says, and nothing
-- changes. Or there is no memory, and what all say is the same; where it is the first line of a table, nothing changes then.
abbrev pub Entered : (refusal : Option Refusal) → Rules → List Pair → List Long → (named : List Bool) → Session → Result Unit TakeError → Session → Type 0
Entered refusal rules pairs longs named s (Ok x) t =
    (refusal ≡ None) × (t.own ≡ true) × (t.named ≡ named)
    × (held_rules t.book ≡ rules) × (buffer_pairs t.book.table ≡ pairs) × (buffer_longs t.book.table ≡ longs) × SameNames s.book t.book
    × (t.book.arranged ≡ false)
Entered refusal rules pairs longs named s (Err (Refused (Table why))) t = (refusal ≡ Some why) × (t ≡ s)
Entered refusal rules pairs longs named s (Err (Refused (Bytes j))) t = ⊥
Entered refusal rules pairs longs named s (Err (Refused (Text j))) t = ⊥
Entered refusal rules pairs longs named s (Err (Refused (Question why))) t = ⊥
Entered refusal rules pairs longs named s (Err (Refused (Name why))) t = ⊥
Entered refusal rules pairs longs named s (Err Full) t = ⊥
Entered refusal rules pairs longs named s (Err NoMemory) t = (s.own ≡ false → t ≡ s) × SameSaid s t

-- letters are named with those that are
abbrev pub all_named : List Bool → (letters : List ℕ) → List Bool
all_named named [] = named
all_named named (a ∷ ls) = all_named (slice_set named a true) ls

-- a letter is entered, and named
abbrev pub Weighed : Session → LetterEntry → Result Unit TakeError → Session → Type 0
Weighed s e r t =
    Entered (letter_refusal (entered_rules s) (entered_letters s) e) (with_entry (entered_rules s) e) (entered_pairs s) (entered_longs s)
    (all_named (entered_named s) (e.letter ∷ [])) s r t

-- a pair is, and its letters are named
abbrev pub Joined : Session → Pair → Result Unit TakeError → Session → Type 0
Joined s p r t =
    Entered (pair_refusal (entered_rules s) (entered_runs s) p) (with_pair (entered_rules s) p) (entered_pairs s ++ p ∷ []) (entered_longs s)
    (all_named (entered_named s) (p.first ∷ (p.second ∷ []))) s r t

-- a longer run is, and its letters are named
abbrev pub JoinedLong : Session → Long → Result Unit TakeError → Session → Type 0
JoinedLong s e r t =
    Entered (long_refusal (entered_rules s) (entered_runs s) e) (with_run (entered_rules s) (long_letters e.run) e.weights) (entered_pairs s)
    (put_in long_rank e (entered_longs s)) (all_named (entered_named s) (long_letters e.run)) s r t

-- What asks for names is turned away if it is too long, and changes nothing; else all names are in order. There may be no memory
-- where they were not yet.
abbrev pub Prepared : Session → (ask : List ℕ) → Result Unit TakeError → Session → Type 0
Prepared s n (Ok x) t = (name_refusal true n ≡ None) × (t.book.arranged ≡ true) × Same s t
Prepared s n (Err (Refused (Question why))) t = (name_refusal true n ≡ Some why) × (t ≡ s)
Prepared s n (Err (Refused (Bytes j))) t = ⊥
Prepared s n (Err (Refused (Text j))) t = ⊥
Prepared s n (Err (Refused (Name why))) t = ⊥
Prepared s n (Err (Refused (Table why))) t = ⊥
Prepared s n (Err Full) t = ⊥
Prepared s n (Err NoMemory) t = (name_refusal true n ≡ None) × (s.book.arranged ≡ false) × (t ≡ s)

-- what was done, where nothing is asked for
abbrev pub done : Result Answer TakeError → Option (Result Unit TakeError)
done (Ok Nothing) = Some (Ok tt)
done (Ok (Key v)) = None
done (Ok (Find n)) = None
done (Err e) = Some (Err e)

-- something was done, and this holds of it
abbrev pub IfDone : Option (Result Unit TakeError) → (Result Unit TakeError → Type 0) → Type 0
IfDone None P = ⊥
IfDone (Some r) P = P r

-- one name more, behind the others; what is turned away, or is one too many, changes nothing; or there is no memory
abbrev pub NameTaken : Session → (name : List ℕ) → Result Unit TakeError → Session → Type 0
NameTaken s n (Ok x) t = (name_refusal true n ≡ None) × (TooMuch s.book n → ⊥) × Appended s.book n (Ok tt) t.book × SameEntries s t
NameTaken s n (Err (Refused (Name why))) t = (name_refusal true n ≡ Some why) × (t ≡ s)
NameTaken s n (Err (Refused (Bytes j))) t = ⊥
NameTaken s n (Err (Refused (Text j))) t = ⊥
NameTaken s n (Err (Refused (Question why))) t = ⊥
NameTaken s n (Err (Refused (Table why))) t = ⊥
NameTaken s n (Err Full) t = (name_refusal true n ≡ None) × TooMuch s.book n × (t ≡ s)
NameTaken s n (Err NoMemory) t = (name_refusal true n ≡ None) × (TooMuch s.book n → ⊥) × (t.book.table ≡ s.book.table) × SameEntries s t × Kept s.book t.book

-- a key is made, or not, as under a checked table
abbrev pub KeyAnswered : Rules → List ℕ → Result Answer TakeError → Type 0
KeyAnswered rules n (Ok (Key v)) = Made rules n vec_items (Ok v)
KeyAnswered rules n (Ok Nothing) = ⊥
KeyAnswered rules n (Ok (Find m)) = ⊥
KeyAnswered rules n (Err (Refused (Question why))) = name_refusal rules.utf8 n ≡ Some why
KeyAnswered rules n (Err (Refused (Bytes j))) = ⊥
KeyAnswered rules n (Err (Refused (Text j))) = ⊥
KeyAnswered rules n (Err (Refused (Name why))) = ⊥
KeyAnswered rules n (Err (Refused (Table why))) = ⊥
KeyAnswered rules n (Err Full) = ⊥
KeyAnswered rules n (Err NoMemory) = name_refusal rules.utf8 n ≡ None

-- all names are in order, and what is asked is handed back to find with; or it is turned away
abbrev pub FindAnswered : Session → (ask : List ℕ) → Result Answer TakeError → Session → Type 0
FindAnswered s n (Ok (Find m)) t = (m.now ≡ n) × Prepared s n (Ok tt) t
FindAnswered s n (Ok Nothing) t = ⊥
FindAnswered s n (Ok (Key v)) t = ⊥
FindAnswered s n (Err e) t = Prepared s n (Err e) t

-- the line at place k is taken, and what it asks for is answered; what is turned away changes nothing
abbrev pub Taken : Session → Meaning → (k : ℕ) → Result Answer TakeError → Session → Type 0
Taken s blank k r t = (r ≡ Ok Nothing) × (t ≡ s)
Taken s unreadable k r t = (r ≡ Err (Refused (Text k))) × (t ≡ s)
Taken s (damaged j) k r t = (r ≡ Err (Refused (Bytes j))) × (t ≡ s)
Taken s (says (enters (entry.Letter e))) k r t = IfDone (done r) (λ d. Weighed s e d t)
Taken s (says (enters (entry.Pair p))) k r t = IfDone (done r) (λ d. Joined s p d t)
Taken s (says (enters (entry.Long e))) k r t = IfDone (done r) (λ d. JoinedLong s e d t)
Taken s (says (names n)) k r t = IfDone (done r) (λ d. NameTaken s n d t)
Taken s (says (wants_key n)) k r t = KeyAnswered (held_rules s.book) n r × (t ≡ s)
Taken s (says (finds n)) k r t = FindAnswered s n r t
