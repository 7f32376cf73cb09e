-- Names and a table that grow: what each step changes.
use Rattle.std.specs.Prelude.{◌≡◌, ℕ, ◌+◌, ◌-◌, ◌^◌, ◌≤◌, ◌⊎◌, List, [], ◌∷◌, ◌++◌, None, Some, Ok, Err, Option, Result, length, map, false, true, vec_items}
use Rattle.std.specs.List.{range_with_len}
use Rattle.std.specs.declared.alloc.AllocError.{AllocError}
use Rattle.catalogue.specs.Arranging.{Arranged}
use Rattle.catalogue.specs.Checking.{lists_of}
use Rattle.catalogue.specs.Lists.{lists, name_of, names_fault}
use Rattle.catalogue.specs.declared.buffer.CatalogueBuf.{CatalogueBuf}
use Rattle.catalogue.specs.declared.fault.ListFault.{ListFault}
use Rattle.catalogue.specs.declared.fault.NotTaken.{NotTaken}
use Rattle.catalogue.specs.declared.fault.NotTaken.TheVariants.{Name, Full}
use Rattle.catalogue.specs.declared.view.Catalogue.{Catalogue}
use Rattle.keys.specs.Refusals.{name_refusal}
use Rattle.table.specs.Buffer.{Added, EntryIn, LongIn, PairIn, buffer_letters, buffer_rules, buffer_runs, letter_refusal, long_refusal, pair_refusal}
use Rattle.table.specs.Rules.{Rules}
use Rattle.table.specs.declared.buffer.TableBuf.{TableBuf}
use Rattle.table.specs.declared.fault.Failure.{Failure}
use Rattle.table.specs.declared.fault.Failure.TheVariants.{NoMemory, Refused}
use Rattle.table.specs.declared.fault.Refusal.{Refusal}
use Rattle.pieces.specs.declared.piece.LetterEntry.{LetterEntry}
use Rattle.pieces.specs.declared.piece.Long.{Long}
use Rattle.pieces.specs.declared.piece.Pair.{Pair}

-- all names, one behind the other, and where each begins, with the end behind
abbrev pub held_text : CatalogueBuf → List ℕ
held_text b = vec_items b.text

abbrev pub held_starts : CatalogueBuf → List ℕ
held_starts b = vec_items b.starts

-- what the table says
abbrev pub held_rules : CatalogueBuf → Rules
held_rules b = buffer_rules b.table

-- the names themselves, in the order in which they came
abbrev pub held_names : CatalogueBuf → List (List ℕ)
held_names b = map (name_of (held_text b) (held_starts b)) (range_with_len 0 (length (held_starts b) - 1))

-- the names are the same
pub record SameNames (b c : CatalogueBuf) : Type 0 where
  pub text : held_text c ≡ held_text b
  pub starts : held_starts c ≡ held_starts b

-- no names, under this table
pub record Empty (t : TableBuf) (b : CatalogueBuf) : Type 0 where
  pub table : b.table ≡ t
  pub text : held_text b ≡ []
  pub starts : held_starts b ≡ 0 ∷ []
  pub arranged : b.arranged ≡ false

-- names and list are as they were
pub record Kept (b c : CatalogueBuf) : Type 0 where
  pub names : SameNames b c
  pub places : c.places ≡ b.places
  pub arranged : c.arranged ≡ b.arranged

-- A name stands behind the others, and begins where they end; or there is no memory, and names and list are as they were. The
-- table is the same.
abbrev pub Appended : CatalogueBuf → (name : List ℕ) → Result Unit AllocError → CatalogueBuf → Type 0
Appended b n (Ok x) c =
    (c.table ≡ b.table) × (held_text c ≡ held_text b ++ n) × (held_starts c ≡ held_starts b ++ (length (held_text b) + length n) ∷ [])
    × (held_names c ≡ held_names b ++ n ∷ []) × (c.arranged ≡ false)
Appended b n (Err x) c = (c.table ≡ b.table) × Kept b c

-- too many names, or letters, to be counted with 32 bits
abbrev pub TooMuch : (b : CatalogueBuf) → (name : List ℕ) → Type 0
TooMuch b n = (2 ^ 32 ≤ length (held_text b) + length n) ⊎ (2 ^ 32 ≤ length (held_starts b))

-- A name that is taken stands behind the others, and begins where they end. What is turned away changes nothing; where memory
-- is wanting table, names and list are as they were.
abbrev pub Pushed : CatalogueBuf → (name : List ℕ) → Result Unit (Failure NotTaken) → CatalogueBuf → Type 0
Pushed b n (Ok x) c = (name_refusal (held_rules b).utf8 n ≡ None) × (TooMuch b n → ⊥) × Appended b n (Ok tt) c
Pushed b n (Err (Refused (Name why))) c = (name_refusal (held_rules b).utf8 n ≡ Some why) × (c ≡ b)
Pushed b n (Err (Refused Full)) c = (name_refusal (held_rules b).utf8 n ≡ None) × TooMuch b n × (c ≡ b)
Pushed b n (Err NoMemory) c = (name_refusal (held_rules b).utf8 n ≡ None) × (TooMuch b n → ⊥) × (c.table ≡ b.table) × Kept b c

-- another table, and the same names
pub record TableSet (b : CatalogueBuf) (t : TableBuf) (c : CatalogueBuf) : Type 0 where
  pub table : c.table ≡ t
  pub names : SameNames b c
  pub arranged : c.arranged ≡ false

-- Another table stands in place of this one, if the names are names under it too; else it is told what is wrong with them, and
-- nothing changes.
abbrev pub TablePut : CatalogueBuf → TableBuf → Result Unit ListFault → CatalogueBuf → Type 0
TablePut b t (Ok x) c = (names_fault t.utf8 (held_text b) (held_starts b) ≡ None) × TableSet b t c
TablePut b t (Err why) c = (names_fault t.utf8 (held_text b) (held_starts b) ≡ Some why) × (c ≡ b)

-- An entry is added to the table as the table says: this speaks against it, and that holds of the table with it. The names are the
-- same. What is turned away changes nothing; where memory is wanting names and list are as they were, and so is what the table
-- says.
abbrev pub EntryPut : (refusal : Option Refusal) → (TableBuf → Type 0) → CatalogueBuf → Result Unit (Failure Refusal) → CatalogueBuf → Type 0
EntryPut refusal there b (Ok x) c = Added refusal there b.table (Ok tt) c.table × SameNames b c × (c.arranged ≡ false)
EntryPut refusal there b (Err (Refused why)) c = (refusal ≡ Some why) × (c ≡ b)
EntryPut refusal there b (Err NoMemory) c = Added refusal there b.table (Err NoMemory) c.table × Kept b c

-- a letter is added
abbrev pub LetterPut : CatalogueBuf → LetterEntry → Result Unit (Failure Refusal) → CatalogueBuf → Type 0
LetterPut b e r c = EntryPut (letter_refusal (held_rules b) (buffer_letters b.table) e) (EntryIn b.table e) b r c

-- a pair is
abbrev pub PairPut : CatalogueBuf → Pair → Result Unit (Failure Refusal) → CatalogueBuf → Type 0
PairPut b p r c = EntryPut (pair_refusal (held_rules b) (buffer_runs b.table) p) (PairIn b.table p) b r c

-- a longer run is
abbrev pub LongPut : CatalogueBuf → Long → Result Unit (Failure Refusal) → CatalogueBuf → Type 0
LongPut b e r c = EntryPut (long_refusal (held_rules b) (buffer_runs b.table) e) (LongIn b.table e) b r c

-- the names are in order, and names and table are the same; or there is no memory where they are not yet, and nothing changes
abbrev pub PutInOrder : CatalogueBuf → Result Unit AllocError → CatalogueBuf → Type 0
PutInOrder b (Ok x) c = (c.arranged ≡ true) × (c.table ≡ b.table) × SameNames b c
PutInOrder b (Err x) c = (b.arranged ≡ false) × (c ≡ b)

-- the catalogue of all names in order under the table (between the bars: that its list is so), where they have been put in order
abbrev pub Lent : CatalogueBuf → Option Catalogue → Type 0
Lent b None = b.arranged ≡ false
Lent b (Some k) =
    (b.arranged ≡ true) × (∥ Arranged (lists_of k) ∥₁)
    × (lists_of k ≡ lists (held_rules b) (held_text b) (held_starts b) (vec_items b.places))
