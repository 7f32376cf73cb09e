-- An entry that is not taken in.
use mathlib.Core.HLevel.{is_prop→PathP}
use Rattle.std.proofs.Props.{props}
use Rattle.catalogue.specs.declared.buffer.CatalogueBuf.{CatalogueBuf}
use Rattle.table.specs.Buffer.{buffer_letters, buffer_pairs, buffer_rules, buffer_runs, many_runs}
use Rattle.table.specs.Rules.{in_utf8, Rules}
use Rattle.table.specs.Valley.{valley, valley_pairs}
use Rattle.std.proofs.Common.{false, ◌≡◌, Bool, true, List, Err, Ok, IsErrAnd, Option, Result, ap₂, sym, ◌∙◌}
use Rattle.std.proofs.lemmas.Bool.{cond-true, true≢false}
use Rattle.catalogue.specs.Filling.{EntryPut, held_rules}
use Rattle.nullahbowl.specs.Failing.{pair_fails}
use Rattle.nullahbowl.specs.Sessions.{Entered, entered_letters, entered_rules, entered_runs}
use Rattle.nullahbowl.specs.declared.answer.TakeError.{TakeError}
use Rattle.nullahbowl.specs.declared.session.Session.{Session}
use Rattle.table.specs.declared.buffer.TableBuf.{TableBuf}
use Rattle.table.specs.declared.fault.Failure.{Failure}
use Rattle.table.specs.declared.fault.Failure.TheVariants.{NoMemory, Refused}
use Rattle.table.specs.declared.fault.Refusal.{Refusal}
use Rattle.pieces.specs.declared.piece.Long.{Long}
use Rattle.pieces.specs.declared.piece.Pair.{Pair}

-- what is kept of a session's table
abbrev Held : Session → CatalogueBuf → Type 0
Held s b = ((buffer_rules b.table).utf8 ≡ true) × (s.own ≡ false → (buffer_rules b.table ≡ in_utf8 valley) × (buffer_pairs b.table ≡ valley_pairs))

-- What adding it to the table of the lines says is what the line is answered. It is said apart since a refusal has more cases than
-- are split by themselves.
pub not_entered : (refusal told : Option Refusal) → refusal ≡ told → (there : TableBuf → Type 0) (rules : Rules) (pairs : List Pair) (longs : List Long) (named : List Bool) (s t : Session) (f : Failure Refusal) (r : Result Unit TakeError)
    → IsErrAnd r (λ e. e ≡ pair_fails f) → s.own ≡ true → t.own ≡ s.own → t.named ≡ s.named → (t.book ≡ s.book → t ≡ s) → EntryPut told there s.book (Err f) t.book
    → Entered refusal rules pairs longs named s r t
not_entered o m z there rules pairs longs named s t f (Ok x) q w p n k h = absurd q
not_entered o m z there rules pairs longs named s t (Refused why) (Err e) q w p n k h = rw q (z ∙ h.0, k h.1)
not_entered o m z there rules pairs longs named s t NoMemory (Err e) q w p n k h =
    rw q (λ f. absurd (true≢false (sym w ∙ f)), (h.0.1.0, h.0.1.2, h.0.1.3, h.0.1.1, record { own = p; named = n }, h.1))

-- where the table is that of the lines, what they say is what it says
pub own_rules : (s : Session) → s.own ≡ true → entered_rules s ≡ held_rules s.book
own_rules s o = cond-true s.own _ _ o

pub own_letters : (s : Session) → s.own ≡ true → entered_letters s ≡ buffer_letters s.book.table
own_letters s o = cond-true s.own _ _ o

pub own_runs : (s : Session) → s.own ≡ true → entered_runs s ≡ buffer_runs s.book.table
own_runs s o = ap₂ many_runs (cond-true s.own _ _ o) (cond-true s.own _ _ o)

-- sessions that differ in nothing but a book that is the same are the same
pub same_session : (s : Session) (b : CatalogueBuf) (v : Held s b) → b ≡ s.book → record { book = b; own = s.own; named = s.named; valleys = v } ≡ s
same_session s b v e =
    λ i. record { book = e i; own = s.own; named = s.named; valleys = is_prop→PathP (λ j. Held s (e j)) (λ j. Prim.hlevel props) v s.valleys i }
