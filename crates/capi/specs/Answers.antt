-- Answers as numbers.
use Rattle.std.specs.Prelude.{◌≡◌, ℕ, zero, suc, ◌+◌, ◌^◌, ◌<◌, cond, List, length, slice_index_or, Some, None, Option, ◌&&◌, ◌==◌, nat_lt}
use Rattle.std.specs.Option.{option_or}
use Rattle.capi.specs.declared.answer.KeyAnswer.{KeyAnswer}
use Rattle.capi.specs.declared.answer.Part.{Part}
use Rattle.capi.specs.declared.answer.Verdict.{Verdict}
use Rattle.catalogue.specs.Finding.{FoundAt, may_ask}
use Rattle.catalogue.specs.Lists.{Lists, fault_place, name_of, names_fault, places_fault}
use Rattle.catalogue.specs.declared.fault.ListFault.{ListFault}
use Rattle.catalogue.specs.declared.fault.ListFault.TheVariants.{NoStart, StartFalls, EndsElsewhere, NameRefused, NoSuchName, OutOfOrder}
use Rattle.keys.specs.Entry.{KeySays, done_of}
use Rattle.keys.specs.declared.entry.Done.{Done}
use Rattle.keys.specs.declared.entry.Done.TheVariants.{Keyed, Short, Refused}
use Rattle.table.specs.Refusals.{refusal_place}
use Rattle.table.specs.declared.fault.Refusal.{Refusal}

-- a key that is made is 0 and how many numbers it has, one that doesn't fit 1 and how many it needs, one that is refused 2 and
-- the number of the refusal
abbrev pub key_answer : Done → KeyAnswer
key_answer (Keyed n) = record { what = 0; number = n }
key_answer (Short n) = record { what = 1; number = n }
key_answer (Refused n) = record { what = 2; number = n }

-- the answer is what is to be said for these numbers, and the room holds what it should then
abbrev pub ExactlyKeyed : (letters pairs : List ℕ) → (how_many : ℕ) → (name room : List ℕ) → KeyAnswer → (after : List ℕ) → Type 0
ExactlyKeyed ls ps n x room r after =
    (r ≡ key_answer (done_of ls ps n x (length room))) × KeySays ls ps n x room (done_of ls ps n x (length room)) after

-- nothing is wrong
abbrev pub right : Verdict
right = record { what = 0; place = 0 }

-- a table's fault is 1, and the pair at fault, or 0
abbrev pub table_verdict : Refusal → Verdict
table_verdict why = record { what = 1; place = refusal_place why }

-- the faults of lists are 2 to 7
abbrev pub fault_number : ListFault → ℕ
fault_number NoStart = 2
fault_number (StartFalls k) = 3
fault_number (EndsElsewhere k) = 5
fault_number (NameRefused i why) = 4
fault_number (NoSuchName k) = 6
fault_number (OutOfOrder k) = 7

abbrev pub list_verdict : ListFault → Verdict
list_verdict why = record { what = fault_number why; place = fault_place why }

-- the first fault of lists; None where they are a catalogue
abbrev pub fault_in : Lists → Option ListFault
fault_in l = option_or (names_fault l.rules.utf8 l.text l.starts) (places_fault l)

-- the table is looked at first, then the lists
abbrev pub verdict_of : Option Refusal → Option ListFault → Verdict
verdict_of (Some why) f = table_verdict why
verdict_of None (Some why) = list_verdict why
verdict_of None None = right

-- questions whose starts are not as those of names are to be: 8, and the place at fault; another number of parts than of
-- questions, or more questions than 32 bits number: 9, and how many questions
abbrev pub asked_verdict : Option ListFault → (count parts : ℕ) → Verdict
asked_verdict (Some why) n parts = record { what = 8; place = fault_place why }
asked_verdict None n parts = cond (n == parts && nat_lt n (2 ^ 32)) right (record { what = 9; place = n })

-- the table is looked at first, then the lists, then the questions
abbrev pub each_verdict : Option Refusal → Option ListFault → Option ListFault → (count parts : ℕ) → Verdict
each_verdict (Some why) f g n parts = table_verdict why
each_verdict None (Some why) g n parts = list_verdict why
each_verdict None None g n parts = asked_verdict g n parts

-- where the names are that begin as a question asks
abbrev pub Answers : Lists → (ask : List ℕ) → Part → Type 0
Answers l ask p = FoundAt (may_ask l ask) l ask p.place (p.place + p.length)

-- where nothing is wrong each part is that of its question; else the parts are as they were
abbrev pub PartsSay : (what : ℕ) → Lists → (asks ask_starts : List ℕ) → (parts after : List Part) → Type 0
PartsSay zero l asks ask_starts parts after =
    (length after ≡ length parts) × ((i : ℕ) (none : Part) → i < length after → Answers l (name_of asks ask_starts i) (slice_index_or after i none))
PartsSay (suc k) l asks ask_starts parts after = after ≡ parts
