-- Why a line is not taken, by what failed.
use Rattle.catalogue.specs.declared.fault.NotTaken.{NotTaken}
use Rattle.catalogue.specs.declared.fault.NotTaken.TheVariants as push
use Rattle.keys.specs.declared.fault.NameRefusal.{NameRefusal}
use Rattle.nullahbowl.specs.declared.answer.TakeError.{TakeError}
use Rattle.nullahbowl.specs.declared.answer.TakeError.TheVariants as take
use Rattle.table.specs.declared.fault.Failure.{Failure}
use Rattle.table.specs.declared.fault.Failure.TheVariants.{NoMemory, Refused}
use Rattle.table.specs.declared.fault.Refusal.{Refusal}
use Rattle.texts.specs.declared.fault.Fault.TheVariants.{Name, Question, Table}

-- a letter or a run is turned away
abbrev pub pair_fails : Failure Refusal → TakeError
pair_fails (Refused why) = take.Refused (Table why)
pair_fails NoMemory = take.NoMemory

-- a name is turned away whose key was asked for
abbrev pub key_fails : Failure NameRefusal → TakeError
key_fails (Refused why) = take.Refused (Question why)
key_fails NoMemory = take.NoMemory

-- a name is not taken in
abbrev pub name_fails : Failure NotTaken → TakeError
name_fails (Refused (push.Name why)) = take.Refused (Name why)
name_fails (Refused push.Full) = take.Full
name_fails NoMemory = take.NoMemory
