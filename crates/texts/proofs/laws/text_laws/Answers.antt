use Rattle.std.proofs.Common.{ap, arith}
use Rattle.std.proofs.lemmas.Grind.{common_steps}
use Rattle.std.proofs.lemmas.Slice.Eq.{bytes_eq-Decides}
use Rattle.texts.specs.Lines.{enters, finds, names, says, wants_key}
use Rattle.texts.specs.declared.line.Command.TheVariants.{Enter, Find, Key, Name}
use Rattle.texts.specs.declared.line.Line.TheVariants.{Blank, NotUtf8, Says, Unreadable}
use Rattle.texts.proofs.Damage.{just_its_damage}
use Rattle.texts.proofs.Forming.{just_its_form, no_other}
use Rattle.texts.proofs.Joining.{parts_apart, parts_join}
use Rattle.texts.proofs.Returning.{reads_back}
use Rattle.texts.proofs.laws.text_laws.Goals as goal

pub returns-clause-laws : goal.returns-clause-laws
returns-clause-laws c = record { parts_join = parts_join; parts_apart = parts_apart; just_its_damage = just_its_damage; just_its_form = just_its_form; no_other = no_other; reads_back = reads_back }

pub returns-clause-equal_entries : goal.returns-clause-equal_entries
returns-clause-equal_entries c = grind (arith, common_steps)

pub returns-clause-equal_commands : goal.returns-clause-equal_commands
returns-clause-equal_commands c (Enter e) (Enter f) = let h = returns-clause-equal_entries c e f in (λ t. ap enters (h.0 t), λ q. h.1 cc)
returns-clause-equal_commands c (Enter e) (Find n) = grind (arith, common_steps)
returns-clause-equal_commands c (Enter e) (Key n) = grind (arith, common_steps)
returns-clause-equal_commands c (Enter e) (Name n) = grind (arith, common_steps)
returns-clause-equal_commands c (Find m) (Enter f) = grind (arith, common_steps)
returns-clause-equal_commands c (Find m) (Find n) = let h = bytes_eq-Decides m.now n.now in (λ t. ap finds (h.0 t), λ q. h.1 cc)
returns-clause-equal_commands c (Find m) (Key n) = grind (arith, common_steps)
returns-clause-equal_commands c (Find m) (Name n) = grind (arith, common_steps)
returns-clause-equal_commands c (Key m) (Enter f) = grind (arith, common_steps)
returns-clause-equal_commands c (Key m) (Find n) = grind (arith, common_steps)
returns-clause-equal_commands c (Key m) (Key n) = let h = bytes_eq-Decides m.now n.now in (λ t. ap wants_key (h.0 t), λ q. h.1 cc)
returns-clause-equal_commands c (Key m) (Name n) = grind (arith, common_steps)
returns-clause-equal_commands c (Name m) (Enter f) = grind (arith, common_steps)
returns-clause-equal_commands c (Name m) (Find n) = grind (arith, common_steps)
returns-clause-equal_commands c (Name m) (Key n) = grind (arith, common_steps)
returns-clause-equal_commands c (Name m) (Name n) = let h = bytes_eq-Decides m.now n.now in (λ t. ap names (h.0 t), λ q. h.1 cc)

pub returns-clause-equal_lines : goal.returns-clause-equal_lines
returns-clause-equal_lines c Blank b = grind (arith, common_steps)
returns-clause-equal_lines c (Says a) Blank = grind (arith, common_steps)
returns-clause-equal_lines c (Says a) (Says b) = let h = returns-clause-equal_commands c a b in (λ t. ap says (h.0 t), λ q. h.1 cc)
returns-clause-equal_lines c (Says a) Unreadable = grind (arith, common_steps)
returns-clause-equal_lines c (Says a) (NotUtf8 k) = grind (arith, common_steps)
returns-clause-equal_lines c Unreadable b = grind (arith, common_steps)
returns-clause-equal_lines c (NotUtf8 k) b = grind (arith, common_steps)
