use Rattle.std.proofs.Common.{rules, tests}
use Rattle.std.proofs.lemmas.Result.{IfOk-weaker}
use Rattle.texts.specs.Lines.{saying}
use Rattle.texts.proofs.Returning.{read_again}
use Rattle.texts.proofs.line.Command.to_line.Goals as goal

pub returns-in_ok-to_string-in-Enter-clause-reads_back : goal.returns-in_ok-to_string-in-Enter-clause-reads_back
returns-in_ok-to_string-in-Enter-clause-reads_back c = λ h. read_again (saying c.args.self.now) h c.into_bytes.result.items (search (rules, tests))

pub returns-in-Find-clause-reads_back : goal.returns-in-Find-clause-reads_back
returns-in-Find-clause-reads_back c = λ h. IfOk-weaker c.worded.result _ _ (λ v e. read_again (saying c.args.self.now) h v.items (search (rules, tests))) c.worded.ensures

pub returns-in-Key-clause-reads_back : goal.returns-in-Key-clause-reads_back
returns-in-Key-clause-reads_back c = λ h. IfOk-weaker c.worded-in-Key.result _ _ (λ v e. read_again (saying c.args.self.now) h v.items (search (rules, tests))) c.worded-in-Key.ensures

pub returns-in-Name-clause-reads_back : goal.returns-in-Name-clause-reads_back
returns-in-Name-clause-reads_back c = λ h. IfOk-weaker c.worded-in-Name.result _ _ (λ v e. read_again (saying c.args.self.now) h v.items (search (rules, tests))) c.worded-in-Name.ensures
