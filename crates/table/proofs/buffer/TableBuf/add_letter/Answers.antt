use Rattle.std.proofs.Common.{sym, ◌∙◌}
use Rattle.table.specs.Buffer.{buffer_letters, buffer_rules}
use Rattle.table.proofs.Refusing.{letter_free, refused_told, taken, turned_away}
use Rattle.table.proofs.buffer.TableBuf.add_letter.Goals as goal

pub returns-in_err-allows_letter : goal.returns-in_err-allows_letter
returns-in_err-allows_letter c =
    refused_told _ _ c.args.self.now _ _ c.from_residual.ensures.1 (turned_away _ _ (sym c.in_err-allows_letter.was ∙ c.allows_letter.ensures))

pub write_letter-requires-clause-free : goal.write_letter-requires-clause-free
write_letter-requires-clause-free c =
    let b = c.args.self.now in
    let n = taken _ (sym c.in_ok-allows_letter.was ∙ c.allows_letter.ensures) in
    (letter_free (buffer_rules b) (buffer_letters b) c.args.entry n (sym c.counts.ensures ∙ c.if-counts.true)).1

pub write_letter-requires-clause-fits : goal.write_letter-requires-clause-fits
write_letter-requires-clause-fits c =
    let b = c.args.self.now in
    let n = taken _ (sym c.in_ok-allows_letter.was ∙ c.allows_letter.ensures) in
    (letter_free (buffer_rules b) (buffer_letters b) c.args.entry n (sym c.counts.ensures ∙ c.if-counts.true)).2
