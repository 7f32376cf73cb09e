use Rattle.std.proofs.Common.{refl, ap₂}
use Rattle.nullahbowl.proofs.Entering.{not_entered, own_letters, own_rules, same_session}
use Rattle.table.specs.Buffer.{EntryIn, letter_refusal}
use Rattle.nullahbowl.proofs.session.Session.weigh.Goals as goal

pub returns-in_err-add_letter : goal.returns-in_err-add_letter
returns-in_err-add_letter c =
    let s = c.args.self.now in
    let o = c.if-self.true in
    not_entered _ _ (ap₂ (λ t n. letter_refusal t n c.args.entry) (own_rules s o) (own_letters s o)) (EntryIn s.book.table c.args.entry) _ _ _ _ s _ c.in_err-add_letter.field-0.0 c.from_residual.result c.from_residual.ensures.1 o refl refl
    (same_session s c.add_letter.new.self _) c.in_err-add_letter.ensures
