use Rattle.std.proofs.Common.{◌-◌, Some, ap, sym, ◌∙◌}
use Rattle.std.proofs.lemmas.Option.{slice_get-get_or, slice_get_past}
use Rattle.pieces.specs.declared.piece.Letter.{Letter}
use Rattle.table.proofs.Lawful.{byte_listed, other_listed}
use Rattle.table.proofs.view.Table.letter_at.Goals as goal

pub returns-then-place-lt-LETTERS : goal.returns-then-place-lt-LETTERS
returns-then-place-lt-LETTERS c =
    let t = c.args.self.now in
    ap (λ w. let e : Letter = record { letter = c.args.place; weights = w } in Some e) c.weights_at.ensures ∙ sym (byte_listed t.letters.now t.others.now c.args.place c.if-place-lt-LETTERS.true)

pub returns-then-other-self : goal.returns-then-other-self
returns-then-other-self c =
    let t = c.args.self.now in
    sym (other_listed t.letters.now t.others.now c.args.place c.if-place-lt-LETTERS.false ∙ slice_get_past t.others.now (c.args.place - 256) c.if-other-self.true)

pub returns : goal.returns
returns c =
    let t = c.args.self.now in
    sym (other_listed t.letters.now t.others.now c.args.place c.if-place-lt-LETTERS.false ∙ slice_get-get_or t.others.now (c.args.place - 256) _ c.if-other-self.false)
