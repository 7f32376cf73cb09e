use Rattle.std.proofs.Common.{◌≡◌, Bool, true, false, cond, [], ◌∙◌, ap, refl}
use Rattle.nullahbowl.proofs.Progress.{one_too_many, refused, unwritten}
use Rattle.nullahbowl.proofs.reading.read_line.Goals as goal
use mir.Val.{bool_byte}

byte_of : (b : Bool) → bool_byte b ≡ cond b 1 0
byte_of true = refl
byte_of false = refl

pub returns-in_ok-eprintln-in-Err-Refused : goal.returns-in_ok-eprintln-in-Err-Refused
returns-in_ok-eprintln-in-Err-Refused g c =
    let a = c.args in
    let asked = rw c.in-Err-Refused.field-0-is at (c.from-in-Err-Refused.ensures ∙ ap bool_byte c.is_question-asked.ensures) ∙ byte_of _ in
    ([], refused a.options a.session.now a.line.now a.place _ c.in-Err-Refused.fault c.take.new.self (rw c.in-Err-Refused.field-0-is at c.in-Err-Refused.ensures) asked, unwritten _)

pub returns-in_ok-eprintln-in-Err-Full : goal.returns-in_ok-eprintln-in-Err-Full
returns-in_ok-eprintln-in-Err-Full g c =
    let a = c.args in
    ([], one_too_many a.options a.session.now a.line.now a.place c.take.new.self (rw c.in-Err-Full.field-0-is at c.in-Err-Full.ensures), unwritten _)
