use Rattle.std.proofs.Common.{◌≡◌, length, Err, ap, sym, refl, ◌∙◌, subst}
use Rattle.keys.specs.declared.entry.Done.TheVariants.{Refused}
use Rattle.keys.specs.Making.{fits}
use Rattle.keys.specs.Rows.{key}
use Rattle.keys.proofs.Entering.{byte_name, byte_number, too_short}
use Rattle.keys.proofs.entry.make_key.Goals as goal

pub returns-in-Err : goal.returns-in-Err
returns-in-Err c =
    let r = c.in-Err.ensures in
    let n = c.number.ensures ∙ byte_number c.args.letters.now c.args.joins.now c.args.how_many c.in-Err.why r in
    (ap Refused n ∙ rw r, refl)

pub returns-in-Some : goal.returns-in-Some
returns-in-Some c =
    let e = sym c.of.ensures ∙ c.in-Some.is in
    let n = c.number-in-Some.ensures ∙ byte_name c.args.name.now c.in-Some.why e in
    (ap Refused n ∙ rw (c.in-Ok.ensures.0, e), refl)

pub returns-in-Err-has_room : goal.returns-in-Err-has_room
returns-in-Err-has_room c =
    let x = c.args.name.now in
    let room = length c.args.room.now in
    let told = sym c.has_room.ensures ∙ c.in-Err-has_room.is in
    let fits_not = subst (λ t. fits (length (key t x)) room ≡ Err c.in-Err-has_room.short) c.in-Ok.ensures.1 told in
    (too_short c.args.letters.now c.args.joins.now c.args.how_many x room c.in-Err-has_room.short c.in-Ok.ensures.0 (sym c.of.ensures ∙ c.in_default.is) fits_not, refl)
