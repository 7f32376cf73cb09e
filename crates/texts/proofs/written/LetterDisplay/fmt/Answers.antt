use Rattle.std.proofs.Common.{◌≡◌, ℕ, false, ◌&&◌, leb, List, subst, arith}
use Rattle.std.specs.Fmt.{HasWritten}
use Rattle.std.proofs.lemmas.Bool.Decides.{nat_tests}
use Rattle.texts.proofs.Writing.{by_number}
use Rattle.texts.proofs.written.LetterDisplay.fmt.Goals as goal
use Rattle.texts.proofs.written.LetterDisplay.fmt.Goals.{in_default-via-in-Ok+else-is_ascii_graphic, in_default-via-in_default}

pub returns-in_default-clause-writes : goal.returns-in_default-clause-writes
returns-in_default-clause-writes g c = λ plain ok.
    let a = c.args.self.now.0 in
    let t : (leb 33 a && leb a 126) ≡ false =
    elim c.in_default.branch [
      | in_default-via-in-Ok+else-is_ascii_graphic w ↦ let h = w.is_ascii_graphic.ensures.value in let k = w.if-is_ascii_graphic.false in let m = w.in-Ok.ensures in grind (arith, nat_tests)
      | in_default-via-in_default w ↦ let h = w.in_default.ensures in grind (arith, nat_tests)
    ]
    in
    let w = rw (c.in_radix.ensures, c.laid_out.ensures) at c.write-in_default.ensures.writes in
    subst (λ (l : List ℕ). HasWritten g.W.Write.write_str_gives c.args.f.now l c.write-in_default.new.self) (by_number a t) (w plain ok)
