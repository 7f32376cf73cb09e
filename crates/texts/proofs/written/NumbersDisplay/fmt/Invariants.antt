use Rattle.std.proofs.Common.{◌∷◌, get_or, take}
use Rattle.std.specs.Fmt.{IsPlainFormatter, HasWritten}
use Rattle.texts.specs.Written.{numbers_text}
use Rattle.texts.proofs.written.NumbersDisplay.fmt.Given as goal

abbrev pub invariant-loop-number : goal.invariant-loop-number
invariant-loop-number g l =
    IsPlainFormatter l.fn.f → HasWritten g.W.Write.write_str_gives l.fn.f (numbers_text (get_or l.self.0.now 0 0 ∷ take l.number-index l.others)) l.f
