use Rattle.std.proofs.Common.{◌≡◌, ◌<◌, ◌^◌, take}
use Rattle.std.specs.Str.Parse.{AllDigits, digits_value}
use Rattle.texts.proofs.numeral.number_in_base.Given as goal

abbrev pub invariant-loop-byte : goal.invariant-loop-byte
invariant-loop-byte l = (l.number ≡ digits_value l.base (take l.byte-index l.word)) × AllDigits l.base (take l.byte-index l.word) × (l.number < 2 ^ 64)
