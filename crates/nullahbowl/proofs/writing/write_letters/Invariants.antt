use Rattle.std.specs.Io.KnownBytes.{Appends}
use Rattle.nullahbowl.specs.Writing.{letters_text}
use Rattle.nullahbowl.proofs.writing.write_letters.Given as goal
use Rattle.table.specs.Meaning.{rules_of}

abbrev pub invariant-loop-letter : goal.invariant-loop-letter
invariant-loop-letter g l = Appends (g.W.Write.contents l.initial.out) (g.W.Write.contents l.out) (letters_text (rules_of l.table) l.letter)
