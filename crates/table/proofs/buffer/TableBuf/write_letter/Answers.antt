use Rattle.std.proofs.Common.{sym, subst}
use Rattle.pieces.specs.declared.piece.LetterEntry.{LetterEntry}
use Rattle.pieces.specs.declared.piece.Triples.{Triples}
use Rattle.table.specs.Buffer.{LetterIn, Written}
use Rattle.table.proofs.buffer.TableBuf.write_letter.Goals as goal

-- an entry of this letter
abbrev of : LetterEntry → Triples → LetterEntry
of e x = record { letter = e.letter; weights = x }

pub returns-in-One : goal.returns-in-One
returns-in-One c = subst (λ x. Written (LetterIn c.args.self.now (of c.args.entry x)) c.args.self.now c.write_one.result c.write_one.new.self) (sym c.in-One.is) c.write_one.ensures

pub returns-in-Several : goal.returns-in-Several
returns-in-Several c =
    subst (λ x. Written (LetterIn c.args.self.now (of c.args.entry x)) c.args.self.now c.write_expansion.result c.write_expansion.new.self) (sym c.in-Several.is) c.write_expansion.ensures
