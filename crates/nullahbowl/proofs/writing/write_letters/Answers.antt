use Rattle.nullahbowl.proofs.Progress.{both_written, unwritten}
use Rattle.nullahbowl.proofs.Tables.{letters_more, letters_none}
use Rattle.nullahbowl.proofs.writing.write_letters.Goals as goal

pub loop-letter-init : goal.loop-letter-init
loop-letter-init g c = rw letters_none (unwritten _)

pub loop-letter-preserved : goal.loop-letter-preserved
loop-letter-preserved g c = rw letters_more (both_written _ _ _ _ _ c.loop-letter.invariant (rw c.triples-weights.ensures at c.in_ok-write_letter.ensures))
