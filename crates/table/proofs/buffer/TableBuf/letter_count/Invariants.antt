use Rattle.std.proofs.Common.{◌≡◌, ◌*◌, vec_items}
use Rattle.table.specs.Buffer.{many_below}
use Rattle.pieces.specs.Runs.{weights_at, counts}
use Rattle.table.proofs.buffer.TableBuf.letter_count.Given as goal

abbrev pub invariant-loop-letter : goal.invariant-loop-letter
invariant-loop-letter l = l.many ≡ many_below (λ a. counts (weights_at (vec_items l.self.letters) (3 * a))) l.letter
