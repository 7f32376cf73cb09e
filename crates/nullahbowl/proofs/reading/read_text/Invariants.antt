use Rattle.std.proofs.Common.{length}
use Rattle.nullahbowl.proofs.Progress.{Standing}
use Rattle.nullahbowl.proofs.reading.read_text.Given as goal

abbrev pub invariant-loop-place : goal.invariant-loop-place
invariant-loop-place g l =
    Standing l.options l.initial.session l.initial.place-iterator.iter l.session l.place-iterator.iter l.place-iterator.count l.tally
    (length l.yielded) (length l.text) (g.W.Write.contents l.initial.out) (g.W.Write.contents l.out)
