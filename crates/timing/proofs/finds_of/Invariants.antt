use Rattle.std.proofs.Common.{◌≡◌}
use Rattle.catalogue.specs.Checking.{lists_of}
use Rattle.timing.specs.Totals.{found_at, total}
use Rattle.timing.proofs.finds_of.Given as goal

abbrev pub invariant-loop-number : goal.invariant-loop-number
invariant-loop-number l = l.found ≡ total (found_at (lists_of l.catalogue) l.questions.text.now l.questions.starts.now) l.number
