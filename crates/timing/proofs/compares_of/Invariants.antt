use Rattle.std.proofs.Common.{◌≡◌}
use Rattle.catalogue.specs.Lists.{lists}
use Rattle.timing.specs.Totals.{in_order_at, total}
use Rattle.table.specs.Meaning.{rules_of}
use Rattle.timing.proofs.compares_of.Given as goal

abbrev pub invariant-loop-place : goal.invariant-loop-place
invariant-loop-place l = l.ordered ≡ total (in_order_at (lists (rules_of l.table) l.names.text.now l.names.starts.now l.places)) l.place
