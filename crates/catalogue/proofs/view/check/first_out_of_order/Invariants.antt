use Rattle.std.proofs.Common.{◌≡◌, None}
use Rattle.catalogue.specs.Lists.{lists, out_of_order}
use Rattle.table.specs.Meaning.{rules_of}
use Rattle.table.specs.Refusals.{first_place}
use Rattle.catalogue.proofs.view.check.first_out_of_order.Given as goal

abbrev pub invariant-loop-place : goal.invariant-loop-place
invariant-loop-place l = first_place (out_of_order (lists (rules_of l.table) l.names.text.now l.names.starts.now l.places)) l.place ≡ None
