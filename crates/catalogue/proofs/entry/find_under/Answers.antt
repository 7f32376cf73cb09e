use Rattle.std.proofs.Common.{◌&&◌, rules}
use Rattle.table.specs.Meaning.{rules_of}
use Rattle.catalogue.specs.Entry.{are_listed}
use Rattle.catalogue.specs.Finding.{may_ask}
use Rattle.catalogue.specs.Lists.{lists}
use Rattle.catalogue.proofs.Written.{both_or_neither}
use Rattle.catalogue.proofs.Entering.{finds_under, start_within}
use Rattle.catalogue.proofs.entry.find_under.Goals as goal

pub returns-clause-found : goal.returns-clause-found
returns-clause-found c = finds_under _ _ _ _ c.in-Ok.catalogue _ _ _ c.in-Ok.ensures c.range-range.ensures

pub returns-clause-written_out : goal.returns-clause-written_out
returns-clause-written_out c =
    let l = lists (rules_of c.args.table.now) c.args.text.now c.args.starts.now c.args.places.now in
    both_or_neither (are_listed l && may_ask l c.args.ask.now) l c.args.ask.now _ (finds_under _ _ _ _ c.in-Ok.catalogue _ _ _ c.in-Ok.ensures c.range-range.ensures).1

pub offset_bounds-places-range : goal.offset_bounds-places-range
offset_bounds-places-range c =
    let l = start_within _ _ _ _ c.in-Ok.catalogue _ _ _ c.in-Ok.ensures c.range-range.ensures in
    search rules
