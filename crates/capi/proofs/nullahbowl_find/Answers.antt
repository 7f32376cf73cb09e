use Rattle.std.proofs.Common.{rules, ◌+◌}
use Rattle.catalogue.specs.Entry.{all_right}
use Rattle.catalogue.specs.Lists.{lists}
use Rattle.catalogue.proofs.Entering.{finds_in}
use Rattle.table.specs.Rules.{rules_in}
use Rattle.capi.proofs.nullahbowl_find.Goals as goal

pub returns-clause-part : goal.returns-clause-part
returns-clause-part c =
    finds_in (all_right c.args.letters.now c.args.pairs.now c.args.how_many c.args.text.now c.args.starts.now c.args.places.now c.args.ask.now)
    (lists (rules_in c.args.letters.now c.args.pairs.now c.args.how_many) c.args.text.now c.args.starts.now c.args.places.now)
    c.args.ask.now c.from.result.place (c.from.result.place + c.from.result.length) (search rules)
