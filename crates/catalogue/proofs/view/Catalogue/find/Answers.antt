use Rattle.catalogue.specs.Checking.{lists_of}
use Rattle.catalogue.specs.Finding.{may_ask}
use Rattle.catalogue.proofs.Cutting.{part_at, through}
use Rattle.catalogue.proofs.Written.{both_or_neither}
use Rattle.catalogue.proofs.view.Catalogue.find.Goals as goal

pub returns-clause-written_out : goal.returns-clause-written_out
returns-clause-written_out c =
    let l = lists_of c.args.self.now in
    let n = c.args.ask.now in
    both_or_neither (may_ask l n) l n _ (through (may_ask l n) l n _ (part_at (may_ask l n) l n c.range-range.result.start c.range-range.result.end c.range-range.ensures))
