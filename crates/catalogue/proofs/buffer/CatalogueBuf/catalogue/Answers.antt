use Rattle.std.proofs.Common.{◌≡◌, true, sym, subst, rules}
use Rattle.std.proofs.Math.Logic.{∥∥₁_map}
use Rattle.catalogue.specs.Arranging.{Arranged}
use Rattle.catalogue.specs.Checking.{lists_of}
use Rattle.catalogue.specs.Filling.{held_rules, held_starts, held_text}
use Rattle.catalogue.specs.Lists.{lists}
use Rattle.catalogue.proofs.buffer.CatalogueBuf.catalogue.Goals as goal

pub returns : goal.returns
returns c =
    let b = c.args.self.now in
    let e : lists_of c.new.result ≡ lists (held_rules b) (held_text b) (held_starts b) b.places.items = search rules in
    let a : b.arranged ≡ true = search rules in
    (a, ∥∥₁_map b.whole (λ f. subst Arranged (sym e) (f a)), e)
