use Rattle.std.proofs.Common.{refl}
use Rattle.catalogue.proofs.Keys.{keyed_more}
use Rattle.catalogue.specs.Lists.{name_of}
use Rattle.catalogue.proofs.names.arrange.Keyed.all.Goals as goal

pub loop-number-preserved : goal.loop-number-preserved
loop-number-preserved c =
    rw c.in_ok-push.ensures.items (keyed_more (name_of c.args.numbers.now c.args.bounds.now) c.loop-number.number _ _ c.loop-number.invariant refl refl)
