use Rattle.std.proofs.Common.{◌≡◌, ap, refl, rules}
use Rattle.table.specs.Buffer.{buffer_rules}
use Rattle.catalogue.proofs.Listing.{same_listed, same_sound, same_whole}
use Rattle.catalogue.proofs.buffer.CatalogueBuf.add_long.Goals as goal

pub invariant_of-self : goal.invariant_of-self
invariant_of-self c =
    let b = c.args.self.now in
    let e : buffer_rules c.add_long.new.self ≡ buffer_rules b.table = search rules in
    record {
      sound = same_sound _ _ _ _ _ _ b.sound (ap (λ t. t.utf8) e) refl refl;
      few = b.few;
      listed = same_listed _ _ _ _ _ _ _ e refl refl b.listed;
      none = b.none;
      whole = same_whole _ _ _ _ _ _ _ e refl refl _ b.whole;
    }
