use Rattle.std.proofs.Common.{rules, refl}
use Rattle.nullahbowl.proofs.session.Session.new.Goals as goal

pub returns : goal.returns
returns c = record { own = refl; named = refl; rules = search rules; pairs = search rules; longs = search rules; text = search rules; starts = search rules; arranged = search rules }
