use Rattle.std.proofs.Common.{◌≡◌, ◌-◌, length, nat_le, true, false, sym, rules}
use Rattle.std.proofs.lemmas.Iterator.{IsFirst-from_position, YieldsList-from_slice}
use borrow.Author.Tests.{tests}
use Rattle.catalogue.proofs.Listing.{unknown_found}
use Rattle.catalogue.proofs.view.check.first_unknown.Goals as goal

pub returns : goal.returns
returns c =
    let n = length c.args.names.now.starts.now - 1 in
    let m = IsFirst-from_position _ _ c.position.result (λ p. nat_le n p ≡ true) (λ p. nat_le n p ≡ false) c.position.ensures.ran (YieldsList-from_slice c.args.places.now c.iter.ensures.rest) (λ x q k. search (rules, tests)) (λ x q k. search (rules, tests)) in
    sym (unknown_found c.args.names.now.starts.now c.args.places.now c.position.result m)
