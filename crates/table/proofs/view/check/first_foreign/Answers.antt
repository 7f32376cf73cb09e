use Rattle.std.proofs.Common.{true, false, sym, rules}
use Rattle.std.proofs.lemmas.Iterator.{IsFirst-from_position}
use borrow.Author.Tests.{tests}
use Rattle.table.proofs.Chunks.{Tests, first_of_fives, fives_given}
use Rattle.table.proofs.view.check.first_foreign.Goals as goal

pub returns : goal.returns
returns c =
    let m = IsFirst-from_position _ _ c.position.result (Tests true) (Tests false) c.position.ensures.ran (fives_given c.chunks_exact.ensures.size) (λ x q k. search (rules, tests)) (λ x q k. search (rules, tests)) in
    let e = c.chunks_exact.ensures.rest in
    sym (first_of_fives c.args.pairs.now c.position.result (rw e at m))
