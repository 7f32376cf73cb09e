use Rattle.std.proofs.Common.{true}
use Rattle.std.proofs.lemmas.Bool.{true≢false}
use Rattle.table.proofs.Entries.{expansions_in_utf8}
use Rattle.table.specs.Refusals.{foreign}
use Rattle.table.proofs.Firsts.{none_at, none_below}
use Rattle.table.proofs.Longs.{longs_known}
use Rattle.table.proofs.Places.{known_in_utf8}
use Rattle.table.proofs.view.Table.in_utf8.Goals as goal

pub invariant_of-result : goal.invariant_of-result
invariant_of-result c =
    let t = c.args.self in
    record {
      whole = t.whole;
      fives = t.fives;
      known = none_below (foreign true t.pairs.numbers.now) t.pairs.count (λ k l. known_in_utf8 t.utf8 t.pairs.numbers.now k (none_at (foreign t.utf8 t.pairs.numbers.now) t.pairs.count t.known k l));
      ascends = t.ascends;
      others_weigh = t.others_weigh;
      bytes = λ e. absurd (true≢false e);
      few = t.few;
      rise = t.rise;
      long_apart = t.long_apart;
      long_known = longs_known t.utf8 t.longs.now t.long_known;
      expand = expansions_in_utf8 t.utf8 t.letters.now t.others.now t.expansions.now t.expand;
      marked = t.marked;
    }
