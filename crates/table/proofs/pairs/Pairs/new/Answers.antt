use Rattle.std.proofs.Common.{arith, sym}
use Rattle.table.specs.Refusals.{repeated}
use Rattle.table.proofs.Chaining.{no_heads, no_marks}
use Rattle.table.proofs.Firsts.{none_yet}
use Rattle.table.proofs.pairs.Pairs.new.Goals as goal

pub invariant_of-result : goal.invariant_of-result
invariant_of-result c =
    let ps = c.args.numbers.now in
    record {
      within = omega arith;
      few = omega arith;
      apart = none_yet (repeated ps);
      marked = sym (no_marks ps);
      begun = no_heads ps;
      linked = λ k l. absurd (omega arith);
    }
