use Rattle.std.proofs.Common.{[], false, ap₂, refl, sym, ◌∙◌, arith}
use Rattle.pieces.specs.Ranks.{climbs, rises}
use Rattle.pieces.specs.Runs.{none_twice}
use Rattle.table.specs.Chain.{all_marks, begun}
use Rattle.table.proofs.Entries.{no_expansions}
use Rattle.table.specs.Numbers.{pairs_in}
use Rattle.table.specs.Refusals.{first_place, foreign}
use Rattle.table.specs.Rules.{rules_by}
use Rattle.table.proofs.Longs.{no_longs}
use Rattle.table.proofs.Saying.{blank_rules}
use Rattle.table.proofs.view.blank.TableDefault.default.Goals as goal

pub invariant_of-result : goal.invariant_of-result
unfolding climbs first_place rises none_twice begun
invariant_of-result c =
    let e = c.new.ensures.0 in
    let f = c.new.ensures.1 in
    record {
      whole = refl;
      fives = rw (e, f);
      known = ap₂ (λ ps n. first_place (foreign false ps) n) e f;
      ascends = refl;
      others_weigh = refl;
      bytes = λ b. refl;
      few = rw f (omega arith);
      rise = refl;
      long_apart = refl;
      long_known = refl;
      expand = refl;
      marked = sym (ap₂ (λ ps n. all_marks ps n []) e f);
    }

pub returns : goal.returns
returns c =
    let e = c.new.ensures.0 in
    let f = c.new.ensures.1 in
    (no_expansions _ (λ run. refl) ∙ (no_longs _ ∙ (ap₂ (λ ps n. rules_by false _ [] ps n) e f ∙ blank_rules false)), ap₂ pairs_in e f, refl, refl)
