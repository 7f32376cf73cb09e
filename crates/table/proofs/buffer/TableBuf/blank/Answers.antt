use Rattle.std.proofs.Common.{◌≡◌, refl, replicate, vec_items, ◌∙◌, arith}
use Rattle.pieces.specs.Ranks.{climbs, rises}
use Rattle.pieces.specs.Runs.{none_twice}
use Rattle.table.proofs.Entries.{no_expansions}
use Rattle.table.proofs.Longs.{no_longs}
use Rattle.table.specs.Refusals.{first_place}
use Rattle.table.proofs.Saying.{blank_rules}
use Rattle.table.proofs.Setting.{none_weigh}
use Rattle.table.proofs.buffer.TableBuf.blank.Goals as goal

pub invariant_of-result : goal.invariant_of-result
unfolding first_place climbs rises none_twice
invariant_of-result c =
    let l : vec_items c.in_ok-letters.letters ≡ replicate 768 0 = c.in_ok-letters.ensures.items_if_clones_equal (λ y e. e) in
    let o = c.new.ensures.items in
    let p = c.new-2.ensures.items in
    let q = c.new-3.ensures.items in
    let x = c.new-4.ensures.items in
    record {
      whole = rw l;
      fives = rw p;
      few = rw (p, q) (omega arith);
      known = rw p;
      apart = rw p;
      rise = rw q;
      long_apart = rw q;
      long_known = rw q;
      ascends = rw o;
      others_weigh = rw o;
      expand = rw x;
      bytes = λ b. o;
    }

pub returns : goal.returns
returns c =
    let l : vec_items c.in_ok-letters.letters ≡ replicate 768 0 = c.in_ok-letters.ensures.items_if_clones_equal (λ y e. e) in
    let o = c.new.ensures.items in
    let p = c.new-2.ensures.items in
    let q = c.new-3.ensures.items in
    let x = c.new-4.ensures.items in (
      rw (l, o, p, q, x) (no_expansions _ (λ run. refl) ∙ (no_longs _ ∙ blank_rules c.args.utf8)),
      rw p,
      q,
      rw (l, o, x) (let e = none_weigh in omega arith),
    )
