use Rattle.std.proofs.Common.{◌/◌, ◌++◌, length, vec_items, refl, ap, ◌∙◌, arith}
use Rattle.table.specs.Numbers.{pairs_in}
use Rattle.table.specs.Rules.{rules_by, with_expansions, with_longs}
use Rattle.table.specs.declared.buffer.TableBuf.{TableBuf}
use Rattle.table.proofs.Growing.{KeptPairs, kept_after, pair_below, pairs_added, rules_added}
use Rattle.table.proofs.Refusing.{not_written}
use Rattle.table.proofs.Saying.{last_below}
use Rattle.table.proofs.buffer.TableBuf.write_pair.Goals as goal

kept : (b : TableBuf) → KeptPairs b.utf8 (vec_items b.pairs) (length (vec_items b.longs))
kept b = record { fives = b.fives; few = b.few; known = b.known; apart = b.apart }

pub numbers_of-requires : goal.numbers_of-requires
numbers_of-requires c =
    let b = c.args.self.now in
    let l = pair_below b.utf8 (vec_items b.letters) (vec_items b.others) (vec_items b.pairs) (vec_items b.longs) c.args.pair (kept b) c.requires in
    let m = last_below b.utf8 in
    (omega (arith, l.0, m), omega (arith, l.1, m))

pub invariant_of-self : goal.invariant_of-self
invariant_of-self c =
    let b = c.args.self.now in
    let i = c.extend_from_slice.ensures.items in
    let f = c.numbers_of.ensures in
    let k = kept_after b.utf8 (vec_items b.letters) (vec_items b.others) (vec_items b.pairs) (vec_items b.longs) c.args.pair (kept b) c.requires _ _ (rw f at i) in
    record {
      whole = b.whole;
      fives = k.fives;
      few = k.few;
      known = k.known;
      apart = k.apart;
      rise = b.rise;
      long_apart = b.long_apart;
      long_known = b.long_known;
      ascends = b.ascends;
      others_weigh = b.others_weigh;
      expand = b.expand;
      bytes = b.bytes;
    }

pub returns-in_err-extend_from_slice : goal.returns-in_err-extend_from_slice
returns-in_err-extend_from_slice c =
    let b = c.args.self.now in
    let i = c.in_err-extend_from_slice.ensures.items in
    not_written _ b _ _ c.from_residual.ensures.0 (
      ap (λ qs. with_expansions (with_longs (rules_by b.utf8 (vec_items b.letters) (vec_items b.others) qs (length qs / 5)) (vec_items b.longs)) (vec_items b.expansions)) i,
      refl,
      ap (λ qs. pairs_in qs (length qs / 5)) i,
      refl,
    )

pub returns : goal.returns
returns c =
    let b = c.args.self.now in
    let ps = vec_items b.pairs in
    let i = c.in_ok-extend_from_slice.ensures.items ∙ ap (λ xs. ps ++ xs) c.numbers_of.ensures in (
      ap (λ t. with_expansions t (vec_items b.expansions))
          (ap (λ qs. with_longs (rules_by b.utf8 (vec_items b.letters) (vec_items b.others) qs (length qs / 5)) (vec_items b.longs)) i
          ∙ rules_added b.utf8 (vec_items b.letters) (vec_items b.others) ps (vec_items b.longs) c.args.pair (kept b)),
      refl,
      ap (λ qs. pairs_in qs (length qs / 5)) i ∙ pairs_added b.utf8 (vec_items b.letters) (vec_items b.others) ps (vec_items b.longs) c.args.pair (kept b),
      refl,
    )
