use Rattle.std.proofs.Common.{◌/◌, insert, length, vec_items, refl, ap, ◌∙◌}
use Rattle.pieces.specs.Ranks.{below}
use Rattle.pieces.specs.Runs.{long_rank}
use Rattle.table.specs.Rules.{rules_by, with_expansions, with_longs}
use Rattle.table.proofs.Refusing.{not_written}
use Rattle.table.specs.declared.buffer.TableBuf.{TableBuf}
use Rattle.table.proofs.Growing.{KeptLongs, long_added, longs_after}
use Rattle.table.proofs.buffer.TableBuf.write_long.Goals as goal

kept : (b : TableBuf) → KeptLongs b.utf8 (length (vec_items b.pairs) / 5) (vec_items b.longs)
kept b = record { few = b.few; rise = b.rise; apart = b.long_apart; known = b.long_known }

pub invariant_of-self : goal.invariant_of-self
invariant_of-self c =
    let b = c.args.self.now in
    let v = c.as_slice.ensures.value in
    let p = c.place_for-place.ensures.place (rw v b.rise) ∙ (ap (λ es. below long_rank es c.rank.result) c.as_slice.ensures.value ∙ ap (below long_rank (vec_items b.longs)) c.rank.ensures) in
    let i = c.insert.ensures.items in
    let k = longs_after b.utf8 (vec_items b.letters) (vec_items b.others) (vec_items b.pairs) (vec_items b.longs) c.args.long (kept b) c.requires _ _ (rw p at i) in
    record {
      whole = b.whole;
      fives = b.fives;
      few = k.few;
      known = b.known;
      apart = b.apart;
      rise = k.rise;
      long_apart = k.apart;
      long_known = k.known;
      ascends = b.ascends;
      others_weigh = b.others_weigh;
      expand = b.expand;
      bytes = b.bytes;
    }

pub returns-in_err-insert : goal.returns-in_err-insert
returns-in_err-insert c =
    let b = c.args.self.now in
    let i = c.in_err-insert.ensures.items in
    let t = rules_by b.utf8 (vec_items b.letters) (vec_items b.others) (vec_items b.pairs) (length (vec_items b.pairs) / 5) in
    not_written _ b _ _ c.from_residual.ensures.0 (ap (λ es. with_expansions (with_longs t es) (vec_items b.expansions)) i, refl, refl, i)

pub returns : goal.returns
returns c =
    let b = c.args.self.now in
    let v = c.as_slice.ensures.value in
    let p = c.place_for-place.ensures.place (rw v b.rise) ∙ (ap (λ es. below long_rank es c.rank.result) c.as_slice.ensures.value ∙ ap (below long_rank (vec_items b.longs)) c.rank.ensures) in
    let e = c.in_ok-insert.ensures.items ∙ ap (λ k. insert (vec_items b.longs) k c.args.long) p in (
      ap (λ t. with_expansions t (vec_items b.expansions))
          (ap (with_longs (rules_by b.utf8 (vec_items b.letters) (vec_items b.others) (vec_items b.pairs) (length (vec_items b.pairs) / 5))) e
          ∙ long_added b.utf8 (vec_items b.letters) (vec_items b.others) (vec_items b.pairs) (vec_items b.longs) c.args.long (kept b) c.requires),
      refl,
      refl,
      e,
    )
