use Rattle.std.proofs.Common.{◌+◌, [], ◌∷◌, insert, length, ltb, vec_items, refl, sym, ap, ◌∙◌, arith}
use Rattle.std.proofs.lemmas.Bool.{or_parts}
use Rattle.std.proofs.lemmas.List.Edits.{length-insert}
use Rattle.pieces.specs.Ranks.{below}
use Rattle.pieces.specs.Runs.{counts, expanded_among, expansion_rank}
use Rattle.pieces.proofs.Ranking.{below_most, rising}
use Rattle.table.specs.Buffer.{buffer_count, buffer_rules, letters_weighing}
use Rattle.table.specs.Rules.{expands_in, rules_by, weighs_in, with_expansions, with_longs}
use Rattle.table.proofs.Entries.{expansion_beside, expansions_after, none_expands, they_climb}
use Rattle.table.proofs.Longs.{longs_letter}
use Rattle.table.proofs.Refusing.{not_written}
use Rattle.table.proofs.buffer.TableBuf.write_expansion.Goals as goal

pub invariant_of-self : goal.invariant_of-self
unfolding expands_in weighs_in
invariant_of-self c =
    let b = c.args.self.now in
    let es = vec_items b.expansions in
    let a = c.args.entry.letter in
    let v = c.as_slice.ensures.value in
    let r = rising expansion_rank es (they_climb b.utf8 (vec_items b.letters) (vec_items b.others) es b.expand) in
    let p = c.place_for-place.ensures.place (rw v r) ∙ ap (λ xs. below expansion_rank xs a) v in
    let i = c.insert.ensures.items in
    let f = or_parts (counts ((buffer_rules b).weighs (a ∷ []))) (ltb 0 (length (expanded_among es a))) c.requires.free in
    let t = rules_by b.utf8 (vec_items b.letters) (vec_items b.others) (vec_items b.pairs) (buffer_count b) in
    let n = ap counts (sym (longs_letter t (vec_items b.longs) a)) ∙ f.0 in
    record {
      whole = b.whole;
      fives = b.fives;
      few = b.few;
      known = b.known;
      apart = b.apart;
      rise = b.rise;
      long_apart = b.long_apart;
      long_known = b.long_known;
      ascends = b.ascends;
      others_weigh = b.others_weigh;
      expand = expansions_after b.utf8 (vec_items b.letters) (vec_items b.others) es b.expand c.args.entry c.requires.letter c.requires.counts n (none_expands es a f.1) _ _ (rw p at i);
      bytes = b.bytes;
    }

pub returns-in_err-insert : goal.returns-in_err-insert
returns-in_err-insert c =
    let b = c.args.self.now in
    let i = c.in_err-insert.ensures.items in
    let t = with_longs (rules_by b.utf8 (vec_items b.letters) (vec_items b.others) (vec_items b.pairs) (buffer_count b)) (vec_items b.longs) in
    not_written _ b _ _ c.from_residual.ensures.0 (ap (with_expansions t) i, ap (λ es. letters_weighing (vec_items b.letters) (vec_items b.others) + length es) i, refl, refl)

pub returns : goal.returns
returns c =
    let b = c.args.self.now in
    let es = vec_items b.expansions in
    let v = c.as_slice.ensures.value in
    let r = rising expansion_rank es (they_climb b.utf8 (vec_items b.letters) (vec_items b.others) es b.expand) in
    let p = c.place_for-place.ensures.place (rw v r) ∙ ap (λ xs. below expansion_rank xs c.args.entry.letter) v in
    let e = c.in_ok-insert.ensures.items ∙ ap (λ k. insert es k c.args.entry) p in
    let t = with_longs (rules_by b.utf8 (vec_items b.letters) (vec_items b.others) (vec_items b.pairs) (buffer_count b)) (vec_items b.longs) in
    let m = length-insert es (below expansion_rank es c.args.entry.letter) c.args.entry (below_most expansion_rank es c.args.entry.letter) in
    let n = ap length e in (
      ap (with_expansions t) e ∙ expansion_beside t es c.args.entry,
      omega arith,
      refl,
      refl,
    )
