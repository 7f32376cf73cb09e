use Rattle.std.proofs.Common.{◌≡◌, ◌+◌, ℕ, Bool, List, None, [], ◌∷◌, cond, insert, length, ltb, vec_items, true, false, refl, sym, ap, ◌∙◌, arith}
use Rattle.std.proofs.lemmas.Bool.{cond-true, cond-false, le-ltb, lt-ltb, or_parts}
use Rattle.table.specs.Buffer.{buffer_count, buffer_rules, letters_weighing}
use Rattle.pieces.specs.declared.piece.Letter.{Letter}
use Rattle.pieces.specs.Ranks.{at_rank, below}
use Rattle.table.specs.Entries.{are_expansions}
use Rattle.table.specs.Rules.{expands_in, is_weighed, letter_weighs, rules_by, weighs_in, with_expansions, with_longs}
use Rattle.table.specs.declared.buffer.TableBuf.{TableBuf}
use Rattle.table.proofs.Longs.{letter_beside, longs_letter}
use Rattle.pieces.specs.Runs.{counts, expanded_among, expansion_rank, letter_rank}
use Rattle.pieces.proofs.Ranking.{rising}
use Rattle.table.proofs.Entries.{expansions_beside, none_expands, others_after, put}
use Rattle.table.proofs.Refusing.{not_written}
use Rattle.table.proofs.Setting.{beside_other, beside_set, letter_set, one_more_other, one_more_set, other_set}
use Rattle.table.proofs.buffer.TableBuf.write_one.Goals as goal

-- a letter that weighs nothing weighs nothing itself, and doesn't expand
module _ (b : TableBuf) (a : ℕ) (f : is_weighed (buffer_rules b) a ≡ false) where
  none_itself : counts (letter_weighs (vec_items b.letters) (vec_items b.others) a) ≡ false
  unfolding expands_in weighs_in
  none_itself =
      let t = rules_by b.utf8 (vec_items b.letters) (vec_items b.others) (vec_items b.pairs) (buffer_count b) in
      ap counts (sym (longs_letter t (vec_items b.longs) a)) ∙ (or_parts (counts ((buffer_rules b).weighs (a ∷ []))) (ltb 0 (length (expanded_among (vec_items b.expansions) a))) f).0

  none_listed : at_rank expansion_rank (vec_items b.expansions) a ≡ None
  unfolding expands_in
  none_listed = none_expands (vec_items b.expansions) a (or_parts (counts ((buffer_rules b).weighs (a ∷ []))) (ltb 0 (length (expanded_among (vec_items b.expansions) a))) f).1

pub invariant_of-self-clause-expand : goal.invariant_of-self-clause-expand
invariant_of-self-clause-expand c =
    let b = c.args.self.now in
    let a = c.args.entry.letter in
    let e = c.set_weights.ensures in
    let n = buffer_count b in
    ap (λ ls. are_expansions b.utf8 ls (vec_items b.others) (vec_items b.expansions)) e
    ∙ expansions_beside b.utf8 (vec_items b.letters) (vec_items b.others) (vec_items b.expansions) b.expand _ (vec_items b.others) a
    (beside_set b.utf8 (vec_items b.letters) (vec_items b.others) (vec_items b.pairs) n a c.args.entry.weights c.if-entry-lt256.true b.whole) (none_listed b a c.requires.free)

pub returns-then-entry-lt256 : goal.returns-then-entry-lt256
returns-then-entry-lt256 c =
    let b = c.args.self.now in
    let a = c.args.entry.letter in
    let e = c.set_weights.ensures in
    let t = c.if-entry-lt256.true in
    let n = buffer_count b in
    let m = ap (λ ls. letters_weighing ls (vec_items b.others)) e
    ∙ one_more_set b.utf8 (vec_items b.letters) (vec_items b.others) (vec_items b.pairs) n a c.args.entry.weights t b.whole c.requires.counts
    (sym (ap counts (cond-true _ _ _ (lt-ltb a 256 t))) ∙ none_itself b a c.requires.free) in (
      ap (λ t. with_expansions t (vec_items b.expansions))
          (ap (λ t. with_longs t (vec_items b.longs)) (ap (λ ls. rules_by b.utf8 ls (vec_items b.others) (vec_items b.pairs) n) e ∙ letter_set b.utf8 (vec_items b.letters) (vec_items b.others) (vec_items b.pairs) n a c.args.entry.weights t b.whole)
          ∙ letter_beside (rules_by b.utf8 (vec_items b.letters) (vec_items b.others) (vec_items b.pairs) n) (vec_items b.longs) a c.args.entry.weights),
      ap (λ k. k + length (vec_items b.expansions)) m ∙ omega arith,
      refl,
      refl,
    )

-- whether the entry was put in or not, expansions stay
still : (b : TableBuf) (e : Letter) → are_expansions b.utf8 (vec_items b.letters) (put e (vec_items b.others)) (vec_items b.expansions) ≡ true
    → (fs : List Letter) (done : Bool) → fs ≡ cond done (put e (vec_items b.others)) (vec_items b.others) → are_expansions b.utf8 (vec_items b.letters) fs (vec_items b.expansions) ≡ true
still b e h fs true q = rw q h
still b e h fs false q = rw q b.expand

pub invariant_of-self-2 : goal.invariant_of-self-2
invariant_of-self-2 c =
    let b = c.args.self.now in
    let os = vec_items b.others in
    let a = c.args.entry.letter in
    let v = c.as_slice.ensures.value in
    let p = c.place_for-place.ensures.place (rw v (rising letter_rank (vec_items b.others) b.ascends)) ∙ ap (λ es. below letter_rank es a) c.as_slice.ensures.value in
    let i = c.insert.ensures.items in
    let g = c.if-entry-lt256.false in
    let f = sym (ap counts (cond-false _ _ _ (le-ltb a 256 g))) ∙ none_itself b a c.requires.free in
    let k = others_after b.utf8 c.args.entry os (record { rise = b.ascends; weigh = b.others_weigh; bytes = b.bytes }) c.requires.letter g c.requires.counts f _ _ (rw p at i) in
    let x = expansions_beside b.utf8 (vec_items b.letters) os (vec_items b.expansions) b.expand (vec_items b.letters) (put c.args.entry os) a
    (beside_other b.utf8 (vec_items b.letters) os (vec_items b.pairs) (buffer_count b) c.args.entry g) (none_listed b a c.requires.free) in
    record {
      whole = b.whole;
      fives = b.fives;
      few = b.few;
      known = b.known;
      apart = b.apart;
      rise = b.rise;
      long_apart = b.long_apart;
      long_known = b.long_known;
      ascends = k.rise;
      others_weigh = k.weigh;
      expand = still b c.args.entry x _ _ (rw p at i);
      bytes = k.bytes;
    }

pub returns-in_err-insert : goal.returns-in_err-insert
returns-in_err-insert c =
    let b = c.args.self.now in
    let i = c.in_err-insert.ensures.items in
    let n = buffer_count b in
    not_written _ b _ _ c.from_residual.ensures.0 (
      ap (λ os. with_expansions (with_longs (rules_by b.utf8 (vec_items b.letters) os (vec_items b.pairs) n) (vec_items b.longs)) (vec_items b.expansions)) i,
      ap (λ os. letters_weighing (vec_items b.letters) os + length (vec_items b.expansions)) i,
      refl,
      refl,
    )

pub returns : goal.returns
returns c =
    let b = c.args.self.now in
    let n = buffer_count b in
    let v = c.as_slice.ensures.value in
    let p = c.place_for-place.ensures.place (rw v (rising letter_rank (vec_items b.others) b.ascends)) ∙ ap (λ es. below letter_rank es c.args.entry.letter) c.as_slice.ensures.value in
    let e = c.in_ok-insert.ensures.items ∙ ap (λ k. insert (vec_items b.others) k c.args.entry) p in
    let m = ap (λ os. letters_weighing (vec_items b.letters) os) e ∙ one_more_other b.utf8 (vec_items b.letters) (vec_items b.others) (vec_items b.pairs) n c.args.entry c.if-entry-lt256.false in (
      ap (λ t. with_expansions t (vec_items b.expansions))
          (ap (λ t. with_longs t (vec_items b.longs)) (ap (λ os. rules_by b.utf8 (vec_items b.letters) os (vec_items b.pairs) n) e ∙ other_set b.utf8 (vec_items b.letters) (vec_items b.others) (vec_items b.pairs) n c.args.entry c.if-entry-lt256.false)
          ∙ letter_beside (rules_by b.utf8 (vec_items b.letters) (vec_items b.others) (vec_items b.pairs) n) (vec_items b.longs) c.args.entry.letter c.args.entry.weights),
      ap (λ k. k + length (vec_items b.expansions)) m ∙ omega arith,
      refl,
      refl,
    )
