-- The laws of tables.
use Rattle.std.proofs.Common.{◌≡◌, ℕ, zero, suc, ◌+◌, ◌-◌, ◌*◌, ◌<◌, ◌≤◌, Bool, map, true, false, not, ltb, leb, ◌&&◌, ◌||◌, ◌⊎◌, inl, inr, Option, subst, List, [], ◌∷◌, length, is_some, Some, None, sym, refl, ap, ◌∙◌, ap₂, ⊎_elim, arith}
use Rattle.std.proofs.lemmas.Bool.{and_parts, or_from, le-ltb, lt-ltb, cases_Bool, cases_lt, cases_order, cond-true, cond-false, true≢false}
use Rattle.std.proofs.lemmas.Option.{none-some, same_Some, slice_get-get_or}
use Rattle.std.proofs.lemmas.Bool.Decides.{nat_tests}
use Rattle.std.proofs.lemmas.List.FromFn.{length-map-range_with_len, get_or-map-range_with_len}
use Rattle.std.specs.List.{range_with_len, slice_get}
use Rattle.table.specs.declared.fault.Refusal.TheVariants.{Foreign, Twice}
use Rattle.pieces.specs.declared.piece.Expansion.{Expansion}
use Rattle.pieces.specs.declared.piece.Letter.{Letter}
use Rattle.pieces.specs.Ranks.{at_rank}
use Rattle.pieces.proofs.Ranking.{climbing, its_rank}
use Rattle.std.specs.Option.{option_map}
use Rattle.pieces.specs.declared.piece.Long.{Long}
use Rattle.pieces.specs.declared.piece.LongRun.{LongRun}
use Rattle.pieces.specs.declared.piece.Pair.{Pair}
use Rattle.pieces.specs.Runs.{expanded, expanded_if, expansion_rank, letter_rank, long_among, long_letters, none_twice, one_or_none, weights_at, counts}
use Rattle.pieces.proofs.Finding.{long_has, long_listed}
use Rattle.table.specs.declared.view.Table.{Table}
use Rattle.table.specs.Laws.{IsLongOf, IsPairOf, SamePair, KnownPair, ExactlyTables, FirstForeign, FirstTwice, ExpansionsListed, HeldAreTables, JustPairs, LettersListed, LettersWeigh, RunsFit, RunsListed, SameRefusal, ValleySays}
use Rattle.table.specs.Meaning.{expansions_of, letters_in, letters_of, longs_of, pairs_of, rules_of}
use Rattle.table.specs.Numbers.{first_at, second_at, pair_at, place_in}
use Rattle.table.specs.Refusals.{first_place, foreign, known_long, last_letter, repeated, refusal_of}
use Rattle.table.specs.Entries.{is_other}
use Rattle.utf8.specs.Letters.{is_letter}
use Rattle.table.specs.Rules.{Rules, contraction, expands_in, longs_join, joins_in, letter_weighs, rules_by, rules_in, weighs_in, weights_of}
use Rattle.table.proofs.Entries.{each_expands, entry_weighs, every_at, has_entry, none_itself, some_expands, they_climb, slice_get-append_left, slice_get-append_right}
use Rattle.table.proofs.Firsts.{first_below, first_least, first_passes, none_at, none_below}
use Rattle.table.proofs.Growing.{refusal_more}
use Rattle.table.proofs.Longs.{longs_alone, longs_letter, longs_pair, no_pair_joins}
use Rattle.table.proofs.Places.{known_pair, place_below, nth_none, nth_pair}
use Rattle.table.proofs.Valleys.{numbers, valley_kept, valley_rules}
use Rattle.table.proofs.Refusing.{sound, no_refusal, some_or_none, by_refusal}

-- where a pair is, and where it is not
place_is : (ps : List ℕ) (n a b k : ℕ) → place_in ps n a b ≡ Some k → (first_at ps k ≡ a) × (second_at ps k ≡ b)
unfolding place_in
place_is ps zero a b k e = grind arith
place_is ps (suc n) a b k e = let ih = place_is ps n a b k in grind (arith, nat_tests)

place_not : (ps : List ℕ) (n a b : ℕ) → is_some (place_in ps n a b) ≡ false → (k : ℕ) → k < n → first_at ps k ≡ a → second_at ps k ≡ b → ⊥
unfolding place_in
place_not ps zero a b e k l f s = omega arith
place_not ps (suc n) a b e k l f s = let ih = place_not ps n a b in grind (arith, nat_tests)

-- a pair that equals an earlier one
twice_from : (ps : List ℕ) (k : ℕ) → repeated ps k ≡ true → (i : ℕ) × (i < k) × SamePair ps i k
twice_from ps k e =
    ⊎_elim
    (λ q. (q.0, place_below ps k (first_at ps k) (second_at ps k) q.0 q.1, place_is ps k (first_at ps k) (second_at ps k) q.0 q.1))
    (λ q. absurd (let z : ◌≡◌ {A = Bool} true false = sym e ∙ ap is_some q in true≢false z))
    (some_or_none (place_in ps k (first_at ps k) (second_at ps k)))

once_from : (ps : List ℕ) (k : ℕ) → repeated ps k ≡ false → (i : ℕ) → i < k → SamePair ps i k → ⊥
once_from ps k e i l q = place_not ps k (first_at ps k) (second_at ps k) e i l q.0 q.1

from_once : (ps : List ℕ) (k : ℕ) → ((i : ℕ) → i < k → SamePair ps i k → ⊥) → repeated ps k ≡ false
from_once ps k h =
    ⊎_elim (λ t. let q = twice_from ps k t in absurd (h q.0 q.1 q.2)) (λ f. f) (cases_Bool (repeated ps k))

-- letters that are known
from_known : (u : Bool) (ps : List ℕ) (k : ℕ) → KnownPair u ps k → foreign u ps k ≡ false
from_known u ps k h = or_from _ _ (le-ltb (last_letter u) (first_at ps k) h.0) (le-ltb (last_letter u) (second_at ps k) h.1)

foreign_from : (u : Bool) (ps : List ℕ) (k : ℕ) → foreign u ps k ≡ true → KnownPair u ps k → ⊥
foreign_from u ps k e h = true≢false (sym e ∙ from_known u ps k h)

pub exactly_tables : ExactlyTables
exactly_tables ls ps n = (
  λ e. let s = sound ls ps n e in record {
    whole = s.whole;
    fives = s.fives;
    few = s.few;
    known = λ k l. known_pair false ps k (none_at (foreign false ps) n s.known k l);
    apart = λ j k l m. once_from ps k (none_at (repeated ps) n s.apart k m) j l;
  },
  λ t. no_refusal ls ps n t.whole t.fives t.few (none_below (foreign false ps) n (λ k l. from_known false ps k (t.known k l)))
      (none_below (repeated ps) n (λ k l. from_once ps k (λ i m. t.apart i k m l))),
)

foreign_at : (ls ps : List ℕ) (n k : ℕ) → refusal_of ls ps n ≡ Some (Foreign k) → first_place (foreign false ps) n ≡ Some k
foreign_at ls ps n k =
    by_refusal ls ps n (λ o. o ≡ Some (Foreign k) → first_place (foreign false ps) n ≡ Some k)
    (λ e. cc) (λ e. cc) (λ e. cc) (λ j q e. cc) (λ j q r e. cc) (λ s e. cc)

twice_at : (ls ps : List ℕ) (n k : ℕ) → refusal_of ls ps n ≡ Some (Twice k) → (first_place (foreign false ps) n ≡ None) × (first_place (repeated ps) n ≡ Some k)
twice_at ls ps n k =
    by_refusal ls ps n (λ o. o ≡ Some (Twice k) → (first_place (foreign false ps) n ≡ None) × (first_place (repeated ps) n ≡ Some k))
    (λ e. (cc, cc)) (λ e. (cc, cc)) (λ e. (cc, cc)) (λ j q e. (cc, cc)) (λ j q r e. (q, cc)) (λ s e. (cc, cc))

pub first_foreign : FirstForeign
first_foreign ls ps n k e =
    let f = foreign_at ls ps n k e in
    (first_below (foreign false ps) n k f, foreign_from false ps k (first_passes (foreign false ps) n k f), λ j l. known_pair false ps j (first_least (foreign false ps) n k f j l))

pub first_twice : FirstTwice
first_twice ls ps n k e =
    let f = twice_at ls ps n k e in (
      first_below (repeated ps) n k f.1,
      twice_from ps k (first_passes (repeated ps) n k f.1),
      (λ i j l m. once_from ps j (first_least (repeated ps) n k f.1 j m) i l),
      λ j l. known_pair false ps j (none_at (foreign false ps) n f.0 j l),
    )

-- longer runs at two places differ
longs_differ : (es : List Long) (j k : ℕ) (e f : Long) → none_twice es ≡ true → j < k → slice_get es j ≡ Some e → slice_get es k ≡ Some f → e.run ≡ f.run → ⊥
unfolding none_twice
longs_differ [] j k e f s l g h q = none-some e g
longs_differ (d ∷ es) j zero e f s l g h q = omega arith
longs_differ (d ∷ es) zero (suc k) e f s l g h q =
    let p = and_parts (not (is_some (long_among es (long_letters d.run)))) (none_twice es) s in
    let i = long_listed es k f p.1 h in
    let m = ap (λ r. is_some (long_among es (long_letters r))) (ap (λ x. x.run) (same_Some d e g) ∙ q) ∙ ap is_some i in
    true≢false (sym p.0 ∙ ap not m)
longs_differ (d ∷ es) (suc j) (suc k) e f s l g h q = longs_differ es j k e f (and_parts (not (is_some (long_among es (long_letters d.run)))) (none_twice es) s).1 (omega arith) g h q

past_bytes : (e : Letter) → is_other e ≡ true → ltb e.letter 256 ≡ false
past_bytes e o = let l = (and_parts (leb 256 e.letter) (is_letter e.letter && counts e.weights) o).0 in grind (arith, nat_tests)

-- a pair of a table is where it stands
its_place : (ps : List ℕ) (n : ℕ) → ((j k : ℕ) → j < k → k < n → SamePair ps j k → ⊥) → (k : ℕ) → k < n → place_in ps n (first_at ps k) (second_at ps k) ≡ Some k
its_place ps n apart k l =
    ⊎_elim
    (λ q.
    let s = place_is ps n (first_at ps k) (second_at ps k) q.0 q.1 in
    let b = place_below ps n (first_at ps k) (second_at ps k) q.0 q.1 in
    ⊎_elim
    (λ e. q.1 ∙ ap Some e)
    (λ o. absurd (⊎_elim (λ m. apart q.0 k m l s) (λ m. apart k q.0 m b (sym s.0, sym s.1)) o))
    (cases_order q.0 k))
    (λ q. absurd (place_not ps n (first_at ps k) (second_at ps k) (ap is_some q) k l refl refl))
    (some_or_none (place_in ps n (first_at ps k) (second_at ps k)))

one_of_pairs : (ps : List ℕ) (n : ℕ) (run : List ℕ) → joins_in ps n run ≡ true → (k : ℕ) × (k < n) × (run ≡ first_at ps k ∷ (second_at ps k ∷ []))
unfolding joins_in
one_of_pairs ps n [] e = absurd (true≢false (sym e))
one_of_pairs ps n (a ∷ []) e = absurd (true≢false (sym e))
one_of_pairs ps n (a ∷ (b ∷ [])) e =
    ⊎_elim
    (λ q. let s = place_is ps n a b q.0 q.1 in (q.0, place_below ps n a b q.0 q.1, ap₂ (λ x y. x ∷ (y ∷ [])) (sym s.0) (sym s.1)))
    (λ q. absurd (true≢false (sym e ∙ ap is_some q)))
    (some_or_none (place_in ps n a b))
one_of_pairs ps n (a ∷ (b ∷ (c ∷ run))) e = absurd (true≢false (sym e))

pub just_pairs : JustPairs
unfolding joins_in weighs_in
just_pairs ls ps n t = (
  λ k l. let e = its_place ps n t.apart k l in (ap is_some e, ap (weights_of ps) e),
  one_of_pairs ps n,
)

pub letters_weigh : LettersWeigh
unfolding weighs_in at_rank
letters_weigh ls ps n a = (
  λ l. cond-true (ltb a 256) _ _ (lt-ltb a 256 l),
  λ l. cond-false (ltb a 256) _ _ (le-ltb a 256 l),
  refl,
)

pub held_are_tables : HeldAreTables
held_are_tables t =
    let ps = t.pairs.numbers.now in
    let n = t.pairs.count in
    let a : (j k : ℕ) → j < k → k < n → SamePair ps j k → ⊥ = λ j k l m. once_from ps k (none_at (repeated ps) n t.pairs.apart k m) j l in
    let q : (k : ℕ) → k < n → KnownPair t.utf8 ps k = λ k l. known_pair t.utf8 ps k (none_at (foreign t.utf8 ps) n t.known k l) in (
      record {
        whole = t.whole;
        others = λ k e h. every_at is_other t.others.now k e t.others_weigh h;
        rise = λ j k e f l g h. climbing letter_rank t.others.now j k e f t.ascends l g h;
        bytes = t.bytes;
        expansions = λ k e h. each_expands t.utf8 t.letters.now t.others.now t.expansions.now t.expand k e h;
        climb = λ j k e f l g h. climbing expansion_rank t.expansions.now j k e f (they_climb t.utf8 t.letters.now t.others.now t.expansions.now t.expand) l g h;
        fives = t.fives;
        few = t.few;
        known = q;
        apart = a;
        long_known = λ k e h. every_at (known_long t.utf8) t.longs.now k e t.long_known h;
        long_apart = λ j k e f l g h q. longs_differ t.longs.now j k e f t.long_apart l g h q;
      },
      λ b. record { whole = t.whole; fives = t.fives; few = t.pairs.few; known = λ k l. subst (λ u. KnownPair u ps k) b (q k l); apart = a },
    )

-- a letter below 256, at its place of the list
pub byte_listed : (ls : List ℕ) (os : List Letter) (a : ℕ) → a < 256 → slice_get (letters_in ls os) a ≡ Some (record { letter = a; weights = weights_at ls (3 * a) })
byte_listed ls os a l =
    let f = λ (b : ℕ). let e : Letter = record { letter = b; weights = weights_at ls (3 * b) } in e in
    let d : Letter = record { letter = a; weights = weights_at ls (3 * a) } in
    let n = length-map-range_with_len f 0 256 in
    slice_get-append_left (map f (range_with_len 0 256)) os a (omega arith)
    ∙ (slice_get-get_or (map f (range_with_len 0 256)) a d (omega arith) ∙ ap Some (get_or-map-range_with_len f 0 256 a a d l (omega arith)))

-- another, behind them
pub other_listed : (ls : List ℕ) (os : List Letter) (k : ℕ) → 256 ≤ k → slice_get (letters_in ls os) k ≡ slice_get os (k - 256)
other_listed ls os k l =
    let f = λ (b : ℕ). let e : Letter = record { letter = b; weights = weights_at ls (3 * b) } in e in
    let n = length-map-range_with_len f 0 256 in
    slice_get-append_right (map f (range_with_len 0 256)) os k 256 n l

its_weights : (t : Table) (k : ℕ) (e : Letter) → slice_get (letters_of t) k ≡ Some e → (rules_of t).weighs (e.letter ∷ []) ≡ e.weights
unfolding weighs_in
its_weights t k e h =
    longs_letter (rules_by t.utf8 t.letters.now t.others.now t.pairs.numbers.now t.pairs.count) t.longs.now e.letter
    ∙ ⊎_elim
    (λ l. let q = same_Some _ e (sym (byte_listed t.letters.now t.others.now k l) ∙ h) in ap (λ x. letter_weighs t.letters.now t.others.now x.letter) (sym q) ∙ (cond-true (ltb k 256) _ _ (lt-ltb k 256 l) ∙ ap (λ x. x.weights) q))
    (λ l.
    let g = sym (other_listed t.letters.now t.others.now k l) ∙ h in
    let o = past_bytes e (every_at is_other t.others.now (k - 256) e t.others_weigh g) in
    cond-false (ltb e.letter 256) _ _ o ∙ entry_weighs t.others.now (k - 256) e t.ascends g)
    (cases_lt k 256)

its_place_listed : (t : Table) (a : ℕ) → counts ((rules_of t).weighs (a ∷ [])) ≡ true → (k : ℕ) × (e : Letter) × (slice_get (letters_of t) k ≡ Some e) × (e.letter ≡ a)
unfolding weighs_in
its_place_listed t a g =
    let h = sym (ap counts (longs_letter (rules_by t.utf8 t.letters.now t.others.now t.pairs.numbers.now t.pairs.count) t.longs.now a)) ∙ g in
    ⊎_elim
    (λ l. (a, _, byte_listed t.letters.now t.others.now a l, refl))
    (λ l.
    let q = has_entry t.others.now a (subst (λ w. counts w ≡ true) (cond-false (ltb a 256) _ _ (le-ltb a 256 l)) h) in
    let p : 256 + q.0 - 256 ≡ q.0 = omega arith in
    (256 + q.0, q.1, other_listed t.letters.now t.others.now (256 + q.0) (omega arith) ∙ (ap (slice_get t.others.now) p ∙ q.2), q.3))
    (cases_lt a 256)

pub letters_listed : LettersListed
letters_listed t = (its_weights t, its_place_listed t)

pub expansions_listed : (t : Table) → ExpansionsListed t
unfolding expands_in weighs_in
expansions_listed t = record { each = each; no_others = others }
  where
    each : (k : ℕ) (e : Expansion) → slice_get (expansions_of t) k ≡ Some e → ((rules_of t).expands (e.letter ∷ []) ≡ expanded e.weights) × (counts ((rules_of t).weighs (e.letter ∷ [])) ≡ false)
    each k e h = (
      ap (λ o. expanded_if (option_map (λ x. x.weights) o)) (its_rank expansion_rank t.expansions.now k e (they_climb t.utf8 t.letters.now t.others.now t.expansions.now t.expand) h),
      ap counts (longs_letter (rules_by t.utf8 t.letters.now t.others.now t.pairs.numbers.now t.pairs.count) t.longs.now e.letter)
          ∙ none_itself t.utf8 t.letters.now t.others.now t.expansions.now t.expand k e h,
    )

    others : (p : List ℕ) → 0 < length ((rules_of t).expands p) → (k : ℕ) × (e : Expansion) × (slice_get (expansions_of t) k ≡ Some e) × (p ≡ e.letter ∷ [])
    others [] h = absurd (omega arith)
    others (a ∷ []) h = let q = some_expands t.expansions.now a h in (q.0, q.1, q.2, ap (λ b. b ∷ []) (sym q.3))
    others (a ∷ (b ∷ run)) h = absurd (omega arith)

pub valley_says : ValleySays
unfolding numbers
valley_says = (valley_kept, valley_rules, refl)

pub same_refusal : SameRefusal
same_refusal ls ps n p e = let s = sound ls ps n e in refusal_more ls ps n p s.fives s.whole s.known s.apart

-- what the letters and pairs of a table say
abbrev plain : Table → Rules
plain t = rules_by t.utf8 t.letters.now t.others.now t.pairs.numbers.now t.pairs.count

-- letters that are one under a table stand in its lists
pub listed : (t : Table) (run : List ℕ) → (rules_of t).joins run ≡ true → IsPairOf t run ⊎ IsLongOf t run
unfolding longs_join
listed t run e = go (is_some (long_among t.longs.now run)) refl e
  where
    go : (b : Bool) → is_some (long_among t.longs.now run) ≡ b → (b || joins_in t.pairs.numbers.now t.pairs.count run) ≡ true → IsPairOf t run ⊎ IsLongOf t run
    go true q e = inr (long_has t.longs.now run q)
    go false q e =
        let ps = t.pairs.numbers.now in
        let n = t.pairs.count in
        let p = one_of_pairs ps n run e in
        inl (p.0, pair_at ps p.0, nth_pair ps n p.0 p.1, p.2)

-- the pairs of a table that is held
its_own : (t : Table) (k : ℕ) → k < t.pairs.count →
    contraction (plain t) (first_at t.pairs.numbers.now k ∷ (second_at t.pairs.numbers.now k ∷ [])) ≡ Some (weights_at t.pairs.numbers.now (5 * k + 2))
unfolding joins_in weighs_in
its_own t k l =
    let ps = t.pairs.numbers.now in
    let e = its_place ps t.pairs.count (λ i j m o. once_from ps j (none_at (repeated ps) t.pairs.count t.pairs.apart j o) i m) k l in
    cond-true _ _ _ (ap is_some e) ∙ ap (λ o. Some (weights_of ps o)) e

-- with the weights that stand there
pair_weighs : (t : Table) (k : ℕ) (p : Pair) → slice_get (pairs_of t) k ≡ Some p → contraction (rules_of t) (p.first ∷ (p.second ∷ [])) ≡ Some p.weights
pair_weighs t k p e =
    let ps = t.pairs.numbers.now in
    let n = t.pairs.count in
    longs_pair (plain t) t.longs.now p.first p.second
    ∙ ⊎_elim
    (λ l.
    let q = same_Some (pair_at ps k) p (sym (nth_pair ps n k l) ∙ e) in
    ap (λ x. contraction (plain t) (x.first ∷ (x.second ∷ []))) (sym q)
    ∙ (its_own t k l ∙ ap (λ x. Some x.weights) q))
    (λ l. absurd (none-some p (sym (nth_none ps n k l) ∙ e)))
    (cases_lt k n)

long_weighs : (t : Table) (k : ℕ) (e : Long) → slice_get (longs_of t) k ≡ Some e → contraction (rules_of t) (long_letters e.run) ≡ Some e.weights
long_weighs t k e h = longs_alone (plain t) t.longs.now (long_letters e.run) (no_pair_joins t.pairs.numbers.now t.pairs.count e.run) ∙ long_listed t.longs.now k e t.long_apart h

pub runs_listed : (t : Table) → RunsListed t
runs_listed t = record { pairs = pair_weighs t; longs = long_weighs t; no_others = listed t }

pub runs_fit : RunsFit
runs_fit t run e = ⊎_elim (λ p. (let l = ap length p.3 in omega arith, let l = ap length p.3 in omega arith)) (λ p. long_fits run p.1.run p.3) (listed t run e)
  where
    most : (o : Option ℕ) → length (one_or_none o) ≤ 1
    most None = omega arith
    most (Some d) = omega arith

    long_fits : (run : List ℕ) (r : LongRun) → run ≡ long_letters r → (2 ≤ length run) × (length run ≤ 4)
    long_fits run r e = let l = ap length e in let m = most r.fourth in (omega arith, omega arith)

-- where there are no longer runs only two letters are one
pub only_pairs : (t : Table) → length (longs_of t) ≡ 0 → (run : List ℕ) → (rules_of t).joins run ≡ true → length run ≡ 2
only_pairs t n run e = ⊎_elim (λ p. ap length p.3) (λ p. absurd (none_there (longs_of t) p.0 p.1 n p.2)) (listed t run e)
  where
    none_there : (es : List Long) (k : ℕ) (e : Long) → length es ≡ 0 → slice_get es k ≡ Some e → ⊥
    none_there [] k e n h = none-some e h
    none_there (f ∷ es) k e n h = omega arith

-- nor are there others where a table is lent as numbers
pub lent_pairs : (ls ps : List ℕ) (n : ℕ) (run : List ℕ) → (rules_in ls ps n).joins run ≡ true → length run ≡ 2
lent_pairs ls ps n run e = let q = one_of_pairs ps n run e in ap length q.2
