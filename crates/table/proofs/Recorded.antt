-- Records with one more behind them, and the tables that are filled so.
use Rattle.std.proofs.Common.{◌≡◌, ℕ, ◌+◌, ◌≤◌, Bool, true, false, cond, not, ◌&&◌, ◌||◌, eqb, leb, ltb, List, [], ◌∷◌, ◌++◌, length, Some, None, Option, refl, sym, ap, ap₂, ◌∙◌, arith}
use Rattle.std.specs.List.{filter, list_any}
use Rattle.std.specs.Option.{option_or}
use Rattle.std.proofs.lemmas.Bool.{cond-false, cond-true, or_parts, true≢false}
use Rattle.std.proofs.lemmas.Bool.Decides.{nat_tests}
use Rattle.std.proofs.lemmas.List.{append_assoc, append-nil, length-append}
use Rattle.std.proofs.lemmas.List.Edits.{length-insert}
use Rattle.std.proofs.lemmas.List.Elements.{filter-append}
use Rattle.std.proofs.lemmas.Option.{none-some}
use Rattle.utf8.specs.Letters.{is_letter}
use Rattle.pieces.specs.declared.piece.LetterEntry.{LetterEntry}
use Rattle.pieces.specs.declared.piece.Long.{Long}
use Rattle.pieces.specs.declared.piece.Pair.{Pair}
use Rattle.pieces.specs.declared.piece.Run.{Run}
use Rattle.pieces.specs.declared.piece.Triples.{Triples}
use Rattle.pieces.specs.declared.piece.Triples.TheVariants.{Excess, One, Several}
use Rattle.pieces.specs.declared.piece.Weights.{Weights}
use Rattle.pieces.proofs.Ranking.{below_most}
use Rattle.pieces.specs.Ranks.{below, put_in}
use Rattle.pieces.specs.Runs.{alone, counts, counts_some, expanded, long_letters, long_rank, nothing, one_or_none, several}
use Rattle.table.specs.declared.fault.Refusal.{Refusal}
use Rattle.table.specs.declared.fault.Refusal.TheVariants.{Foreign, LetterTwice, NoLetter, RunLength, TooMany, TooManyLetters, Twice}
use Rattle.table.specs.Buffer.{EntryIn, LongIn, PairIn, buffer_letters, buffer_longs, buffer_pairs, buffer_rules, buffer_runs, excess_refusal, letter_refusal, long_refusal, many_runs, pair_refusal, run_refusal, with_entry}
use Rattle.table.specs.Laws.{FilledByRecords, SameRunRefusal}
use Rattle.table.specs.Records.{IsOf, excess_record, first_refusal, foreign_record, is_told, length_record, letter_record, letter_told, letters_refusal, many_weighing, records_refusal, records_rules, runs_refusal, twice_record}
use Rattle.table.specs.Refusals.{unknown, unknown_run}
use Rattle.table.specs.declared.buffer.TableBuf.{TableBuf}
use Rattle.table.specs.Rules.{Rules, is_weighed, with_run}
use Rattle.table.proofs.Told.{fit, letter_more, none_more, none_told, run_more}

-- of two that may speak against something
or_none : (o : Option Refusal) → option_or o None ≡ o
or_none None = refl
or_none (Some why) = refl

first_none : (o p : Option Refusal) → option_or o p ≡ None → o ≡ None
first_none None p e = refl
first_none (Some why) p e = absurd (none-some why (sym e))

second_none : (o p : Option Refusal) → option_or o p ≡ None → p ≡ None
second_none None p e = e
second_none (Some why) p e = absurd (none-some why (sym e))

-- where nothing speaks against these records, it is the next one that something may speak against
module _ {A : Type 0} (look : List A → A → Option Refusal) where
  next_looked : (front xs : List A) (x : A) → first_refusal look front xs ≡ None → first_refusal look front (xs ++ x ∷ []) ≡ look (front ++ xs) x
  unfolding first_refusal
  next_looked front [] x e = or_none (look front x) ∙ ap (λ f. look f x) (sym (append-nil front))
  next_looked front (y ∷ ys) x e =
      let n = first_none (look front y) _ e in
      let ih = next_looked (front ++ y ∷ []) ys x (second_none (look front y) _ e) in
      ap (λ o. option_or o (first_refusal look (front ++ y ∷ []) (ys ++ x ∷ []))) n
      ∙ (ih ∙ ap (λ f. look f x) (append_assoc front (y ∷ []) ys))

module _ (ls : List LetterEntry) (rs : List Run) (r : Run) where
  one_longer : ltb 200 (length (rs ++ r ∷ [])) ≡ leb 200 (length rs)
  one_longer = let e = length-append rs (r ∷ []) in grind (arith, nat_tests)

  few_runs : runs_refusal rs ≡ None → option_or (first_refusal foreign_record [] rs) (first_refusal twice_record [] rs) ≡ None
  few_runs e = go (ltb 200 (length rs)) e
    where
      go : (b : Bool) → cond b (Some TooMany) (option_or (first_refusal foreign_record [] rs) (first_refusal twice_record [] rs)) ≡ None → option_or (first_refusal foreign_record [] rs) (first_refusal twice_record [] rs) ≡ None
      go true h = absurd (none-some TooMany (sym h))
      go false h = h

  one_of : (u j : Bool) → option_or (cond u (Some (Foreign (length rs))) None) (cond j (Some (Twice (length rs))) None) ≡ cond u (Some (Foreign (length rs))) (cond j (Some (Twice (length rs))) None)
  one_of true j = refl
  one_of false j = refl

  runs_more : runs_refusal rs ≡ None → runs_refusal (rs ++ r ∷ []) ≡ run_refusal (records_rules ls rs) (length rs) r.letters.now (unknown_run true r.letters.now)
  runs_more e =
      let h = few_runs e in
      let f = next_looked foreign_record [] rs r (first_none _ _ h) in
      let t = next_looked twice_record [] rs r (second_none _ _ h) in
      ap₂ (λ b o. cond b (Some TooMany) o) one_longer
      (ap₂ option_or f t ∙ one_of (unknown_run true r.letters.now) (is_told rs r.letters.now))

  -- a run that has two, three or four letters is refused as the records with it behind are
  record_more : records_refusal ls rs ≡ None → 2 ≤ length r.letters.now → length r.letters.now ≤ 4 →
      records_refusal ls (rs ++ r ∷ []) ≡ run_refusal (records_rules ls rs) (length rs) r.letters.now (unknown_run true r.letters.now)
  record_more e l m =
      let runs = first_none _ _ e in
      let behind = second_none _ _ e in
      let letters = first_none _ _ behind in
      let fits = second_none _ _ behind in
      let excess = second_none _ _ fits in
      let k = next_looked length_record [] rs r (first_none _ _ fits) ∙ ap (λ b. cond b (Some (RunLength (length rs))) None) (fit (length r.letters.now) l m) in
      ap (option_or (runs_refusal (rs ++ r ∷ []))) (ap₂ option_or letters (ap₂ option_or k excess))
      ∙ (or_none (runs_refusal (rs ++ r ∷ [])) ∙ runs_more runs)

  two_known : (a b : ℕ) → unknown_run true (a ∷ (b ∷ [])) ≡ unknown true a b
  two_known a b = grind (arith, nat_tests)

  pair_more : records_refusal ls rs ≡ None → (p : Pair) → r.letters.now ≡ p.first ∷ (p.second ∷ []) → records_refusal ls (rs ++ r ∷ []) ≡ pair_refusal (records_rules ls rs) (length rs) p
  pair_more e p q =
      let n = ap length q in
      record_more e (omega arith) (omega arith)
      ∙ (ap (λ run. run_refusal (records_rules ls rs) (length rs) run (unknown_run true run)) q
      ∙ ap (run_refusal (records_rules ls rs) (length rs) (p.first ∷ (p.second ∷ []))) (two_known p.first p.second))

  long_more : records_refusal ls rs ≡ None → (e : Long) → r.letters.now ≡ long_letters e.run → records_refusal ls (rs ++ r ∷ []) ≡ long_refusal (records_rules ls rs) (length rs) e
  long_more e f q =
      let n = ap length q in
      let m = most f.run.fourth in
      record_more e (omega arith) (omega arith)
      ∙ ap (λ run. run_refusal (records_rules ls rs) (length rs) run (unknown_run true run)) q
    where
      most : (o : Option ℕ) → length (one_or_none o) ≤ 1
      most None = omega arith
      most (Some d) = omega arith

-- of a table that says what these records say
pub same_run_refusal : SameRunRefusal
same_run_refusal ls rs b r i = (
  λ p q. pair_more ls rs r i.taken p q ∙ ap₂ (λ t k. pair_refusal t k p) (sym i.said.0) (sym i.said.2),
  λ e q. long_more ls rs r i.taken e q ∙ ap₂ (λ t k. long_refusal t k e) (sym i.said.0) (sym i.said.2),
)

-- a run that is not refused is none yet
not_yet : (t : Rules) (k : ℕ) (run : List ℕ) (u : Bool) → run_refusal t k run u ≡ None → t.joins run ≡ false
not_yet t k run u e = go (leb 200 k) u (t.joins run) e
  where
    go : (x y z : Bool) → cond x (Some TooMany) (cond y (Some (Foreign k)) (cond z (Some (Twice k)) None)) ≡ None → z ≡ false
    go true y z h = absurd (none-some TooMany (sym h))
    go false true z h = absurd (none-some (Foreign k) (sym h))
    go false false true h = absurd (none-some (Twice k) (sym h))
    go false false false h = refl

run_filled : (ls : List LetterEntry) (rs : List Run) (b c : TableBuf) (r : Run) → IsOf ls rs b → 2 ≤ length r.letters.now → records_refusal ls (rs ++ r ∷ []) ≡ None →
    (buffer_rules b).joins r.letters.now ≡ false → (buffer_rules c ≡ with_run (buffer_rules b) r.letters.now r.weights) × (buffer_letters c ≡ buffer_letters b) × (buffer_runs c ≡ buffer_runs b + 1) → IsOf ls (rs ++ r ∷ []) c
run_filled ls rs b c r i l n j d = record {
  taken = n;
  said = (
    d.0 ∙ (ap (λ t. with_run t r.letters.now r.weights) i.said.0 ∙ run_more r ls rs (sym (ap (λ t. t.joins r.letters.now) i.said.0) ∙ j) l),
    d.1 ∙ i.said.1,
    d.2 ∙ (ap (λ k. k + 1) i.said.2 ∙ sym (length-append rs (r ∷ []))),
  );
}

-- a letter of which no entry in front tells more than three triples is weighed where one tells of it
told_fits : (front ls : List LetterEntry) (a : ℕ) → first_refusal excess_record front ls ≡ None → letter_told ls a ≡ Excess → ⊥
unfolding first_refusal letter_told
told_fits front [] a e h = grind arith
told_fits front (f ∷ ls) a e h = go (told_fits (front ++ f ∷ []) ls a (second_none (excess_record front f) (first_refusal excess_record (front ++ f ∷ []) ls) e)) (eqb f.letter a && counts_some f.weights) refl
  where
    some : (x : Triples) → excess_refusal (length front) x ≡ None → x ≡ Excess → ⊥
    some (One w) n q = grind arith
    some (Several x) n q = grind arith
    some Excess n q = none-some _ (sym n)

    go : (letter_told ls a ≡ Excess → ⊥) → (b : Bool) → (eqb f.letter a && counts_some f.weights) ≡ b → ⊥
    go ih true q = some f.weights (first_none (excess_record front f) (first_refusal excess_record (front ++ f ∷ []) ls) e) (sym (cond-true _ _ _ q) ∙ h)
    go ih false q = ih (sym (cond-false _ _ _ q) ∙ h)

not_weighed : (ls : List LetterEntry) (rs : List Run) (a : ℕ) → first_refusal excess_record [] ls ≡ None → is_weighed (records_rules ls rs) a ≡ false → counts_some (letter_told ls a) ≡ false
not_weighed ls rs a n e = go (letter_told ls a) (told_fits [] ls a n) e
  where
    none_any : (xs : List Weights) → ltb 0 (length xs) ≡ false → list_any counts xs ≡ false
    none_any [] h = refl
    none_any (x ∷ xs) h = grind (arith, nat_tests)

    go : (x : Triples) → (x ≡ Excess → ⊥) → (counts (alone x) || ltb 0 (length (several x))) ≡ false → counts_some x ≡ false
    go (One w) m h = let p = or_parts (counts w) (ltb 0 0) h in p.0
    go (Several x) m h = let p = or_parts (counts nothing) (ltb 0 (length (expanded x))) h in none_any (expanded x) p.1
    go Excess m h = absurd (m refl)

module _ (ls : List LetterEntry) (rs : List Run) (e : LetterEntry) where
  -- what an entry that is not refused may be
  pub record Free (k : ℕ) : Type 0 where
    pub room : leb 2000 k ≡ false
    pub letter : is_letter e.letter ≡ true
    pub apart : is_weighed (records_rules ls rs) e.letter ≡ false
    pub fits : excess_refusal k e.weights ≡ None

  free : (k : ℕ) → counts_some e.weights ≡ true → letter_refusal (records_rules ls rs) k e ≡ None → Free k
  free k c f = go (leb 2000 k) (is_letter e.letter) (is_weighed (records_rules ls rs) e.letter) refl refl refl (sym (cond-false _ _ _ (ap not c)) ∙ f)
    where
      go : (x y z : Bool) → leb 2000 k ≡ x → is_letter e.letter ≡ y → is_weighed (records_rules ls rs) e.letter ≡ z →
          cond x (Some TooManyLetters) (cond (not y) (Some (NoLetter k)) (cond z (Some (LetterTwice k)) (excess_refusal k e.weights))) ≡ None → Free k
      go true y z p q s h = absurd (none-some TooManyLetters (sym h))
      go false false z p q s h = absurd (none-some (NoLetter k) (sym h))
      go false true true p q s h = absurd (none-some (LetterTwice k) (sym h))
      go false true false p q s h = record { room = p; letter = q; apart = s; fits = h }

  many_more : many_weighing (ls ++ e ∷ []) ≡ many_weighing ls + cond (counts_some e.weights) 1 0
  many_more = ap length (filter-append (λ x. counts_some x.weights) ls (e ∷ [])) ∙ (length-append (filter (λ x. counts_some x.weights) ls) (filter (λ x. counts_some x.weights) (e ∷ [])) ∙ ap (λ n. many_weighing ls + n) (one (counts_some e.weights)))
    where
      one : (b : Bool) → length (cond b (e ∷ []) []) ≡ cond b 1 0
      one true = refl
      one false = refl

  few_letters : letters_refusal ls ≡ None → (ltb 2000 (many_weighing ls) ≡ false) × (first_refusal letter_record [] ls ≡ None)
  few_letters h = go (ltb 2000 (many_weighing ls)) refl h
    where
      go : (b : Bool) → ltb 2000 (many_weighing ls) ≡ b → cond b (Some TooManyLetters) (first_refusal letter_record [] ls) ≡ None → (ltb 2000 (many_weighing ls) ≡ false) × (first_refusal letter_record [] ls ≡ None)
      go true q h = absurd (none-some TooManyLetters (sym h))
      go false q h = (q, h)

  -- the records with an entry behind against which nothing speaks
  entry_more : records_refusal ls rs ≡ None → ltb 2000 (many_weighing (ls ++ e ∷ [])) ≡ false → letter_record ls e ≡ None → excess_record ls e ≡ None → records_refusal (ls ++ e ∷ []) rs ≡ None
  entry_more i l a x =
      let runs = first_none _ _ i in
      let behind = second_none _ _ i in
      let letters = few_letters (first_none _ _ behind) in
      let fits = second_none _ _ behind in
      let p = next_looked letter_record [] ls e letters.1 ∙ a in
      let q = next_looked excess_record [] ls e (second_none _ _ fits) ∙ x in
      ap₂ option_or runs (ap₂ option_or (ap₂ (λ b o. cond b (Some TooManyLetters) o) l p) (ap₂ option_or (first_none _ _ fits) q))

  letters_none : records_refusal ls rs ≡ None → letters_refusal ls ≡ None
  letters_none i =
      let fits = option_or (first_refusal length_record [] rs) (first_refusal excess_record [] ls) in
      first_none (letters_refusal ls) fits (second_none (runs_refusal rs) (option_or (letters_refusal ls) fits) i)

  excess_none : records_refusal ls rs ≡ None → first_refusal excess_record [] ls ≡ None
  excess_none i =
      let fits = option_or (first_refusal length_record [] rs) (first_refusal excess_record [] ls) in
      second_none (first_refusal length_record [] rs) (first_refusal excess_record [] ls) (second_none (letters_refusal ls) fits (second_none (runs_refusal rs) (option_or (letters_refusal ls) fits) i))

  taken_more : records_refusal ls rs ≡ None → letter_refusal (records_rules ls rs) (many_weighing ls) e ≡ None → records_refusal (ls ++ e ∷ []) rs ≡ None
  taken_more i f = go (counts_some e.weights) refl
    where
      none : (x : Triples) → counts_some x ≡ false → (k : ℕ) → excess_refusal k x ≡ None
      none (One w) c k = refl
      none (Several w) c k = refl
      none Excess c k = absurd (true≢false c)

      same : (x : Triples) (j k : ℕ) → excess_refusal j x ≡ None → excess_refusal k x ≡ None
      same (One w) j k h = refl
      same (Several w) j k h = refl
      same Excess j k h = absurd (none-some _ (sym h))

      go : (b : Bool) → counts_some e.weights ≡ b → records_refusal (ls ++ e ∷ []) rs ≡ None
      go false c =
          let m = many_more in
          let l : ltb 2000 (many_weighing ls) ≡ false = (few_letters (letters_none i)).0 in
          entry_more i (grind (arith, nat_tests)) (cond-false _ _ _ c) (none e.weights c (length ls))
      go true c =
          let m = many_more in
          let q = free (many_weighing ls) c f in
          let r = q.room in
          let t = not_weighed ls rs e.letter (excess_none i) q.apart in
          entry_more i (grind (arith, nat_tests))
          (cond-true _ _ _ c ∙ (cond-false _ _ _ (ap not q.letter) ∙ cond-false _ _ _ t))
          (same e.weights (many_weighing ls) (length ls) q.fits)

  rules_told : records_refusal ls rs ≡ None → letter_refusal (records_rules ls rs) (many_weighing ls) e ≡ None → with_entry (records_rules ls rs) e ≡ records_rules (ls ++ e ∷ []) rs
  rules_told i f = go (counts_some e.weights) refl
    where
      zero_too : (x : Triples) (j : ℕ) → excess_refusal j x ≡ None → excess_refusal 0 x ≡ None
      zero_too (One w) j h = refl
      zero_too (Several w) j h = refl
      zero_too Excess j h = absurd (none-some _ (sym h))

      go : (b : Bool) → counts_some e.weights ≡ b → with_entry (records_rules ls rs) e ≡ records_rules (ls ++ e ∷ []) rs
      go false c = cond-false _ _ _ c ∙ none_more e ls rs c
      go true c =
          let q = free (many_weighing ls) c f in
          cond-true _ _ _ c ∙ letter_more e ls rs c (not_weighed ls rs e.letter (excess_none i) q.apart) (zero_too e.weights (many_weighing ls) q.fits)

letter_filled : (ls : List LetterEntry) (rs : List Run) (b c : TableBuf) (e : LetterEntry) → IsOf ls rs b →
    letter_refusal (buffer_rules b) (buffer_letters b) e ≡ None → EntryIn b e c → IsOf (ls ++ e ∷ []) rs c
letter_filled ls rs b c e i f d =
    let n = ap₂ (λ t k. letter_refusal t k e) (sym i.said.0) (sym i.said.1) ∙ f in
    record {
      taken = taken_more ls rs e i.taken n;
      said = (
        d.0 ∙ (ap (λ t. with_entry t e) i.said.0 ∙ rules_told ls rs e i.taken n),
        d.1 ∙ (ap (λ k. k + cond (counts_some e.weights) 1 0) i.said.1 ∙ sym (many_more ls rs e)),
        ap₂ many_runs d.2 d.3 ∙ i.said.2,
      );
    }

pub filled_by_records : FilledByRecords
unfolding first_refusal
filled_by_records = record {
  blank = λ b r l n. record { taken = refl; said = (r ∙ none_told, l, n) };
  letter = letter_filled;
  pair = pair_filled;
  long = long_filled;
}
  where
    pair_filled : (ls : List LetterEntry) (rs : List Run) (b c : TableBuf) (r : Run) (p : Pair) → IsOf ls rs b →
        (r.letters.now ≡ p.first ∷ (p.second ∷ [])) × (r.weights ≡ p.weights) →
        pair_refusal (buffer_rules b) (buffer_runs b) p ≡ None → PairIn b p c → IsOf ls (rs ++ r ∷ []) c
    pair_filled ls rs b c r p i q f d =
        let n = ap length q.0 in
        run_filled ls rs b c r i (omega arith) ((same_run_refusal ls rs b r i).0 p q.0 ∙ f)
        (ap (buffer_rules b).joins q.0 ∙ not_yet (buffer_rules b) (buffer_runs b) _ _ f)
        (d.0 ∙ ap₂ (with_run (buffer_rules b)) (sym q.0) (sym q.1), d.1, ap₂ many_runs d.2 d.3 ∙ one_pair (buffer_pairs b) p (buffer_longs b))
      where
        one_pair : (ps : List Pair) (p : Pair) (es : List Long) → many_runs (ps ++ p ∷ []) es ≡ many_runs ps es + 1
        one_pair ps p es = let l = length-append ps (p ∷ []) in omega arith

    long_filled : (ls : List LetterEntry) (rs : List Run) (b c : TableBuf) (r : Run) (e : Long) → IsOf ls rs b →
        (r.letters.now ≡ long_letters e.run) × (r.weights ≡ e.weights) →
        long_refusal (buffer_rules b) (buffer_runs b) e ≡ None → LongIn b e c → IsOf ls (rs ++ r ∷ []) c
    long_filled ls rs b c r e i q f d =
        let n = ap length q.0 in
        run_filled ls rs b c r i (omega arith) ((same_run_refusal ls rs b r i).1 e q.0 ∙ f)
        (ap (buffer_rules b).joins q.0 ∙ not_yet (buffer_rules b) (buffer_runs b) _ _ f)
        (d.0 ∙ ap₂ (with_run (buffer_rules b)) (sym q.0) (sym q.1), d.1, ap₂ many_runs d.2 d.3 ∙ one_long (buffer_pairs b) e (buffer_longs b))
      where
        one_long : (ps : List Pair) (e : Long) (es : List Long) → many_runs ps (put_in long_rank e es) ≡ many_runs ps es + 1
        one_long ps e es = let l = length-insert es (below long_rank es (long_rank e)) e (below_most long_rank es (long_rank e)) in omega arith
