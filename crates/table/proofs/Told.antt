-- What lent records say, one record more at a time, and the first refusal of a list of them.
use Rattle.std.proofs.Common.{◌≡◌, ℕ, zero, suc, ◌+◌, ◌-◌, ◌<◌, ◌≤◌, Bool, true, false, cond, not, ◌&&◌, ◌||◌, eqb, ltb, List, [], ◌∷◌, ◌++◌, length, get_or, take, drop, Some, None, Ok, Err, Option, Result, IsErrAnd, ◌⊎◌, ⊎_elim, refl, sym, ap, ap₂, ◌∙◌, arith}
use Rattle.std.specs.List.{list_any}
use Rattle.std.specs.Option.{option_or}
use Rattle.std.proofs.lemmas.Bool.{cond-false, cond-true, eqb-true, le-ltb, or_parts, true≢false}
use Rattle.std.proofs.lemmas.Option.{none-some}
use Rattle.std.proofs.lemmas.Bool.Decides.{nat_tests}
use Rattle.std.proofs.lemmas.List.Folds.{list_any-append}
use Rattle.std.proofs.lemmas.List.Filters.{length-filter_more}
use Rattle.utf8.specs.Letters.{is_letter}
use Rattle.std.proofs.lemmas.List.{append_assoc, append-nil, drop_all, drop_more, length-take-le, take_more}
use Rattle.table.specs.declared.fault.Refusal.{Refusal}
use Rattle.pieces.specs.declared.piece.Expanded.{Expanded}
use Rattle.pieces.specs.declared.piece.LetterEntry.{LetterEntry}
use Rattle.pieces.specs.declared.piece.Run.{Run}
use Rattle.pieces.specs.declared.piece.Triples.{Triples}
use Rattle.pieces.specs.declared.piece.Triples.TheVariants.{Excess, One, Several}
use Rattle.pieces.specs.declared.piece.Weights.{Weights}
use Rattle.pieces.proofs.Finding.{equal_same, same_equal}
use Rattle.table.specs.Buffer.{excess_refusal}
use Rattle.table.specs.Records.{IsFree, excess_record, first_refusal, foreign_record, is_told, length_record, letter_record, letter_told, letters_refusal, many_weighing, records_expand, records_rules, records_weigh, run_told, runs_refusal, twice_record}
use Rattle.table.specs.Refusals.{unknown_run, verdict}
use Rattle.table.specs.declared.fault.Refusal.TheVariants.{Foreign, LetterTwice, NoLetter, RunLength, Twice}
use Rattle.table.specs.Rules.{Rules, no_rules, with_expansion, with_letter, with_run, with_triples}
use Rattle.pieces.specs.Runs.{alone, counts_some, expanded, nothing, same_run, several}
use Rattle.table.proofs.Saying.{same_rules}

-- looking through records
module _ {A : Type 0} (look : List A → A → Option Refusal) where
  module _ (xs : List A) (k : ℕ) (d : A) (l : k < length xs) where
    one_looked : first_refusal look (take k xs) (drop k xs) ≡ option_or (look (take k xs) (get_or xs k d)) (first_refusal look (take (k + 1) xs) (drop (k + 1) xs))
    unfolding first_refusal
    one_looked =
        ap (first_refusal look (take k xs)) (drop_more xs k d l)
        ∙ ap (λ f. option_or (look (take k xs) (get_or xs k d)) (first_refusal look f (drop (k + 1) xs))) (sym (take_more xs k d l))

    -- it is none, and the next ones are looked at
    pub looked_past : (r : Option Refusal) → first_refusal look (take k xs) (drop k xs) ≡ r → look (take k xs) (get_or xs k d) ≡ None → first_refusal look (take (k + 1) xs) (drop (k + 1) xs) ≡ r
    looked_past r i e = ap (λ o. option_or o (first_refusal look (take (k + 1) xs) (drop (k + 1) xs))) (sym e) ∙ (sym one_looked ∙ i)

    -- it is the first
    pub looked_at : (r : Option Refusal) → first_refusal look (take k xs) (drop k xs) ≡ r → (why : Refusal) → look (take k xs) (get_or xs k d) ≡ Some why → r ≡ Some why
    looked_at r i why e = sym i ∙ (one_looked ∙ ap (λ o. option_or o (first_refusal look (take (k + 1) xs) (drop (k + 1) xs))) e)

  -- there is none
  pub looked_through : (xs : List A) (k : ℕ) → length xs ≤ k → (r : Option Refusal) → first_refusal look (take k xs) (drop k xs) ≡ r → r ≡ None
  unfolding first_refusal
  looked_through xs k l r i = sym i ∙ ap (first_refusal look (take k xs)) (drop_all k xs l)

  -- where there is none, each record passes
  each_passes : (front xs : List A) → first_refusal look front xs ≡ None → (k : ℕ) (d : A) → k < length xs → look (front ++ take k xs) (get_or xs k d) ≡ None
  unfolding first_refusal
  each_passes front [] e k d l = absurd (omega arith)
  each_passes front (x ∷ xs) e zero d l = ap (λ f. look f x) (append-nil front) ∙ or_none (look front x) _ e
    where
      or_none : (o p : Option Refusal) → option_or o p ≡ None → o ≡ None
      or_none None p e = refl
      or_none (Some w) p e = e
  each_passes front (x ∷ xs) e (suc k) d l =
      let ih = each_passes (front ++ x ∷ []) xs (or_none (look front x) _ e) k d (omega arith) in
      ap (λ f. look f (get_or xs k d)) (sym (append_assoc front (x ∷ []) (take k xs))) ∙ ih
    where
      or_none : (o p : Option Refusal) → option_or o p ≡ None → p ≡ None
      or_none None p e = e
      or_none (Some w) p e = grind arith

  pub passes : (xs : List A) → first_refusal look [] xs ≡ None → (k : ℕ) (d : A) → k < length xs → look (take k xs) (get_or xs k d) ≡ None
  passes = each_passes []

-- one run more
module _ (r : Run) where
  told_run : (rs : List Run) (run : List ℕ) → is_told rs r.letters.now ≡ false → run_told (rs ++ r ∷ []) run ≡ cond (same_run r.letters.now run) r.weights (run_told rs run)
  unfolding run_told
  told_run [] run n = refl
  told_run (q ∷ rs) run n =
      let p = or_parts (same_run q.letters.now r.letters.now) (is_told rs r.letters.now) n in
      ap (λ w. cond (same_run q.letters.now run) q.weights w) (told_run rs run p.1)
      ∙ turned (same_run q.letters.now run) (same_run r.letters.now run) (run_told rs run) (λ a b. apart a b p.0)
    where
      apart : same_run q.letters.now run ≡ true → same_run r.letters.now run ≡ true → same_run q.letters.now r.letters.now ≡ false → ⊥
      apart a b c =
          true≢false (sym (ap₂ same_run (same_equal q.letters.now run a) (same_equal r.letters.now run b) ∙ equal_same run) ∙ c)

      turned : (x y : Bool) (w : Weights) → (x ≡ true → y ≡ true → ⊥) → cond x q.weights (cond y r.weights w) ≡ cond y r.weights (cond x q.weights w)
      turned true true w h = absurd (h refl refl)
      turned true false w h = refl
      turned false y w h = refl

  or_turned : (x y : Bool) → (x || (y || false)) ≡ (y || x)
  or_turned true true = refl
  or_turned true false = refl
  or_turned false true = refl
  or_turned false false = refl

  -- two letters or more are none, and no letter alone
  not_none : (ls : List ℕ) → 2 ≤ length ls → same_run ls [] ≡ false
  not_none [] l = absurd (omega arith)
  not_none (a ∷ ls) l = refl

  not_alone : (ls : List ℕ) (a : ℕ) → 2 ≤ length ls → same_run ls (a ∷ []) ≡ false
  not_alone [] a l = absurd (omega arith)
  not_alone (b ∷ []) a l = absurd (omega arith)
  not_alone (b ∷ (c ∷ ls)) a l = grind arith

  pub run_more : (ls : List LetterEntry) (rs : List Run) → is_told rs r.letters.now ≡ false → 2 ≤ length r.letters.now → with_run (records_rules ls rs) r.letters.now r.weights ≡ records_rules ls (rs ++ r ∷ [])
  run_more ls rs n l = sym (same_rules (records_rules ls (rs ++ r ∷ [])) (with_run (records_rules ls rs) r.letters.now r.weights) joins weighs (λ run. refl) refl)
    where
      joins : (run : List ℕ) → is_told (rs ++ r ∷ []) run ≡ (same_run r.letters.now run || is_told rs run)
      joins run =
          list_any-append (λ q. same_run q.letters.now run) rs (r ∷ [])
          ∙ or_turned (is_told rs run) (same_run r.letters.now run)

      weighs : (run : List ℕ) → records_weigh ls (rs ++ r ∷ []) run ≡ cond (same_run r.letters.now run) r.weights (records_weigh ls rs run)
      weighs [] = sym (cond-false _ _ _ (not_none r.letters.now l))
      weighs (a ∷ []) = sym (cond-false _ _ _ (not_alone r.letters.now a l))
      weighs (a ∷ (b ∷ run)) = told_run rs (a ∷ (b ∷ run)) n

-- a letter that no entry tells of weighs nothing
pub untold : (ls : List LetterEntry) (a : ℕ) → counts_some (letter_told ls a) ≡ false → letter_told ls a ≡ One nothing
unfolding letter_told
untold [] a h = refl
untold (f ∷ ls) a h = go (eqb f.letter a) (counts_some f.weights) refl h (untold ls a)
  where
    go : (x y : Bool) → counts_some f.weights ≡ y → counts_some (cond (x && y) f.weights (letter_told ls a)) ≡ false → (counts_some (letter_told ls a) ≡ false → letter_told ls a ≡ One nothing)
        → cond (x && y) f.weights (letter_told ls a) ≡ One nothing
    go true true q h ih = absurd (true≢false (sym q ∙ h))
    go true false q h ih = ih h
    go false y q h ih = ih h

-- one entry more
module _ (e : LetterEntry) where
  told_letter : (ls : List LetterEntry) (a : ℕ) → counts_some e.weights ≡ true → counts_some (letter_told ls e.letter) ≡ false → letter_told (ls ++ e ∷ []) a ≡ cond (eqb e.letter a && true) e.weights (letter_told ls a)
  unfolding letter_told
  told_letter [] a c n = grind (arith, nat_tests)
  told_letter (f ∷ ls) a c n = let ih = told_letter ls a in grind (arith, nat_tests)

  not_told : (ls : List LetterEntry) (a : ℕ) → counts_some e.weights ≡ false → letter_told (ls ++ e ∷ []) a ≡ letter_told ls a
  unfolding letter_told
  not_told [] a c = grind (arith, nat_tests)
  not_told (f ∷ ls) a c = let ih = not_told ls a c in grind (arith, nat_tests)

  module _ (ls : List LetterEntry) (rs : List Run) (c : counts_some e.weights ≡ true) (n : counts_some (letter_told ls e.letter) ≡ false) where
    -- of another letter, and of this one, which was not told of
    by_letter : {B : Type 0} (say : Triples → B) (a : ℕ) (x : B) → (say e.weights ≡ x) → say (letter_told (ls ++ e ∷ []) a) ≡ cond (eqb e.letter a && true) x (say (letter_told ls a))
    by_letter say a x s = ap say (told_letter ls a c n) ∙ go (eqb e.letter a)
      where
        go : (b : Bool) → say (cond (b && true) e.weights (letter_told ls a)) ≡ cond (b && true) x (say (letter_told ls a))
        go true = s
        go false = refl

    by_none : {B : Type 0} (say : Triples → B) (a : ℕ) → say e.weights ≡ say (One nothing) → say (letter_told (ls ++ e ∷ []) a) ≡ say (letter_told ls a)
    by_none say a s = ap say (told_letter ls a c n) ∙ go (eqb e.letter a) refl
      where
        go : (b : Bool) → eqb e.letter a ≡ b → say (cond (b && true) e.weights (letter_told ls a)) ≡ say (letter_told ls a)
        go true q = s ∙ sym (ap say (ap (letter_told ls) (sym (eqb-true e.letter a q)) ∙ untold ls e.letter n))
        go false q = refl

    one_more_told : (w : Weights) → e.weights ≡ One w → with_letter (records_rules ls rs) e.letter w ≡ records_rules (ls ++ e ∷ []) rs
    one_more_told w q = sym (same_rules (records_rules (ls ++ e ∷ []) rs) (with_letter (records_rules ls rs) e.letter w) (λ run. refl) weighs expands refl)
      where
        weighs : (run : List ℕ) → records_weigh (ls ++ e ∷ []) rs run ≡ cond (same_run (e.letter ∷ []) run) w (records_weigh ls rs run)
        weighs [] = refl
        weighs (a ∷ []) = by_letter alone a w (ap alone q)
        weighs (a ∷ (b ∷ run)) = grind (arith, nat_tests)

        expands : (run : List ℕ) → records_expand (ls ++ e ∷ []) run ≡ records_expand ls run
        expands [] = refl
        expands (a ∷ []) = by_none several a (ap several q)
        expands (a ∷ (b ∷ run)) = refl

    several_told : (x : Expanded) → e.weights ≡ Several x → with_expansion (records_rules ls rs) e.letter (expanded x) ≡ records_rules (ls ++ e ∷ []) rs
    several_told x q = sym (same_rules (records_rules (ls ++ e ∷ []) rs) (with_expansion (records_rules ls rs) e.letter (expanded x)) (λ run. refl) weighs expands refl)
      where
        weighs : (run : List ℕ) → records_weigh (ls ++ e ∷ []) rs run ≡ records_weigh ls rs run
        weighs [] = refl
        weighs (a ∷ []) = by_none alone a (ap alone q)
        weighs (a ∷ (b ∷ run)) = refl

        expands : (run : List ℕ) → records_expand (ls ++ e ∷ []) run ≡ cond (same_run (e.letter ∷ []) run) (expanded x) (records_expand ls run)
        expands [] = refl
        expands (a ∷ []) = by_letter several a (expanded x) (ap several q)
        expands (a ∷ (b ∷ run)) = grind (arith, nat_tests)

    pub letter_more : excess_refusal 0 e.weights ≡ None → with_triples (records_rules ls rs) e.letter e.weights ≡ records_rules (ls ++ e ∷ []) rs
    letter_more f = go e.weights refl f
      where
        go : (x : Triples) → e.weights ≡ x → excess_refusal 0 x ≡ None → with_triples (records_rules ls rs) e.letter x ≡ records_rules (ls ++ e ∷ []) rs
        go (One w) q f = one_more_told w q
        go (Several x) q f = several_told x q
        go Excess q f = absurd (none-some _ (sym f))

  pub none_more : (ls : List LetterEntry) (rs : List Run) → counts_some e.weights ≡ false → records_rules ls rs ≡ records_rules (ls ++ e ∷ []) rs
  none_more ls rs c = sym (same_rules (records_rules (ls ++ e ∷ []) rs) (records_rules ls rs) (λ run. refl) weighs expands refl)
    where
      weighs : (run : List ℕ) → records_weigh (ls ++ e ∷ []) rs run ≡ records_weigh ls rs run
      weighs [] = refl
      weighs (a ∷ []) = ap alone (not_told ls a c)
      weighs (a ∷ (b ∷ run)) = refl

      expands : (run : List ℕ) → records_expand (ls ++ e ∷ []) run ≡ records_expand ls run
      expands [] = refl
      expands (a ∷ []) = ap several (not_told ls a c)
      expands (a ∷ (b ∷ run)) = refl

-- whether an entry tells what a letter weighs
pub any_told : (a : ℕ) (es : List LetterEntry) → list_any (λ e. eqb e.letter a && counts_some e.weights) es ≡ counts_some (letter_told es a)
unfolding letter_told
any_told a [] = refl
any_told a (e ∷ es) = let ih = any_told a es in grind (arith, nat_tests)

-- what is found at a place
pub foreign_at : (rs : List Run) (k : ℕ) (r : Run) (b : Bool) → k < length rs → unknown_run true r.letters.now ≡ b → foreign_record (take k rs) r ≡ cond b (Some (Foreign k)) None
foreign_at rs k r b l e = let n = length-take-le k rs (omega arith) in rw (e, n)

pub twice_at : (rs : List Run) (k : ℕ) (r : Run) (b : Bool) → k < length rs → is_told (take k rs) r.letters.now ≡ b → twice_record (take k rs) r ≡ cond b (Some (Twice k)) None
twice_at rs k r b l e = let n = length-take-le k rs (omega arith) in rw (e, n)

pub length_at : (rs : List Run) (k : ℕ) (r : Run) (b : Bool) → k < length rs → (ltb (length r.letters.now) 2 || ltb 4 (length r.letters.now)) ≡ b → length_record (take k rs) r ≡ cond b (Some (RunLength k)) None
length_at rs k r b l e = let n = length-take-le k rs (omega arith) in rw (e, n)

-- a record that stands for none, since a place beyond the last one is asked for with something to answer
abbrev pub no_letter : LetterEntry
no_letter = record { letter = 0; weights = One nothing }

abbrev pub no_run : Run
no_run = record { letters = record { ref_ptr = (0, 0); now = [] }; weights = nothing }

-- whether so many letters are too few or too many
pub unfit : (n : ℕ) → (n < 2) ⊎ (4 < n) → (ltb n 2 || ltb 4 n) ≡ true
unfit n l = ⊎_elim (λ a. grind (arith, nat_tests)) (λ a. grind (arith, nat_tests)) l

pub fit : (n : ℕ) → 2 ≤ n → n ≤ 4 → (ltb n 2 || ltb 4 n) ≡ false
fit n l m = grind (arith, nat_tests)

pub none_off : (k : ℕ) → k - 0 ≡ k
none_off k = omega arith

-- where letters are few enough, what is left to find is an entry
pub few_letters : (ls : List LetterEntry) → many_weighing ls ≤ 2000 → letters_refusal ls ≡ first_refusal letter_record [] ls
few_letters ls l = let e = le-ltb 2000 (many_weighing ls) l in rw e

-- what is refused is the verdict
pub refusal_told : (o : Option Refusal) (why : Refusal) (r : Result Unit Refusal) → IsErrAnd r (λ e. e ≡ why) → o ≡ Some why → r ≡ verdict o
refusal_told o why (Ok x) h e = absurd h
refusal_told o why (Err w) h e = ap Err h ∙ ap verdict (sym e)

-- the next run of which none is refused is free, and has two to four letters
pub run_free : (rs : List Run) → runs_refusal rs ≡ None → (k : ℕ) (d : Run) → k < length rs → (t : Rules) (n : ℕ) → t ≡ records_rules [] (take k rs) → n ≡ length (take k rs)
    → IsFree t n (get_or rs k d).letters.now
run_free rs e k d l t n q m =
    let r = get_or rs k d in
    let h = length-take-le k rs (omega arith) in
    let few : length rs ≤ 200 = grind (arith, nat_tests) in
    let f = passes foreign_record rs (grind arith) k d l in
    let g = passes twice_record rs (grind arith) k d l in
    record {
      room = omega arith;
      known = ap (λ u. unknown_run u r.letters.now) (ap (λ x. x.utf8) q) ∙ none_some (unknown_run true r.letters.now) (Foreign (length (take k rs))) f;
      apart = ap (λ x. x.joins r.letters.now) q ∙ none_some (is_told (take k rs) r.letters.now) (Twice (length (take k rs))) g;
    }
  where
    none_some : (b : Bool) (why : Refusal) → cond b (Some why) None ≡ None → b ≡ false
    none_some true why e = absurd (none-some why (sym e))
    none_some false why e = refl

pub run_fits : (rs : List Run) → first_refusal length_record [] rs ≡ None → (k : ℕ) (d : Run) → k < length rs → (2 ≤ length (get_or rs k d).letters.now) × (length (get_or rs k d).letters.now ≤ 4)
run_fits rs e k d l =
    let f = passes length_record rs e k d l in
    (grind (arith, nat_tests), grind (arith, nat_tests))

-- nor is an entry that weighs something
pub entry_free : (ls : List LetterEntry) → letters_refusal ls ≡ None → (k : ℕ) → k < length ls → counts_some (get_or ls k no_letter).weights ≡ true →
    (is_letter (get_or ls k no_letter).letter ≡ true) × (counts_some (letter_told (take k ls) (get_or ls k no_letter).letter) ≡ false)
entry_free ls e k l c =
    let f = passes letter_record ls (grind arith) k no_letter l in
    free (is_letter (get_or ls k no_letter).letter) (counts_some (letter_told (take k ls) (get_or ls k no_letter).letter)) (sym (cond-true _ _ _ c) ∙ f)
  where
    free : (x y : Bool) → cond (not x) (Some (NoLetter (length (take k ls)))) (cond y (Some (LetterTwice (length (take k ls)))) None) ≡ None → (x ≡ true) × (y ≡ false)
    free false y h = absurd (none-some _ (sym h))
    free true true h = absurd (none-some _ (sym h))
    free true false h = (refl, refl)

-- and none weighs as more than three
pub entry_fits : (ls : List LetterEntry) → first_refusal excess_record [] ls ≡ None → (k : ℕ) → k < length ls → excess_refusal 0 (get_or ls k no_letter).weights ≡ None
entry_fits ls e k l = go (get_or ls k no_letter).weights (passes excess_record ls e k no_letter l)
  where
    go : (x : Triples) → excess_refusal (length (take k ls)) x ≡ None → excess_refusal 0 x ≡ None
    go (One w) h = refl
    go (Several x) h = refl
    go Excess h = absurd (none-some _ (sym h))

-- what an entry weighs is found at its place
pub excess_at : (ls : List LetterEntry) (k : ℕ) (e : LetterEntry) (o : Option Refusal) → k < length ls → excess_refusal k e.weights ≡ o → excess_record (take k ls) e ≡ o
excess_at ls k e o l h = let n = length-take-le k ls (omega arith) in rw n h

-- one more of the records says what it says
pub run_said : (rs : List Run) → runs_refusal rs ≡ None → first_refusal length_record [] rs ≡ None → (k : ℕ) (d : Run) → k < length rs
    → with_run (records_rules [] (take k rs)) (get_or rs k d).letters.now (get_or rs k d).weights ≡ records_rules [] (take (k + 1) rs)
run_said rs e f k d l =
    let q = run_free rs e k d l (records_rules [] (take k rs)) (length (take k rs)) refl refl in
    run_more (get_or rs k d) [] (take k rs) q.apart (run_fits rs f k d l).0 ∙ ap (records_rules []) (sym (take_more rs k d l))

pub letter_said : (ls : List LetterEntry) (rs : List Run) → letters_refusal ls ≡ None → first_refusal excess_record [] ls ≡ None → (k : ℕ) → k < length ls → (e : LetterEntry) → e ≡ get_or ls k no_letter → counts_some e.weights ≡ true →
    with_triples (records_rules (take k ls) rs) e.letter e.weights ≡ records_rules (take (k + 1) ls) rs
letter_said ls rs n m k l e q c =
    let f = entry_free ls n k l (ap (λ x. counts_some x.weights) (sym q) ∙ c) in
    letter_more e (take k ls) rs c (ap (λ x. counts_some (letter_told (take k ls) x.letter)) q ∙ f.1) (ap (λ x. excess_refusal 0 x.weights) q ∙ entry_fits ls m k l)
    ∙ (ap (λ x. records_rules (take k ls ++ x ∷ []) rs) q ∙ ap (λ xs. records_rules xs rs) (sym (take_more ls k no_letter l)))

pub nothing_said : (ls : List LetterEntry) (rs : List Run) (k : ℕ) → k < length ls → counts_some (get_or ls k no_letter).weights ≡ false → records_rules (take k ls) rs ≡ records_rules (take (k + 1) ls) rs
nothing_said ls rs k l c = none_more (get_or ls k no_letter) (take k ls) rs c ∙ ap (λ xs. records_rules xs rs) (sym (take_more ls k no_letter l))

-- how many weigh something
pub many_said : (ls : List LetterEntry) (k : ℕ) (b : Bool) → k < length ls → counts_some (get_or ls k no_letter).weights ≡ b → many_weighing (take (k + 1) ls) ≡ many_weighing (take k ls) + cond b 1 0
many_said ls k b l c = length-filter_more (λ e. counts_some e.weights) ls k no_letter l ∙ ap (λ x. many_weighing (take k ls) + cond x 1 0) c

-- no records say nothing
pub none_told : no_rules true ≡ records_rules [] []
unfolding letter_told run_told
none_told = same_rules (no_rules true) (records_rules [] []) (λ run. refl) weighs expands refl
  where
    weighs : (run : List ℕ) → nothing ≡ records_weigh [] [] run
    weighs [] = refl
    weighs (a ∷ []) = refl
    weighs (a ∷ (b ∷ run)) = refl

    expands : (run : List ℕ) → [] ≡ records_expand [] run
    expands [] = refl
    expands (a ∷ []) = refl
    expands (a ∷ (b ∷ run)) = refl

-- so many records, and one more
pub one_more : (rs : List Run) (k n : ℕ) → n ≡ length (take k rs) → k < length rs → n + 1 ≡ length (take (k + 1) rs)
one_more rs k n e l =
    let m = length-take-le k rs (omega arith) in
    let o = length-take-le (k + 1) rs (omega arith) in
    omega arith
