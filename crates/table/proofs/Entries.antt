-- Entries of letters above 255, and of letters that weigh as two or three: looking one up, and putting one in.
use Rattle.std.proofs.Common.{◌≡◌, ℕ, zero, suc, ◌-◌, ◌<◌, ◌≤◌, Bool, true, false, cond, not, ◌&&◌, eqb, ltb, leb, List, [], ◌∷◌, ◌++◌, length, is_some, Some, None, Option, refl, sym, ap, ◌∙◌, arith}
use Rattle.std.specs.List.{list_all, slice_get}
use Rattle.std.proofs.lemmas.Bool.{and_parts, eqb-false, lt-ltb, ltb-true, true≢false}
use Rattle.std.proofs.lemmas.Bool.Decides.{nat_tests}
use Rattle.std.proofs.lemmas.Option.{none-some, same_Some}
use Rattle.std.specs.Option.{option_map}
use Rattle.pieces.specs.declared.piece.Expanded.{Expanded}
use Rattle.pieces.specs.declared.piece.Weights.{Weights}
use Rattle.pieces.specs.declared.piece.Expansion.{Expansion}
use Rattle.pieces.specs.declared.piece.Letter.{Letter}
use Rattle.pieces.specs.declared.piece.Triples.TheVariants.{Several}
use Rattle.pieces.specs.Ranks.{at_rank, climbs, put_in}
use Rattle.pieces.specs.Runs.{counts, counts_some, expanded, expanded_among, expanded_if, expansion_rank, letter_rank, one_or_none, same_run}
use Rattle.pieces.proofs.Ranking.{all_put, climbs_put, its_place, its_rank, rank_put}
use Rattle.table.specs.Entries.{are_expansions, is_expansion, is_letter_of, is_other}
use Rattle.table.specs.Rules.{Rules, as_entered, expands_in, letter_weighs, weights_among, weights_if, with_expansion, with_expansions}
use Rattle.table.proofs.Saying.{same_rules}
use Rattle.utf8.specs.Letters.{is_letter}

-- what holds of all holds of each
pub every_at : {A : Type 0} (test : A → Bool) (xs : List A) (k : ℕ) (x : A) → list_all test xs ≡ true → slice_get xs k ≡ Some x → test x ≡ true
every_at test [] k x h q = absurd (none-some x q)
every_at test (y ∷ xs) zero x h q = ap test (sym (same_Some y x q)) ∙ (and_parts (test y) (list_all test xs) h).0
every_at test (y ∷ xs) (suc k) x h q = every_at test xs k x (and_parts (test y) (list_all test xs) h).1 q

-- ---- letters above 255

-- each entry weighs what it says
pub entry_weighs : (es : List Letter) (k : ℕ) (e : Letter) → climbs letter_rank es ≡ true → slice_get es k ≡ Some e → weights_among es e.letter ≡ e.weights
entry_weighs es k e s h = ap weights_if (its_rank letter_rank es k e s h)

-- what weighs something has an entry
pub has_entry : (es : List Letter) (a : ℕ) → counts (weights_among es a) ≡ true → (k : ℕ) × (e : Letter) × (slice_get es k ≡ Some e) × (e.letter ≡ a)
has_entry es a h = go (at_rank letter_rank es a) refl h
  where
    go : (o : Option Letter) → at_rank letter_rank es a ≡ o → counts (weights_if o) ≡ true → (k : ℕ) × (e : Letter) × (slice_get es k ≡ Some e) × (e.letter ≡ a)
    go None e h = absurd (true≢false (sym h))
    go (Some x) e h = let p = its_place letter_rank es a x e in (p.0, x, p.1, p.2)

-- what weighs nothing has none
none_weighed : (es : List Letter) (a : ℕ) → list_all is_other es ≡ true → counts (weights_among es a) ≡ false → at_rank letter_rank es a ≡ None
none_weighed es a o h = go (at_rank letter_rank es a) refl h
  where
    go : (r : Option Letter) → at_rank letter_rank es a ≡ r → counts (weights_if r) ≡ false → r ≡ None
    go None e h = refl
    go (Some x) e h =
        let p = its_place letter_rank es a x e in
        let q = (and_parts _ _ (and_parts (leb 256 x.letter) _ (every_at is_other es p.0 x o p.1)).1).1 in
        absurd (true≢false (sym q ∙ h))

-- one entry more, at its place among the others
module _ (e : Letter) where
  abbrev pub put : List Letter → List Letter
  put es = put_in letter_rank e es

  pub weighs_put : (es : List Letter) (b : ℕ) → weights_among (put es) b ≡ cond (eqb e.letter b) e.weights (weights_among es b)
  weighs_put es b = ap weights_if (rank_put letter_rank e es b) ∙ go (eqb e.letter b)
    where
      go : (t : Bool) → weights_if (cond t (Some e) (at_rank letter_rank es b)) ≡ cond t e.weights (weights_among es b)
      go true = refl
      go false = refl

-- what the entries of a table that owns them are
pub record KeptOthers (u : Bool) (es : List Letter) : Type 0 where
  pub rise : climbs letter_rank es ≡ true
  pub weigh : list_all is_other es ≡ true
  pub bytes : u ≡ false → es ≡ []

other_from : (u : Bool) (e : Letter) → is_letter_of u e.letter ≡ true → 256 ≤ e.letter → counts e.weights ≡ true → (is_other e ≡ true) × (u ≡ false → ⊥)
other_from true e l h c = (grind (arith, nat_tests), λ q. true≢false q)
other_from false e l h c = absurd (let m = ltb-true e.letter 256 l in omega arith)

-- whether it was put in or not
pub others_after : (u : Bool) (e : Letter) (es : List Letter) → KeptOthers u es → is_letter_of u e.letter ≡ true → 256 ≤ e.letter → counts e.weights ≡ true
    → counts (weights_among es e.letter) ≡ false → (fs : List Letter) (done : Bool) → fs ≡ cond done (put e es) es → KeptOthers u fs
others_after u e es k l h c n fs true q =
    let o = other_from u e l h c in
    rw q (record {
      rise = climbs_put letter_rank e es k.rise (none_weighed es e.letter k.weigh n);
      weigh = all_put letter_rank e is_other es o.0 k.weigh;
      bytes = λ b. absurd (o.1 b);
    })
others_after u e es k l h c n fs false q = rw q k

-- ---- letters that weigh as two or three

-- what has such an entry expands, and nothing else does
pub none_expands : (es : List Expansion) (a : ℕ) → ltb 0 (length (expanded_among es a)) ≡ false → at_rank expansion_rank es a ≡ None
none_expands es a h = go (at_rank expansion_rank es a) h
  where
    go : (o : Option Expansion) → ltb 0 (length (expanded_if (option_map (λ e. e.weights) o))) ≡ false → o ≡ None
    go None h = refl
    go (Some x) h = absurd (true≢false (sym (lt-ltb 0 (length (expanded x.weights)) (omega arith)) ∙ h))

pub it_expands : (es : List Expansion) (a : ℕ) → is_some (at_rank expansion_rank es a) ≡ ltb 0 (length (expanded_among es a))
it_expands es a = go (at_rank expansion_rank es a)
  where
    go : (o : Option Expansion) → is_some o ≡ ltb 0 (length (expanded_if (option_map (λ e. e.weights) o)))
    go None = refl
    go (Some x) = sym (lt-ltb 0 (length (expanded x.weights)) (omega arith))

pub some_expands : (es : List Expansion) (a : ℕ) → 0 < length (expanded_among es a) → (k : ℕ) × (e : Expansion) × (slice_get es k ≡ Some e) × (e.letter ≡ a)
some_expands es a h = go (at_rank expansion_rank es a) refl h
  where
    go : (o : Option Expansion) → at_rank expansion_rank es a ≡ o → 0 < length (expanded_if (option_map (λ e. e.weights) o)) → (k : ℕ) × (e : Expansion) × (slice_get es k ≡ Some e) × (e.letter ≡ a)
    go None e h = absurd (omega arith)
    go (Some x) e h = let p = its_place expansion_rank es a x e in (p.0, x, p.1, p.2)

module _ (u : Bool) (ls : List ℕ) (os : List Letter) (es : List Expansion) (right : are_expansions u ls os es ≡ true) where
  pub they_climb : climbs expansion_rank es ≡ true
  they_climb = (and_parts (climbs expansion_rank es) (list_all (is_expansion u ls os) es) right).0

  they_expand : list_all (is_expansion u ls os) es ≡ true
  they_expand = (and_parts (climbs expansion_rank es) (list_all (is_expansion u ls os) es) right).1

  pub each_expands : (k : ℕ) (e : Expansion) → slice_get es k ≡ Some e → is_expansion u ls os e ≡ true
  each_expands k e h = every_at (is_expansion u ls os) es k e they_expand h

  -- such a letter weighs nothing itself
  pub none_itself : (k : ℕ) (e : Expansion) → slice_get es k ≡ Some e → counts (letter_weighs ls os e.letter) ≡ false
  none_itself k e h =
      not_true (counts (letter_weighs ls os e.letter)) (and_parts _ _ (and_parts (is_letter_of u e.letter) _ (each_expands k e h)).1).1
    where
      not_true : (b : Bool) → not b ≡ true → b ≡ false
      not_true false h = refl
      not_true true h = absurd (true≢false (sym h))

  -- one more, at its place among the others
  module _ (e : Expansion) (l : is_letter_of u e.letter ≡ true) (c : counts_some (Several e.weights) ≡ true) (n : counts (letter_weighs ls os e.letter) ≡ false)
      (free : at_rank expansion_rank es e.letter ≡ None) where
    put_expands : are_expansions u ls os (put_in expansion_rank e es) ≡ true
    put_expands =
        both _ _ (climbs_put expansion_rank e es they_climb free)
        (all_put expansion_rank e (is_expansion u ls os) es (both _ _ l (both (counts_some (Several e.weights)) _ c (ap not n))) they_expand)
      where
        both : (x y : Bool) → x ≡ true → y ≡ true → (x && y) ≡ true
        both x y a b = rw (a, b) refl

    -- whether it was put in or not
    pub expansions_after : (fs : List Expansion) (done : Bool) → fs ≡ cond done (put_in expansion_rank e es) es → are_expansions u ls os fs ≡ true
    expansions_after fs true q = rw q put_expands
    expansions_after fs false q = rw q right

  -- beside them another letter may come to weigh something
  pub expansions_beside : (ms : List ℕ) (ps : List Letter) (a : ℕ) → ((b : ℕ) → (a ≡ b → ⊥) → letter_weighs ms ps b ≡ letter_weighs ls os b) → at_rank expansion_rank es a ≡ None → are_expansions u ms ps es ≡ true
  unfolding at_rank
  expansions_beside ms ps a same free = rw they_climb (all_beside es they_expand free)
    where
      all_beside : (xs : List Expansion) → list_all (is_expansion u ls os) xs ≡ true → at_rank expansion_rank xs a ≡ None → list_all (is_expansion u ms ps) xs ≡ true
      all_beside [] h n = refl
      all_beside (x ∷ xs) h n = go (eqb x.letter a) refl n (all_beside xs (and_parts (is_expansion u ls os x) (list_all (is_expansion u ls os) xs) h).1)
        where
          both : (x y : Bool) → x ≡ true → y ≡ true → (x && y) ≡ true
          both x y a b = rw (a, b) refl

          go : (b : Bool) → eqb x.letter a ≡ b → cond b (Some x) (at_rank expansion_rank xs a) ≡ None → (at_rank expansion_rank xs a ≡ None → list_all (is_expansion u ms ps) xs ≡ true)
              → list_all (is_expansion u ms ps) (x ∷ xs) ≡ true
          go true q n ih = absurd (none-some x (sym n))
          go false q n ih =
              let p = and_parts (is_expansion u ls os x) (list_all (is_expansion u ls os) xs) h in
              let r = ih n in
              let s = ap (λ w. is_letter_of u x.letter && (counts_some (Several x.weights) && not (counts w))) (same x.letter (λ e. eqb-false x.letter a q (sym e))) ∙ p.0 in
              both (is_expansion u ms ps x) (list_all (is_expansion u ms ps) xs) s r

-- bytes are letters of UTF-8
letter_in_utf8 : (u : Bool) (a : ℕ) → is_letter_of u a ≡ true → is_letter a ≡ true
letter_in_utf8 true a h = h
letter_in_utf8 false a h = grind (arith, nat_tests)

pub expansions_in_utf8 : (u : Bool) (ls : List ℕ) (os : List Letter) (es : List Expansion) → are_expansions u ls os es ≡ true → are_expansions true ls os es ≡ true
expansions_in_utf8 u ls os es h = rw (they_climb u ls os es h) (go es (they_expand u ls os es h))
  where
    go : (es : List Expansion) → list_all (is_expansion u ls os) es ≡ true → list_all (is_expansion true ls os) es ≡ true
    go [] h = refl
    go (e ∷ es) h =
        let p = and_parts (is_expansion u ls os e) (list_all (is_expansion u ls os) es) h in
        let q = and_parts (is_letter_of u e.letter) _ p.0 in
        let l = letter_in_utf8 u e.letter q.0 in
        let r = q.1 in
        let ih = go es p.1 in
        rw (l, r, ih) refl

-- all that such a letter weighs, as it is entered
pub entered_several : (w : Weights) (e : Expanded) → as_entered w (expanded e) ≡ Several e
entered_several w e = go e.third
  where
    go : (o : Option Weights) → as_entered w (e.first ∷ (e.second ∷ one_or_none o)) ≡ Several (record { first = e.first; second = e.second; third = o })
    go None = refl
    go (Some x) = refl

-- what a table says with one more
pub expansion_beside : (t : Rules) (es : List Expansion) (e : Expansion) → with_expansions t (put_in expansion_rank e es) ≡ with_expansion (with_expansions t es) e.letter (expanded e.weights)
unfolding expands_in
expansion_beside t es e =
    same_rules (with_expansions t (put_in expansion_rank e es)) (with_expansion (with_expansions t es) e.letter (expanded e.weights)) (λ run. refl) (λ run. refl) expands refl
  where
    at : (s : Bool) (o : Option Expansion) → expanded_if (option_map (λ x. x.weights) (cond s (Some e) o)) ≡ cond (s && true) (expanded e.weights) (expanded_if (option_map (λ x. x.weights) o))
    at true o = refl
    at false o = refl

    expands : (run : List ℕ) → expands_in (put_in expansion_rank e es) run ≡ cond (same_run (e.letter ∷ []) run) (expanded e.weights) (expands_in es run)
    expands [] = refl
    expands (a ∷ []) = ap (λ o. expanded_if (option_map (λ x. x.weights) o)) (rank_put expansion_rank e es a) ∙ at (eqb e.letter a) (at_rank expansion_rank es a)
    expands (a ∷ (b ∷ run)) = none (eqb e.letter a)
      where
        none : (s : Bool) → [] ≡ cond (s && false) (expanded e.weights) []
        none true = refl
        none false = refl

-- where no letter expands
pub no_expansions : (t : Rules) → ((run : List ℕ) → t.expands run ≡ []) → with_expansions t [] ≡ t
unfolding at_rank expands_in
no_expansions t h = same_rules (with_expansions t []) t (λ run. refl) (λ run. refl) (λ run. none run ∙ sym (h run)) refl
  where
    none : (run : List ℕ) → expands_in [] run ≡ []
    none [] = refl
    none (a ∷ []) = refl
    none (a ∷ (b ∷ run)) = refl

-- places of two lists, one behind the other
pub slice_get-append_left : {X : Type 0} (xs ys : List X) (k : ℕ) → k < length xs → slice_get (xs ++ ys) k ≡ slice_get xs k
slice_get-append_left [] ys k l = absurd (omega arith)
slice_get-append_left (x ∷ xs) ys zero l = refl
slice_get-append_left (x ∷ xs) ys (suc k) l = slice_get-append_left xs ys k (omega arith)

pub slice_get-append_right : {X : Type 0} (xs ys : List X) (k n : ℕ) → length xs ≡ n → n ≤ k → slice_get (xs ++ ys) k ≡ slice_get ys (k - n)
slice_get-append_right [] ys k n e l = let f : k ≡ k - n = omega arith in ap (slice_get ys) f
slice_get-append_right (x ∷ xs) ys zero n e l = absurd (omega arith)
slice_get-append_right (x ∷ xs) ys (suc k) n e l =
    let f : k - (n - 1) ≡ suc k - n = omega arith in
    slice_get-append_right xs ys k (n - 1) (omega arith) (omega arith) ∙ ap (slice_get ys) f
