-- Deciding whether a newer table keeps old names in their order.
use Rattle.std.proofs.Common.{◌≡◌, ℕ, zero, suc, slice_index_or, ◌+◌, ◌-◌, ◌<◌, ◌≤◌, Bool, true, false, cond, not, ◌&&◌, ◌||◌, ◌==◌, ltb, List, [], ◌∷◌, length, is_some, Bor, Some, None, Ok, Err, IsErrAnd, IsTrue, ◌↔◌, Option, Result, sym, refl, ap, ap₂, ◌∙◌, subst, ◌⊎◌, inl, inr, ⊎_elim, arith}
use Rattle.std.specs.Bool.{beq}
use Rattle.std.specs.Cmp.{both_ways}
use Rattle.std.specs.List.{list_all, slice_get}
use Rattle.std.specs.Option.{option_map}
use Rattle.pieces.specs.declared.piece.Expansion as table_expansion
use Rattle.pieces.specs.declared.piece.Letter as table_letter
use Rattle.pieces.specs.declared.piece.Long as table_long
use Rattle.pieces.specs.declared.piece.Pair as table_pair
use Rattle.std.specs.Ordering.{nat_cmp}
use Rattle.std.proofs.lemmas.Bool.{and_parts, cases_lt, cond-false, cond-true, le-ltb, lt-ltb, ltb-false, ltb-true, or_parts, true≢false}
use Rattle.std.proofs.lemmas.Bool.Decides.{nat_tests}
use Rattle.std.proofs.lemmas.Option.{cond_some, none-some, same_Some, slice_get_cases, slice_get_within}
use Rattle.keys.specs.declared.level.Level.{Level}
use Rattle.keys.specs.declared.level.Level.TheVariants.{Primary, Secondary, Tertiary}
use Rattle.keys.specs.Rows.{on}
use Rattle.pieces.specs.declared.piece.Weights.{Weights}
use Rattle.table.specs.Meaning.{expansions_of, letters_of, longs_of, pairs_of, rules_of}
use Rattle.table.specs.Laws.{IsLongOf, IsPairOf}
use Rattle.table.specs.Rules.{Rules, triples}
use Rattle.pieces.specs.Runs.{counts, long_letters, nothing}
use Rattle.table.specs.declared.view.Table.{Table}
use Rattle.table.proofs.Lawful.{expansions_listed, letters_listed, listed, runs_fit, runs_listed}
use Rattle.keys.proofs.Weighing.{none_on}
use Rattle.keys.proofs.Widening.{runs_alone}
use Rattle.order.specs.Changes.{Changed, Decided, FirstOf, InBoth, NoneJoined, Parted, SameOrder, SameZero, Tested, WeighedIn, level_place, part_at}
use Rattle.order.proofs.Keeping.{newer_tables}
use Rattle.order.specs.Newer.{Keeps, SameMany, SameRuns, SameStanding, SameZeros, is_piece, many, old_piece, weight_at}
use Rattle.order.specs.Pieces.{NextPiece, NoneBetween, expansion_run, joined_at, long_run, longer_at, parts, piece_triples, run_contraction, run_in, run_of, old_at, old_in, places, run_at}
use Rattle.order.specs.declared.newer.Change.{Change}
use Rattle.order.specs.declared.newer.Change.TheVariants.{Utf8, Joins, Expands, Counts, Order}
use Rattle.order.specs.declared.newer.Weighed.{Weighed}
use Rattle.order.specs.declared.piece.OldPieces.{OldPieces}
use Rattle.order.specs.declared.piece.Piece.{Piece}

-- before the end of a list something stands at each place
pub there_is : {X : Type 0} (xs : List X) (k : ℕ) → k < length xs → slice_get xs k ≡ None → ⊥
there_is xs k l e = ⊎_elim (λ q. none-some q.0 (sym e ∙ q.2)) (λ q. omega (arith, l, q.0)) (slice_get_cases xs k).1

-- the change that is told
pub err_is : (r : Result Unit Change) (c : Change) → IsErrAnd r (λ e. e ≡ c) → r ≡ Err c
err_is (Ok x) c h = absurd h
err_is (Err e) c h = ap Err h

-- a place that is below the count of what a table lists
pub in_places : (b t : Table) (l m n o k : ℕ) → l ≡ length (letters_of b) → m ≡ length (pairs_of b) → n ≡ length (longs_of b) → o ≡ length (expansions_of b) → b ≡ t → k < l + m + n + o → k < places t
in_places b t l m n o k e f g i q h = subst (λ t. k < places t) q (omega arith)

-- letters are one only where they are two or more
joined_some : (t : Table) (run : List ℕ) → (rules_of t).joins run ≡ true → (length run == 1) ≡ false
joined_some t run e = let f = (runs_fit t run e).0 in grind (arith, nat_tests)

-- a run that weighs something, or expands, or is one together: the others of a table's pieces it does not list
abbrev pub is_listed : Rules → List ℕ → Bool
is_listed t run = (counts (t.weighs run) || ltb 0 (length (t.expands run))) || t.joins run

-- of those it does not list each is one triple that doesn't count
module _ (t : Rules) (run : List ℕ) (e : is_listed t run ≡ false) where
  pub not_itself : counts (t.weighs run) ≡ false
  not_itself = (or_parts (counts (t.weighs run)) (ltb 0 (length (t.expands run))) (or_parts (counts (t.weighs run) || ltb 0 (length (t.expands run))) (t.joins run) e).0).0

  pub not_more : t.expands run ≡ []
  not_more = none_in (t.expands run) (or_parts (counts (t.weighs run)) (ltb 0 (length (t.expands run))) (or_parts (counts (t.weighs run) || ltb 0 (length (t.expands run))) (t.joins run) e).0).1
    where
      none_in : (ws : List Weights) → ltb 0 (length ws) ≡ false → ws ≡ []
      none_in [] h = refl
      none_in (w ∷ ws) h = absurd (let l = ltb-false 0 (length (w ∷ ws)) h in omega arith)

  pub just_one : many t run ≡ 1
  just_one = ap (λ ws. length (t.weighs run ∷ ws)) not_more

  pub none_at : (l : Level) (i : ℕ) → weight_at l t run i ≡ 0
  none_at l i = ap (λ ws. on l (slice_index_or (t.weighs run ∷ ws) i nothing)) not_more ∙ at i
    where
      no_level : (l : Level) → on l nothing ≡ 0
      no_level Primary = refl
      no_level Secondary = refl
      no_level Tertiary = refl

      at : (i : ℕ) → on l (slice_index_or (t.weighs run ∷ []) i nothing) ≡ 0
      at zero = none_on (t.weighs run) l not_itself
      at (suc i) = no_level l

module _ (s : OldPieces) where
  abbrev old : ℕ → Bool
  old = old_in s.old.now

  abbrev rules : Rules
  rules = rules_of s.table.now

  -- each old piece that is listed stands at some place
  at_letter : (a : ℕ) → list_all old (a ∷ []) ≡ true → counts (rules.weighs (a ∷ [])) ≡ true → (j : ℕ) × (j < places s.table.now) × (old_at s j ≡ Some (a ∷ []))
  at_letter a o c =
      let q = (letters_listed s.table.now).1 a c in
      let l = slice_get_within (letters_of s.table.now) q.0 q.1 q.2 in
      (q.0, omega arith, let g = q.2 in let r = ap (λ x. x ∷ []) q.3 in let t = lt-ltb q.0 (length (letters_of s.table.now)) l in grind (arith, nat_tests))

  -- what stands behind the letters
  behind_letters : (j : ℕ) (run : List ℕ) → list_all old run ≡ true → joined_at s.table.now j ≡ run → old_at s (length (letters_of s.table.now) + j) ≡ Some run
  behind_letters j run o e =
      let n = length (letters_of s.table.now) in
      let m : n + j - n ≡ j = omega arith in
      let f : run_at s.table.now (n + j) ≡ run = cond-false _ _ _ (le-ltb (n + j) n (omega arith)) ∙ (ap (joined_at s.table.now) m ∙ e) in
      ap (λ r. cond (list_all old r) (Some r) None) f ∙ cond-true _ _ _ o

  at_run : (run : List ℕ) → list_all old run ≡ true → rules.joins run ≡ true → (j : ℕ) × (j < places s.table.now) × (old_at s j ≡ Some run)
  at_run run o e = ⊎_elim pair long (listed s.table.now run e)
    where
      pair : IsPairOf s.table.now run → (j : ℕ) × (j < places s.table.now) × (old_at s j ≡ Some run)
      pair q =
          let l = slice_get_within (pairs_of s.table.now) q.0 q.1 q.2 in
          let e = cond-true _ _ _ (lt-ltb q.0 (length (pairs_of s.table.now)) l) ∙ (ap run_of q.2 ∙ sym q.3) in
          (length (letters_of s.table.now) + q.0, omega arith, behind_letters q.0 run o e)

      long : IsLongOf s.table.now run → (j : ℕ) × (j < places s.table.now) × (old_at s j ≡ Some run)
      long q =
          let l = slice_get_within (longs_of s.table.now) q.0 q.1 q.2 in
          let n = length (pairs_of s.table.now) in
          let m : n + q.0 - n ≡ q.0 = omega arith in
          let f = cond-true _ _ _ (lt-ltb q.0 (length (longs_of s.table.now)) l) ∙ (ap long_run q.2 ∙ sym q.3) in
          let e = cond-false _ _ _ (le-ltb (n + q.0) n (omega arith)) ∙ (ap (longer_at s.table.now) m ∙ f) in
          (length (letters_of s.table.now) + (n + q.0), omega arith, behind_letters (n + q.0) run o e)

  at_expansion : (run : List ℕ) → list_all old run ≡ true → 0 < length (rules.expands run) → (j : ℕ) × (j < places s.table.now) × (old_at s j ≡ Some run)
  at_expansion run o h =
      let q = (expansions_listed s.table.now).no_others run h in
      let l = slice_get_within (expansions_of s.table.now) q.0 q.1 q.2 in
      let n = length (pairs_of s.table.now) in
      let k = length (longs_of s.table.now) in
      let m : n + (k + q.0) - n ≡ k + q.0 = omega arith in
      let i : k + q.0 - k ≡ q.0 = omega arith in
      let f = cond-false _ _ _ (le-ltb (k + q.0) k (omega arith)) ∙ (ap (λ j. expansion_run (slice_get (expansions_of s.table.now) j)) i ∙ (ap expansion_run q.2 ∙ sym q.3)) in
      let e = cond-false _ _ _ (le-ltb (n + (k + q.0)) n (omega arith)) ∙ (ap (longer_at s.table.now) m ∙ f) in
      (length (letters_of s.table.now) + (n + (k + q.0)), omega arith, behind_letters (n + (k + q.0)) run o e)

  complete : (run : List ℕ) → old_piece old rules run ≡ true → is_listed rules run ≡ true → (j : ℕ) × (j < places s.table.now) × (old_at s j ≡ Some run)
  complete run o c = go (counts (rules.weighs run)) (ltb 0 (length (rules.expands run))) refl refl
    where
      all_old : list_all old run ≡ true
      all_old = (and_parts (list_all old run) (is_piece rules run) o).0

      joined : (run : List ℕ) → (length run == 1) ≡ false → list_all old run ≡ true → is_piece rules run ≡ true → (j : ℕ) × (j < places s.table.now) × (old_at s j ≡ Some run)
      joined run n o p = at_run run o (sym (ap (λ b. b || rules.joins run) n) ∙ p)

      alone : (run : List ℕ) → list_all old run ≡ true → is_piece rules run ≡ true → counts (rules.weighs run) ≡ true → (j : ℕ) × (j < places s.table.now) × (old_at s j ≡ Some run)
      alone [] o p e = joined [] refl o p
      alone (a ∷ []) o p e = at_letter a o e
      alone (a ∷ (b ∷ run)) o p e = joined (a ∷ (b ∷ run)) (grind (arith, nat_tests)) o p

      go : (x y : Bool) → counts (rules.weighs run) ≡ x → ltb 0 (length (rules.expands run)) ≡ y → (j : ℕ) × (j < places s.table.now) × (old_at s j ≡ Some run)
      go true y e f = alone run all_old (and_parts (list_all old run) (is_piece rules run) o).1 e
      go false true e f = at_expansion run all_old (ltb-true 0 (length (rules.expands run)) f)
      go false false e f = at_run run all_old (sym (ap₂ (λ a b. (a || b) || rules.joins run) e f) ∙ c)

  -- and what stands at one is an old piece
  joins_piece : (run : List ℕ) → rules.joins run ≡ true → is_piece rules run ≡ true
  joins_piece run e = let x = length run == 1 in grind arith

  longer_piece : (j : ℕ) → j < length (longs_of s.table.now) + length (expansions_of s.table.now) → is_piece rules (longer_at s.table.now j) ≡ true
  longer_piece j l = ⊎_elim (λ h. long (slice_get (longs_of s.table.now) j) refl h) (λ h. several (slice_get (expansions_of s.table.now) (j - length (longs_of s.table.now))) refl h) (cases_lt j (length (longs_of s.table.now)))
    where
      long : (o : Option table_long.Long) → slice_get (longs_of s.table.now) j ≡ o → j < length (longs_of s.table.now) → is_piece rules (longer_at s.table.now j) ≡ true
      long None e h = absurd (there_is (longs_of s.table.now) j h e)
      long (Some r) e h =
          let q = (cond_some _ _ r.weights ((runs_listed s.table.now).longs j r e)).0 in
          ap (is_piece rules) (cond-true _ _ _ (lt-ltb j (length (longs_of s.table.now)) h) ∙ ap long_run e) ∙ joins_piece (long_letters r.run) q

      several : (o : Option table_expansion.Expansion) → slice_get (expansions_of s.table.now) (j - length (longs_of s.table.now)) ≡ o → length (longs_of s.table.now) ≤ j → is_piece rules (longer_at s.table.now j) ≡ true
      several None e h = absurd (there_is (expansions_of s.table.now) (j - length (longs_of s.table.now)) (omega arith) e)
      several (Some r) e h = ap (is_piece rules) (cond-false _ _ _ (le-ltb j (length (longs_of s.table.now)) h) ∙ ap expansion_run e)

  joined_piece : (j : ℕ) → j < length (pairs_of s.table.now) + (length (longs_of s.table.now) + length (expansions_of s.table.now)) → is_piece rules (joined_at s.table.now j) ≡ true
  joined_piece j l =
      ⊎_elim
      (λ h. pair (slice_get (pairs_of s.table.now) j) refl h)
      (λ h. ap (is_piece rules) (cond-false _ _ _ (le-ltb j (length (pairs_of s.table.now)) h)) ∙ longer_piece (j - length (pairs_of s.table.now)) (omega arith))
      (cases_lt j (length (pairs_of s.table.now)))
    where
      pair : (o : Option table_pair.Pair) → slice_get (pairs_of s.table.now) j ≡ o → j < length (pairs_of s.table.now) → is_piece rules (joined_at s.table.now j) ≡ true
      pair None e h = absurd (there_is (pairs_of s.table.now) j h e)
      pair (Some p) e h =
          let q = (cond_some _ _ p.weights ((runs_listed s.table.now).pairs j p e)).0 in
          ap (is_piece rules) (cond-true _ _ _ (lt-ltb j (length (pairs_of s.table.now)) h) ∙ ap run_of e) ∙ joins_piece (p.first ∷ (p.second ∷ [])) q

  piece_at : (j : ℕ) → j < places s.table.now → is_piece rules (run_at s.table.now j) ≡ true
  piece_at j l = ⊎_elim
      (λ h. one (slice_get (letters_of s.table.now) j) refl h)
      (λ h. ap (is_piece rules) (cond-false _ _ _ (le-ltb j (length (letters_of s.table.now)) h)) ∙ joined_piece (j - length (letters_of s.table.now)) (omega arith)) (cases_lt j (length (letters_of s.table.now)))
    where
      one : (o : Option table_letter.Letter) → slice_get (letters_of s.table.now) j ≡ o → j < length (letters_of s.table.now) → is_piece rules (run_at s.table.now j) ≡ true
      one None e h =
          absurd (⊎_elim (λ q. none-some q.0 (sym e ∙ q.2)) (λ q. omega (arith, h, q.0)) (slice_get_cases (letters_of s.table.now) j).1)
      one (Some p) e h = let t = lt-ltb j (length (letters_of s.table.now)) h in grind (arith, nat_tests)

  sound : (j : ℕ) (q : List ℕ) → j < places s.table.now → old_at s j ≡ Some q → old_piece old rules q ≡ true
  sound j q l e =
      let d = cond_some (list_all old (run_at s.table.now j)) (run_at s.table.now j) q e in
      subst (λ r. old_piece old rules r ≡ true) d.1 (ap₂ (λ a b. a && b) d.0 (piece_at j l))

-- one place more is looked at, all up to it holding none
module _ (s : OldPieces) (b : Bor Table) (m : Bor (List Bool)) (k : ℕ) (e : b ≡ s.table) (f : m ≡ s.old) (up : s.place ≤ k) (none : NoneBetween s s.place k) where
  here : (r : Option Piece) → option_map run_in r ≡ old_at (record { table = b; old = m; place = k }) k → option_map run_in r ≡ old_at s k
  here r h = h ∙ ap₂ (λ b m. old_at (record { table = b; old = m; place = k }) k) e f

  pub next_there : (r : Option Piece) → k < places b.now → option_map run_in r ≡ old_at (record { table = b; old = m; place = k }) k → is_some r ≡ true
      → NextPiece s r (record { table = b; old = m; place = k + 1 })
  next_there None l h i = absurd (true≢false (sym i))
  next_there (Some p) l h i = (e, f, (k, up, subst (λ n. k < n) (ap (λ t. places t.now) e) l, none, sym (here (Some p) h), refl))

  pub none_there : (r : Option Piece) → option_map run_in r ≡ old_at (record { table = b; old = m; place = k }) k → is_some r ≡ false → NoneBetween s s.place (k + 1)
  none_there None h i j from to =
      ⊎_elim (λ l. none j from l) (λ l. let q : j ≡ k = omega (arith, l, to) in ap (old_at s) q ∙ sym (here None h)) (cases_lt j k)
  none_there (Some p) h i j from to = absurd (true≢false i)

-- a walk over the old pieces of a table: of those met so far P holds
abbrev pub Walked : Table → (marks : List Bool) → (List ℕ → Type 0) → OldPieces → Type 0
Walked b m P s = (s.table.now ≡ b) × (s.old.now ≡ m) × ((j : ℕ) (q : List ℕ) → j < s.place → old_at s j ≡ Some q → P q)

module _ (b : Table) (m : List Bool) (P : List ℕ → Type 0) (s : OldPieces) where
  -- one more is met
  pub walked_more : (p : Piece) (t : OldPieces) → NextPiece s (Some p) t → Walked b m P s → P (run_in p) → Walked b m P t
  walked_more p t n w g = (ap (λ x. x.now) n.0 ∙ w.0, ap (λ x. x.now) n.1 ∙ w.1, go)
    where
      go : (j : ℕ) (q : List ℕ) → j < t.place → old_at t j ≡ Some q → P q
      go j q l e =
          let from : old_at s j ≡ Some q = ap₂ (λ b o. old_at (record { table = b; old = o; place = 0 }) j) (sym n.0) (sym n.1) ∙ e in
          ⊎_elim
          (λ k. w.2 j q k from)
          (λ k.
          ⊎_elim
          (λ h. absurd (none-some q (sym (n.2.3 j k h) ∙ from)))
          (λ h. let i : j ≡ n.2.0 = omega (arith, l, h, n.2.5) in subst P (same_Some _ _ (sym n.2.4 ∙ (ap (old_at s) (sym i) ∙ from))) g)
          (cases_lt j n.2.0))
          (cases_lt j s.place)

  -- all are
  pub walked_all : NoneBetween s s.place (places s.table.now) → Walked b m P s → (run : List ℕ) → old_piece (old_in m) (rules_of b) run ≡ true → is_listed (rules_of b) run ≡ true → P run
  walked_all n w run o d =
      let c = complete s run (ap₂ (λ m b. old_piece (old_in m) (rules_of b) run) w.1 w.0 ∙ o) (ap (λ b. is_listed (rules_of b) run) w.0 ∙ d) in
      ⊎_elim (λ k. w.2 c.0 run k c.2) (λ k. absurd (none-some run (sym (n c.0 k c.1) ∙ c.2))) (cases_lt c.0 s.place)

  -- what is met is an old piece
  pub met : (p : Piece) (t : OldPieces) → NextPiece s (Some p) t → Walked b m P s → old_piece (old_in m) (rules_of b) (run_in p) ≡ true
  met p t n w = ap₂ (λ m b. old_piece (old_in m) (rules_of b) (run_in p)) (sym w.1) (sym w.0) ∙ sound s n.2.0 (run_in p) n.2.2 n.2.4

-- whether both tables read bytes the same way
pub read_alike : (x y a b : Bool) → x ≡ a → y ≡ b → not (beq x y) ≡ false → b ≡ a
read_alike true true a b e f h = sym f ∙ e
read_alike true false a b e f h = absurd (true≢false h)
read_alike false true a b e f h = absurd (true≢false h)
read_alike false false a b e f h = sym f ∙ e

pub read_otherwise : (x y a b : Bool) → x ≡ a → y ≡ b → not (beq x y) ≡ true → b ≡ a → ⊥
read_otherwise true true a b e f h q = true≢false (sym h)
read_otherwise true false a b e f h q = true≢false (e ∙ (sym q ∙ sym f))
read_otherwise false true a b e f h q = true≢false (f ∙ (q ∙ sym e))
read_otherwise false false a b e f h q = true≢false (sym h)

-- what holds of the levels tried so far holds of those in front of the next
pub levels_before : (P : Level → Type 0) (i : ℕ) → i < 3 → ((k : ℕ) → k < i → P (slice_index_or (Primary ∷ (Secondary ∷ (Tertiary ∷ []))) k Primary))
    → (m : Level) → level_place m < level_place (slice_index_or (Primary ∷ (Secondary ∷ (Tertiary ∷ []))) i Primary) → P m
levels_before P zero l h m k = absurd (omega arith)
levels_before P (suc zero) l h Primary k = h 0 (omega arith)
levels_before P (suc zero) l h Secondary k = absurd (omega arith)
levels_before P (suc zero) l h Tertiary k = absurd (omega arith)
levels_before P (suc (suc zero)) l h Primary k = h 0 (omega arith)
levels_before P (suc (suc zero)) l h Secondary k = h 1 (omega arith)
levels_before P (suc (suc zero)) l h Tertiary k = absurd (omega arith)
levels_before P (suc (suc (suc i))) l h m k = absurd (omega arith)

-- and of all levels tried what holds of each
pub levels_next : (P : Level → Type 0) (i : ℕ) → ((k : ℕ) → k < i → P (slice_index_or (Primary ∷ (Secondary ∷ (Tertiary ∷ []))) k Primary))
    → P (slice_index_or (Primary ∷ (Secondary ∷ (Tertiary ∷ []))) i Primary) → (k : ℕ) → k < i + 1 → P (slice_index_or (Primary ∷ (Secondary ∷ (Tertiary ∷ []))) k Primary)
levels_next P i h here k l = ⊎_elim (λ m. h k m) (λ m. subst (λ j. P (slice_index_or (Primary ∷ (Secondary ∷ (Tertiary ∷ []))) j Primary)) {x = i} {y = k} (omega (arith, l, m)) here) (cases_lt k i)

pub levels_all : (P : Level → Type 0) (i : ℕ) → 3 ≤ i → ((k : ℕ) → k < i → P (slice_index_or (Primary ∷ (Secondary ∷ (Tertiary ∷ []))) k Primary)) → (l : Level) → P l
levels_all P i n h Primary = h 0 (omega arith)
levels_all P i n h Secondary = h 1 (omega arith)
levels_all P i n h Tertiary = h 2 (omega arith)

-- what a run weighs that is one together, as all that it weighs
pub run_triples : (t : Table) (p : List ℕ) (w : Weights) → run_contraction (rules_of t) p ≡ Some w → Some (w ∷ []) ≡ piece_triples (rules_of t) p
run_triples t [] w e = absurd (none-some w e)
run_triples t (a ∷ []) w e = absurd (none-some w e)
run_triples t (a ∷ (b ∷ p)) w e =
    let run : List ℕ = a ∷ (b ∷ p) in
    let q = cond_some ((rules_of t).joins run) ((rules_of t).weighs run) w e in
    let x = runs_alone t run (omega arith) in
    sym (cond-true _ _ _ (or_right (length run == 1) ((rules_of t).joins run) q.0) ∙ ap₂ (λ v vs. Some (v ∷ vs)) q.1 x)
  where
    or_right : (x y : Bool) → y ≡ true → (x || y) ≡ true
    or_right true y h = refl
    or_right false y h = h

module _ (marks : List Bool) (t u : Rules) where
  -- a piece stands to another in both tables as it was weighed
  abbrev pub StandsTo : Weighed → List ℕ → Type 0
  StandsTo w r =
      (l : Level) (i j : ℕ) → i < length (parts w.older) → j < many t r →
      nat_cmp (part_at l w.newer i) (weight_at l u r j) ≡ nat_cmp (part_at l w.older i) (weight_at l t r j)

  -- an old piece of the older table is one in the newer, with as many triples, which weigh 0 where they did
  abbrev pub Counted : List ℕ → Type 0
  Counted q = (is_piece u q ≡ true) × SameMany t u q × ((l : Level) → SameZeros l t u q)

  -- it stands to each other one that is listed as before
  abbrev pub Placed : List ℕ → Type 0
  Placed q = (r : List ℕ) → old_piece (old_in marks) t r ≡ true → is_listed t r ≡ true → (l : Level) → SameStanding l t u q r

  -- what was weighed
  module _ (p : Piece) (w : Weighed) (g : WeighedIn t u p (Ok w)) where
    older_is : (is_piece t (run_in p) ≡ true) × (triples t (run_in p) ≡ parts w.older)
    older_is = cond_some (is_piece t (run_in p)) (triples t (run_in p)) (parts w.older) g.1

    newer_is : (is_piece u (run_in p) ≡ true) × (triples u (run_in p) ≡ parts w.newer)
    newer_is = cond_some (is_piece u (run_in p)) (triples u (run_in p)) (parts w.newer) g.2

    -- what its triples say, and how many they are
    older_at : (l : Level) (i : ℕ) → weight_at l t (run_in p) i ≡ part_at l w.older i
    older_at l i = ap (λ ws. on l (slice_index_or ws i nothing)) older_is.1

    newer_at : (l : Level) (i : ℕ) → weight_at l u (run_in p) i ≡ part_at l w.newer i
    newer_at l i = ap (λ ws. on l (slice_index_or ws i nothing)) newer_is.1

    older_many : many t (run_in p) ≡ length (parts w.older)
    older_many = ap length older_is.1

    newer_many : many u (run_in p) ≡ length (parts w.newer)
    newer_many = ap length newer_is.1

  pub piece_of_older : (p : Piece) (w : Weighed) → WeighedIn t u p (Ok w) → is_piece t (run_in p) ≡ true
  piece_of_older p w g = (older_is p w g).0

  -- a change that is one speaks against the tests
  refuted : (c : Change) → Changed (old_in marks) t u c → Keeps (old_in marks) t u → ⊥
  refuted Utf8 h k = h k.reads
  refuted (Joins p) h k = h.1 (k.runs (run_in p) h.0)
  refuted (Expands p) h k = h.1 (k.many (run_in p) h.0.0)
  refuted (Counts p l) h k = h.1 ((k.levels l).zeros (run_in p) h.0.0)
  refuted (Order p q l) h k = h.2 ((k.levels l).order (run_in p) (run_in q) h.0.0 h.1.0)

  told : (c : Change) → Changed (old_in marks) t u c → FirstOf (old_in marks) t u c → Decided (old_in marks) t u (Err c)
  told c h f = (h, f, refuted c h)

  all_old : (run : List ℕ) (b : Rules) → old_piece (old_in marks) b run ≡ true → list_all (old_in marks) run ≡ true
  all_old run b o = grind arith

  a_piece : (run : List ℕ) (b : Rules) → old_piece (old_in marks) b run ≡ true → is_piece b run ≡ true
  a_piece run b o = grind arith

  both : (p : Piece) → old_piece (old_in marks) t (run_in p) ≡ true → (w : Weighed) → WeighedIn t u p (Ok w) → InBoth (old_in marks) t u p
  both p o w g = (o, ap₂ (λ a b. a && b) (all_old (run_in p) t o) (newer_is p w g).0)

  -- an old piece of the newer table that is a piece of the older too
  pub old_too : (run : List ℕ) → old_piece (old_in marks) u run ≡ true → is_piece t run ≡ true → old_piece (old_in marks) t run ≡ true
  old_too run o p = ap₂ (λ a b. a && b) (all_old run u o) p

  -- letters that are a piece in only one of the tables are one in only one
  parted : (one j k : Bool) → (one || j) && (one || k) ≡ false → ((one || j ≡ true) ⊎ (one || k ≡ true)) → k ≡ j → ⊥
  parted one j k e f g = grind arith

  only_one : u.utf8 ≡ t.utf8 → (p : Piece) (c : Change) → list_all (old_in marks) (run_in p) ≡ true → ((is_piece t (run_in p) ≡ true) ⊎ (is_piece u (run_in p) ≡ true))
      → WeighedIn t u p (Err c) → Decided (old_in marks) t u (Err c)
  only_one e p c o f g =
      let run = run_in p in
      subst (λ c. Decided (old_in marks) t u (Err c)) (sym g.0) (told (Joins p) (o, parted (length run == 1) (t.joins run) (u.joins run) g.1 f) e)

  pub in_older_only : u.utf8 ≡ t.utf8 → (p : Piece) (c : Change) → old_piece (old_in marks) t (run_in p) ≡ true → WeighedIn t u p (Err c) → Decided (old_in marks) t u (Err c)
  in_older_only e p c o g = only_one e p c (all_old (run_in p) t o) (inl (a_piece (run_in p) t o)) g

  pub in_newer_only : u.utf8 ≡ t.utf8 → (p : Piece) (c : Change) → old_piece (old_in marks) u (run_in p) ≡ true → WeighedIn t u p (Err c) → Decided (old_in marks) t u (Err c)
  in_newer_only e p c o g = only_one e p c (all_old (run_in p) u o) (inr (a_piece (run_in p) u o)) g

  -- it has as many triples as it was weighed, and they weigh 0 where they did
  many_as : (p : Piece) (w : Weighed) → WeighedIn t u p (Ok w) → length (parts w.newer) ≡ length (parts w.older) → SameMany t u (run_in p)
  many_as p w g e = newer_many p w g ∙ (e ∙ sym (older_many p w g))

  zero_as : (p : Piece) (w : Weighed) → WeighedIn t u p (Ok w) → (l : Level) → SameZero w l → SameZeros l t u (run_in p)
  zero_as p w g l z i m =
      ap (λ x. x == 0) (newer_at p w g l i) ∙ (z i (let n = older_many p w g in omega arith) ∙ ap (λ x. x == 0) (sym (older_at p w g l i)))

  zero_told : (p : Piece) (w : Weighed) → WeighedIn t u p (Ok w) → (l : Level) → SameZeros l t u (run_in p) → SameZero w l
  zero_told p w g l z i m =
      ap (λ x. x == 0) (sym (newer_at p w g l i)) ∙ (z i (let n = older_many p w g in omega arith) ∙ ap (λ x. x == 0) (older_at p w g l i))

  pub zero_changed : u.utf8 ≡ t.utf8 → (p : Piece) (w : Weighed) (c : Change) → NoneJoined (old_in marks) t u → old_piece (old_in marks) t (run_in p) ≡ true → WeighedIn t u p (Ok w)
      → Parted w (Err c) → Decided (old_in marks) t u (Err c)
  zero_changed e p w c j o g h =
      ⊎_elim
      (λ m.
      subst (λ c. Decided (old_in marks) t u (Err c)) (sym (m.0 ∙ ap Expands g.0))
      (told (Expands p) (both p o w g, λ f. m.1 (sym (newer_many p w g) ∙ (f ∙ older_many p w g))) (e, j)))
      (λ m.
      let z = m.1 in
      subst (λ c. Decided (old_in marks) t u (Err c)) (sym (z.1 ∙ ap (λ x. Counts x z.0) g.0))
      (told (Counts p z.0) (both p o w g, λ f. z.2 (zero_told p w g z.0 f)) (e, j, many_as p w g m.0, λ n k. zero_as p w g n (z.3 n k))))
      h

  -- two pieces stand as before, as they were weighed
  order_as : (p q : Piece) (v w : Weighed) → WeighedIn t u p (Ok v) → WeighedIn t u q (Ok w) → (l : Level) → SameOrder v w l → SameStanding l t u (run_in p) (run_in q)
  order_as p q v w g h l z i j m n =
      ap₂ nat_cmp (newer_at p v g l i) (newer_at q w h l j)
      ∙ (z i (let k = older_many p v g in omega arith) j (let k = older_many q w h in omega arith) ∙ ap₂ nat_cmp (sym (older_at p v g l i)) (sym (older_at q w h l j)))

  order_told : (p q : Piece) (v w : Weighed) → WeighedIn t u p (Ok v) → WeighedIn t u q (Ok w) → (l : Level) → SameStanding l t u (run_in p) (run_in q) → SameOrder v w l
  order_told p q v w g h l z i m j n =
      ap₂ nat_cmp (sym (newer_at p v g l i)) (sym (newer_at q w h l j))
      ∙ (z i j (let k = older_many p v g in omega arith) (let k = older_many q w h in omega arith) ∙ ap₂ nat_cmp (older_at p v g l i) (older_at q w h l j))

  pub order_changed : u.utf8 ≡ t.utf8 → (p q : Piece) (v w : Weighed) (c : Change) → SameRuns (old_in marks) t u
      → ((run : List ℕ) → old_piece (old_in marks) t run ≡ true → Counted run) → old_piece (old_in marks) t (run_in p) ≡ true → old_piece (old_in marks) t (run_in q) ≡ true
      → WeighedIn t u p (Ok v) → WeighedIn t u q (Ok w) → Tested (SameOrder v w) (Order v.piece w.piece) (Err c) → Decided (old_in marks) t u (Err c)
  order_changed e p q v w c s z o r g h (l, is, differs, first) =
      subst (λ c. Decided (old_in marks) t u (Err c)) (sym (is ∙ ap₂ (λ x y. Order x y l) g.0 h.0))
      (told (Order p q l) (both p o v g, both q r w h, λ f. differs (order_told p q v w g h l f)) (e, s, (λ run i. ((z run i).1, (z run i).2)), λ m k. order_as p q v w g h m (first m k)))

  pub stands : (q : Piece) (v w : Weighed) → WeighedIn t u q (Ok w) → Tested (SameOrder v w) (Order v.piece w.piece) (Ok tt) → StandsTo v (run_in q)
  stands q v w h e l i j m n =
      ap (nat_cmp (part_at l v.newer i)) (newer_at q w h l j) ∙ (e l i m j (let k = older_many q w h in omega arith) ∙ ap (nat_cmp (part_at l v.older i)) (sym (older_at q w h l j)))

  pub counted : (p : Piece) (w : Weighed) → WeighedIn t u p (Ok w) → Parted w (Ok tt) → Counted (run_in p)
  counted p w g z = ((newer_is p w g).0, many_as p w g z.0, λ l. zero_as p w g l (z.1 l))

  pub placed : (p : Piece) (w : Weighed) → WeighedIn t u p (Ok w) → ((r : List ℕ) → old_piece (old_in marks) t r ≡ true → is_listed t r ≡ true → StandsTo w r) → Placed (run_in p)
  placed p w g s r o i l x y m n =
      ap (λ a. nat_cmp a (weight_at l u r y)) (newer_at p w g l x)
      ∙ (s r o i l x y (let k = older_many p w g in omega arith) n ∙ ap (λ a. nat_cmp a (weight_at l t r y)) (sym (older_at p w g l x)))

module _ (marks : List Bool) (older newer : Table) where
  -- what is one in a table is one in the other
  joined_too : (one other : Table) → ((run : List ℕ) → old_piece (old_in marks) (rules_of one) run ≡ true → is_piece (rules_of other) run ≡ true)
      → (run : List ℕ) → list_all (old_in marks) run ≡ true → (rules_of one).joins run ≡ true → (rules_of other).joins run ≡ true
  joined_too one other h run o e = let two = joined_some one run e in let k = h run in grind (arith, nat_tests)

  -- of the letters that a table doesn't list each is a piece
  pub all_pieces : ((run : List ℕ) → old_piece (old_in marks) (rules_of newer) run ≡ true → is_listed (rules_of newer) run ≡ true → is_piece (rules_of older) run ≡ true)
      → (run : List ℕ) → old_piece (old_in marks) (rules_of newer) run ≡ true → is_piece (rules_of older) run ≡ true
  all_pieces a run o = go (length run == 1) refl
    where
      go : (b : Bool) → (length run == 1) ≡ b → is_piece (rules_of older) run ≡ true
      go true e = grind (arith, nat_tests)
      go false e = a run o (grind (arith, nat_tests))

  -- and weighs nothing under either table, or is listed by the newer
  pub all_counted : ((run : List ℕ) → old_piece (old_in marks) (rules_of older) run ≡ true → is_listed (rules_of older) run ≡ true → Counted marks (rules_of older) (rules_of newer) run)
      → ((run : List ℕ) → old_piece (old_in marks) (rules_of newer) run ≡ true → is_listed (rules_of newer) run ≡ true → Counted marks (rules_of older) (rules_of newer) run)
      → (run : List ℕ) → old_piece (old_in marks) (rules_of older) run ≡ true → Counted marks (rules_of older) (rules_of newer) run
  all_counted a n run o = go (is_listed (rules_of older) run) refl
    where
      there : is_listed (rules_of older) run ≡ false → (length run == 1) ≡ true
      there e = grind (arith, nat_tests)

      neither : is_listed (rules_of older) run ≡ false → is_listed (rules_of newer) run ≡ false → Counted marks (rules_of older) (rules_of newer) run
      neither e f = (
        ap (λ b. b || (rules_of newer).joins run) (there e),
        just_one (rules_of newer) run f ∙ sym (just_one (rules_of older) run e),
        λ l i k. ap (λ x. x == 0) (none_at (rules_of newer) run f l i ∙ sym (none_at (rules_of older) run e l i)),
      )

      new : (b : Bool) → is_listed (rules_of newer) run ≡ b → is_listed (rules_of older) run ≡ false → Counted marks (rules_of older) (rules_of newer) run
      new true e f = n run (ap₂ (λ x y. x && (y || (rules_of newer).joins run)) (and_parts _ _ o).0 (there f)) e
      new false e f = neither f e

      go : (b : Bool) → is_listed (rules_of older) run ≡ b → Counted marks (rules_of older) (rules_of newer) run
      go true e = a run o e
      go false e = new (is_listed (rules_of newer) run) refl e

  -- what weighs nothing stands to each other piece as before
  zero_front : (x y v w : ℕ) → x ≡ 0 → v ≡ 0 → (w == 0) ≡ (y == 0) → nat_cmp v w ≡ nat_cmp x y
  zero_front x y v w a b e = grind (arith, nat_tests)

  zero_behind : (x y v w : ℕ) → y ≡ 0 → w ≡ 0 → (v == 0) ≡ (x == 0) → nat_cmp v w ≡ nat_cmp x y
  zero_behind x y v w a b e = grind (arith, nat_tests)

  still_zero : (x y : ℕ) → x ≡ 0 → (y == 0) ≡ (x == 0) → y ≡ 0
  still_zero x y a e = grind (arith, nat_tests)

  pub all_placed : ((run : List ℕ) → old_piece (old_in marks) (rules_of older) run ≡ true → Counted marks (rules_of older) (rules_of newer) run)
      → ((run : List ℕ) → old_piece (old_in marks) (rules_of older) run ≡ true → is_listed (rules_of older) run ≡ true → Placed marks (rules_of older) (rules_of newer) run)
      → (p q : List ℕ) → old_piece (old_in marks) (rules_of older) p ≡ true → old_piece (old_in marks) (rules_of older) q ≡ true → (l : Level) → SameStanding l (rules_of older) (rules_of newer) p q
  all_placed b d p q o r l i j m n = go (is_listed (rules_of older) p) (is_listed (rules_of older) q) refl refl
    where
      go : (x y : Bool) → is_listed (rules_of older) p ≡ x → is_listed (rules_of older) q ≡ y
          → nat_cmp (weight_at l (rules_of newer) p i) (weight_at l (rules_of newer) q j) ≡ nat_cmp (weight_at l (rules_of older) p i) (weight_at l (rules_of older) q j)
      go true true e f = d p o e q r f l i j m n
      go true false e f =
          let z = none_at (rules_of older) q f l j in
          zero_behind (weight_at l (rules_of older) p i) (weight_at l (rules_of older) q j) (weight_at l (rules_of newer) p i) (weight_at l (rules_of newer) q j)
          z (still_zero _ _ z ((b q r).2 l j n)) ((b p o).2 l i m)
      go false y e f =
          let z = none_at (rules_of older) p e l i in
          zero_front (weight_at l (rules_of older) p i) (weight_at l (rules_of older) q j) (weight_at l (rules_of newer) p i) (weight_at l (rules_of newer) q j)
          z (still_zero _ _ z ((b p o).2 l i m)) ((b q r).2 l j n)

  pub none_joined : ((run : List ℕ) → old_piece (old_in marks) (rules_of newer) run ≡ true → is_piece (rules_of older) run ≡ true)
      → NoneJoined (old_in marks) (rules_of older) (rules_of newer)
  none_joined a = joined_too newer older a

  pub runs_kept : ((run : List ℕ) → old_piece (old_in marks) (rules_of newer) run ≡ true → is_piece (rules_of older) run ≡ true)
      → ((run : List ℕ) → old_piece (old_in marks) (rules_of older) run ≡ true → Counted marks (rules_of older) (rules_of newer) run)
      → SameRuns (old_in marks) (rules_of older) (rules_of newer)
  runs_kept a b run o = both_ways ((rules_of newer).joins run) ((rules_of older).joins run) (joined_too newer older a run o) (joined_too older newer (λ r p. (b r p).0) run o)

  pub all_kept : (rules_of newer).utf8 ≡ (rules_of older).utf8
      → ((run : List ℕ) → old_piece (old_in marks) (rules_of newer) run ≡ true → is_piece (rules_of older) run ≡ true)
      → ((run : List ℕ) → old_piece (old_in marks) (rules_of older) run ≡ true → Counted marks (rules_of older) (rules_of newer) run)
      → ((run : List ℕ) → old_piece (old_in marks) (rules_of older) run ≡ true → is_listed (rules_of older) run ≡ true → Placed marks (rules_of older) (rules_of newer) run)
      → Decided (old_in marks) (rules_of older) (rules_of newer) (Ok tt)
  all_kept e a b d = let k : Keeps (old_in marks) (rules_of older) (rules_of newer) = record {
    reads = e;
    runs = runs_kept a b;
    many = λ p o. (b p o).1;
    levels = λ l. record { zeros = λ p o. (b p o).2 l; order = λ p q o r. all_placed b d p q o r l };
  } in (k, newer_tables (old_in marks) (rules_of older) (rules_of newer) k)

-- two changes of order are the same where their pieces and levels are
abbrev first_of : Change → Piece → Piece
first_of (Order p q l) d = p
first_of Utf8 d = d
first_of (Joins p) d = d
first_of (Expands p) d = d
first_of (Counts p l) d = d

abbrev second_of : Change → Piece → Piece
second_of (Order p q l) d = q
second_of Utf8 d = d
second_of (Joins p) d = d
second_of (Expands p) d = d
second_of (Counts p l) d = d

abbrev level_in : Change → Level → Level
level_in (Order p q l) d = l
level_in Utf8 d = d
level_in (Joins p) d = d
level_in (Expands p) d = d
level_in (Counts p l) d = d

pub three_same : (x y z : Bool) (p1 q1 : Piece) (l1 : Level) (p2 q2 : Piece) (l2 : Level) → IsTrue x ↔ (p1 ≡ p2) → IsTrue y ↔ (q1 ≡ q2) → IsTrue z ↔ (l1 ≡ l2)
    → IsTrue (x && (y && z)) ↔ (Order p1 q1 l1 ≡ Order p2 q2 l2)
three_same x y z p1 q1 l1 p2 q2 l2 f g h = (
  λ t. let p = and_parts x (y && z) t in let q = and_parts y z p.1 in λ i. Order (f.0 p.0 i) (g.0 q.0 i) (h.0 q.1 i),
  λ e.
      let a = f.1 (ap (λ c. first_of c p1) e) in
      let b = g.1 (ap (λ c. second_of c q1) e) in
      let c = h.1 (ap (λ c. level_in c l1) e) in
      all_three x y z a b c,
)
  where
    all_three : (x y z : Bool) → x ≡ true → y ≡ true → z ≡ true → (x && (y && z)) ≡ true
    all_three x y z a b c = rw (a, b, c) refl
