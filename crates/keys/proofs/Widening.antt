-- Letters that weigh as two or three.
use Rattle.std.proofs.Common.{◌≡◌, ℕ, ◌<◌, ◌≤◌, Bool, true, false, cond, ltb, List, [], ◌∷◌, length, map, Some, None, Option, refl, sym, ap, subst, ◌∙◌, ⊎_elim, arith}
use Rattle.std.proofs.lemmas.Bool.{cases_lt, cond-true, eq-eqb, lt-ltb, true≢false}
use Rattle.std.proofs.lemmas.List.{length-map}
use Rattle.std.specs.List.{slice_get}
use Rattle.std.proofs.lemmas.Option.{none-some}
use Rattle.pieces.specs.declared.piece.Expanded.{Expanded}
use Rattle.pieces.specs.declared.piece.Expansion.{Expansion}
use Rattle.pieces.specs.declared.piece.Weights.{Weights}
use Rattle.pieces.specs.Runs.{counts, expanded, one_or_none}
use Rattle.table.proofs.Lawful.{expansions_listed}
use Rattle.table.specs.Meaning.{expansions_of, rules_of}
use Rattle.table.specs.Rules.{Rules, triples}
use Rattle.table.specs.declared.view.Table.{Table}
use Rattle.keys.specs.declared.level.Level.{Level}
use Rattle.keys.specs.Laws.{Narrow, TablesNarrow, most_triples}
use Rattle.keys.specs.Rows.{on, without_zeros}
use Rattle.keys.proofs.Bounding.{zeros_fewer}
use Rattle.keys.proofs.Weighing.{none_on}

-- under a table a piece expands to nothing, or to what is listed, and weighs nothing itself then
by_expansion : (t : Table) (p : List ℕ) (P : List Weights → Type 0)
    → ((rules_of t).expands p ≡ [] → P []) → ((e : Expansion) → (rules_of t).expands p ≡ expanded e.weights → counts ((rules_of t).weighs p) ≡ false → 0 < length (expansions_of t) → P (expanded e.weights))
    → P ((rules_of t).expands p)
by_expansion t p P none some = go ((rules_of t).expands p) refl
  where
    lists : 0 < length ((rules_of t).expands p) → P ((rules_of t).expands p)
    lists h =
        let q = (expansions_listed t).no_others p h in
        let x = (expansions_listed t).each q.0 q.1 q.2 in
        let e = ap (rules_of t).expands q.3 ∙ x.0 in
        subst P (sym e) (some q.1 e (ap (λ r. counts ((rules_of t).weighs r)) q.3 ∙ x.1) (some_there (expansions_of t) q.0 q.1 q.2))
      where
        some_there : (es : List Expansion) (k : ℕ) (e : Expansion) → slice_get es k ≡ Some e → 0 < length es
        some_there [] k e h = absurd (none-some e h)
        some_there (f ∷ es) k e h = omega arith

    go : (ws : List Weights) → (rules_of t).expands p ≡ ws → P ((rules_of t).expands p)
    go [] e = subst P (sym e) (none e)
    go (w ∷ ws) e = lists (let l = ap length e in omega arith)

-- what weighs something itself does not expand
pub counts_alone : (t : Table) (p : List ℕ) → counts ((rules_of t).weighs p) ≡ true → (rules_of t).expands p ≡ []
counts_alone t p c = by_expansion t p (λ ws. ws ≡ []) (λ e. refl) (λ x e f l. absurd (true≢false (sym c ∙ f)))

-- nor do two letters or more
pub runs_alone : (t : Table) (p : List ℕ) → 2 ≤ length p → (rules_of t).expands p ≡ []
runs_alone t p l = go ((rules_of t).expands p) refl
  where
    go : (ws : List Weights) → (rules_of t).expands p ≡ ws → ws ≡ []
    go [] e = refl
    go (w ∷ ws) e =
        let q = (expansions_listed t).no_others p (let m = ap length e in omega arith) in
        absurd (let m = ap length q.3 in omega arith)

at_most : (o : Option Weights) → length (one_or_none o) ≤ 1
at_most None = omega arith
at_most (Some w) = omega arith

-- three numbers at the most
few : (t : Rules) (l : Level) (p : List ℕ) (e : Expanded) → t.expands p ≡ expanded e → counts (t.weighs p) ≡ false → length (without_zeros (map (on l) (triples t p))) ≤ 3
unfolding without_zeros
few t l p e x c =
    let z = cond-true _ (without_zeros (map (on l) (t.expands p))) (on l (t.weighs p) ∷ without_zeros (map (on l) (t.expands p))) (eq-eqb (on l (t.weighs p)) 0 (none_on (t.weighs p) l c)) in
    let f = zeros_fewer (map (on l) (t.expands p)) in
    let m = length-map (t.expands p) (on l) in
    let n = ap length x in
    let o = at_most e.third in
    let k = ap length z in
    omega arith

pub tables_narrow : TablesNarrow
tables_narrow t l p = ⊎_elim some none (cases_lt 0 (length (expansions_of t)))
  where
    no_more : (k : ℕ) → k ≤ 1 → (b : Bool) → k ≤ cond b 3 1
    no_more k h true = omega arith
    no_more k h false = h

    plain : (rules_of t).expands p ≡ [] → length (without_zeros (map (on l) (triples (rules_of t) p))) ≤ 1
    plain e = let z = zeros_fewer (map (on l) (triples (rules_of t) p)) in let m = length-map (triples (rules_of t) p) (on l) in let n = ap length e in omega arith

    some : 0 < length (expansions_of t) → length (without_zeros (map (on l) (triples (rules_of t) p))) ≤ most_triples t
    some h = go ((rules_of t).expands p) refl
      where
        go : (ws : List Weights) → (rules_of t).expands p ≡ ws → length (without_zeros (map (on l) (triples (rules_of t) p))) ≤ most_triples t
        go [] e = no_more _ (plain e) (ltb 0 (length (expansions_of t)))
        go (w ∷ ws) e =
            let q = (expansions_listed t).no_others p (let m = ap length e in omega arith) in
            let x = (expansions_listed t).each q.0 q.1 q.2 in
            let k = few (rules_of t) l p q.1.weights (ap (rules_of t).expands q.3 ∙ x.0) (ap (λ r. counts ((rules_of t).weighs r)) q.3 ∙ x.1) in
            let m : most_triples t ≡ 3 = cond-true _ _ _ (lt-ltb 0 (length (expansions_of t)) h) in
            omega arith

    none : length (expansions_of t) ≤ 0 → length (without_zeros (map (on l) (triples (rules_of t) p))) ≤ most_triples t
    none h = no_more _ (plain (by_expansion t p (λ ws. ws ≡ []) (λ e. refl) (λ x e f k. absurd (omega arith)))) (ltb 0 (length (expansions_of t)))

pub tables_narrow_three : (t : Table) → Narrow 3 (rules_of t)
tables_narrow_three t l p = let n = tables_narrow t l p in let m = no_more (ltb 0 (length (expansions_of t))) in omega arith
  where
    no_more : (b : Bool) → ◌≤◌ (cond b 3 1) 3
    no_more true = omega arith
    no_more false = omega arith
