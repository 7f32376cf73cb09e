-- The order of rows, and of rows joined into one.
use Rattle.std.proofs.Common.{◌≡◌, ℕ, ◌<◌, true, List, [], ◌∷◌, ◌++◌, refl, sym, ap, ap₂, inl, inr, ⊎_elim, ◌∙◌, arith}
use Rattle.std.specs.declared.cmp.Ordering.{Ordering}
use Rattle.std.specs.declared.cmp.Ordering.TheVariants.{Less, Equal, Greater}
use Rattle.std.specs.Ordering.{is_lt, ordering_then}
use Rattle.order.proofs.Fronts.{front_shared}
use Rattle.std.proofs.lemmas.Bool.{cases_eq}
use Rattle.std.proofs.lemmas.Bool.Decides.{nat_tests}
use Rattle.keys.specs.Laws.{ZeroFree}
use Rattle.keys.specs.Rows.{joined}
use Rattle.order.specs.declared.collate.Standing.TheVariants.{After}
use Rattle.order.specs.Names.{standing}
use Rattle.order.specs.Rows.{before, begins, row_order}
use Rattle.order.specs.Laws.{AlikeAreSame, BeforeSays, BeginsSays, Between, IsBefore, JoinedByLevels, JoinedReadsBack, StandingsRise}

-- rows with a 0 behind them, and more
split : (r s x y : List ℕ) → ZeroFree r → ZeroFree s → row_order (r ++ (0 ∷ x)) (s ++ (0 ∷ y)) ≡ ordering_then (row_order r s) (row_order x y)
split [] [] x y f g = refl
split [] (b ∷ s) x y f g = grind (arith, nat_tests)
split (a ∷ r) [] x y f g = grind (arith, nat_tests)
split (a ∷ r) (b ∷ s) x y f g = let ih = split r s x y (f.1) (g.1) in grind (arith, nat_tests)

split_back : (r s x y : List ℕ) → ZeroFree r → ZeroFree s → r ++ (0 ∷ x) ≡ s ++ (0 ∷ y) → (r ≡ s) × (x ≡ y)
split_back [] [] x y f g e = grind arith
split_back [] (b ∷ s) x y f g e = grind arith
split_back (a ∷ r) [] x y f g e = grind arith
split_back (a ∷ r) (b ∷ s) x y f g e = let ih = split_back r s x y f.1 g.1 in grind arith

pub alike_are_same : AlikeAreSame
alike_are_same [] [] e = refl
alike_are_same [] (y ∷ ys) e = grind arith
alike_are_same (x ∷ xs) [] e = grind arith
alike_are_same (x ∷ xs) (y ∷ ys) e = let ih = alike_are_same xs ys in grind (arith, nat_tests)

is_before : (xs ys : List ℕ) → before xs ys ≡ true → IsBefore xs ys
is_before [] [] e = absurd (grind arith)
is_before [] (y ∷ ys) e = ([], y, ys, refl, inl refl)
is_before (x ∷ xs) [] e = absurd (grind arith)
is_before (x ∷ xs) (y ∷ ys) e =
    ⊎_elim
    (λ l. let ih = is_before xs ys (grind (arith, nat_tests)) in
    (x ∷ ih.0, ih.1, ih.2, ap₂ (λ a q. a ∷ q) (sym l) ih.3, ⊎_elim (λ p. inl (ap (λ q. x ∷ q) p)) (λ p. inr (p.0, p.1, ap (λ q. x ∷ q) p.2, p.3)) ih.4))
    (λ n. ([], y, ys, refl, inr (x, xs, refl, grind (arith, nat_tests))))
    (cases_eq x y)

front_ended : (f : List ℕ) (y : ℕ) (s : List ℕ) → before f (f ++ (y ∷ s)) ≡ true
front_ended [] y s = refl
front_ended (x ∷ f) y s = let ih = front_ended f y s in grind (arith, nat_tests)

smaller : (x y : ℕ) (r s : List ℕ) → x < y → before (x ∷ r) (y ∷ s) ≡ true
smaller x y r s l = grind (arith, nat_tests)

before_is : (xs ys : List ℕ) → IsBefore xs ys → before xs ys ≡ true
before_is xs ys p =
    ⊎_elim
    (λ e. ap₂ before e p.3 ∙ front_ended p.0 p.1 p.2)
    (λ q. ap₂ before q.2 p.3 ∙ (ap is_lt (front_shared p.0 (q.0 ∷ q.1) (p.1 ∷ p.2)) ∙ smaller q.0 p.1 q.1 p.2 q.3))
    p.4

pub before_says : BeforeSays
before_says xs ys = (is_before xs ys, before_is xs ys)

begins_rest : (row asked : List ℕ) → begins row asked ≡ true → (rest : List ℕ) × (row ≡ asked ++ rest)
begins_rest row [] e = (row, refl)
begins_rest [] (a ∷ asked) e = absurd (grind arith)
begins_rest (x ∷ row) (a ∷ asked) e =
    let ih = begins_rest row asked (grind (arith, nat_tests)) in
    let q : x ≡ a = grind (arith, nat_tests) in
    (ih.0, ap₂ (λ y ys. y ∷ ys) q ih.1)

rest_begins : (asked rest : List ℕ) → begins (asked ++ rest) asked ≡ true
rest_begins [] rest = refl
rest_begins (a ∷ asked) rest = let ih = rest_begins asked rest in grind (arith, nat_tests)

pub begins_says : BeginsSays
begins_says row asked = (begins_rest row asked, λ rest e. ap (λ r. begins r asked) e ∙ rest_begins asked rest)

pub between : Between
between [] x y z l m hx hz = refl
between (q ∷ p) [] y z l m hx hz = grind arith
between (q ∷ p) (x ∷ xs) y [] l m hx hz = grind arith
between (q ∷ p) (x ∷ xs) [] (z ∷ zs) l m hx hz = grind arith
between (q ∷ p) (x ∷ xs) (y ∷ ys) (z ∷ zs) l m hx hz = let ih = between p xs ys zs in grind (arith, nat_tests)

-- a row that stands after the one asked for is after it
pub after_says : (x asked : List ℕ) → standing x asked ≡ After → before asked x ≡ true
after_says x [] e = absurd (grind arith)
after_says [] (q ∷ p) e = absurd (grind arith)
after_says (x ∷ xs) (q ∷ p) e = let ih = after_says xs p in grind (arith, nat_tests)

pub standings_rise : StandingsRise
standings_rise [] x y l = grind arith
standings_rise (q ∷ p) [] y l = grind arith
standings_rise (q ∷ p) (x ∷ xs) [] l = grind arith
standings_rise (q ∷ p) (x ∷ xs) (y ∷ ys) l = let ih = standings_rise p xs ys in grind (arith, nat_tests)

then_none : (o : Ordering) → o ≡ ordering_then o Equal
then_none Less = refl
then_none Equal = refl
then_none Greater = refl

pub joined_by_levels : JoinedByLevels
joined_by_levels [] [] e f g = refl
joined_by_levels [] (s ∷ ss) e f g = grind arith
joined_by_levels (r ∷ rs) [] e f g = grind arith
joined_by_levels (r ∷ []) (s ∷ []) e f g = then_none (row_order r s)
joined_by_levels (r ∷ []) (s ∷ (z ∷ ss)) e f g = grind arith
joined_by_levels (r ∷ (q ∷ rs)) (s ∷ []) e f g = grind arith
joined_by_levels (r ∷ (q ∷ rs)) (s ∷ (z ∷ ss)) e f g =
    split r s (joined (q ∷ rs)) (joined (z ∷ ss)) f.0 g.0 ∙ ap (ordering_then (row_order r s)) (joined_by_levels (q ∷ rs) (z ∷ ss) (omega arith) f.1 g.1)

pub joined_reads_back : JoinedReadsBack
joined_reads_back [] [] e f g h = refl
joined_reads_back [] (s ∷ ss) e f g h = grind arith
joined_reads_back (r ∷ rs) [] e f g h = grind arith
joined_reads_back (r ∷ []) (s ∷ []) e f g h = grind arith
joined_reads_back (r ∷ []) (s ∷ (z ∷ ss)) e f g h = grind arith
joined_reads_back (r ∷ (q ∷ rs)) (s ∷ []) e f g h = grind arith
joined_reads_back (r ∷ (q ∷ rs)) (s ∷ (z ∷ ss)) e f g h =
    let p = split_back r s (joined (q ∷ rs)) (joined (z ∷ ss)) f.0 g.0 h in
    let ih = joined_reads_back (q ∷ rs) (z ∷ ss) in
    grind arith
