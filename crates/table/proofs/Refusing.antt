-- Which refusal it is, one test after the other.
use Rattle.std.proofs.Common.{◌≡◌, ℕ, ◌*◌, ◌<◌, ◌≤◌, ◌/◌, ◌⊎◌, not, List, length, Some, None, true, false, Ok, Err, Option, Result, IsErrAnd, is_some, sym, ap, ◌∙◌, refl, inl, inr, ⊎_elim, leb, cond, Bool, arith}
use mathlib.Core.Path.{subst⁻¹}
use Rattle.std.proofs.lemmas.Bool.{eq-eqb, ne_eqb, lt-ltb, le-ltb, cases_eq, cases_lt, true≢false}
use Rattle.std.proofs.lemmas.Bool.Decides.{nat_tests}
use Rattle.table.specs.declared.fault.Refusal.{Refusal}
use Rattle.table.specs.declared.fault.Refusal.TheVariants.{Letters, LetterTwice, NoLetter, Shape, TooMany, TooManyLetters, Foreign, Twice}
use Rattle.table.specs.Refusals.{at_place, first_place, foreign, repeated, refusal_of, shape_refusal, verdict}
use Rattle.table.specs.declared.view.Table.{Table}
use Rattle.std.specs.Result.{IsErr}
use Rattle.std.specs.declared.alloc.AllocError.{AllocError}
use Rattle.table.specs.Buffer.{Added, SameBuffer, Written, excess_refusal, letter_refusal}
use Rattle.table.specs.Entries.{is_letter_of}
use Rattle.table.specs.Meaning.{Checked}
use Rattle.table.specs.Rules.{Rules, contraction, is_weighed}
use Rattle.pieces.specs.Runs.{counts_some}
use Rattle.table.specs.declared.buffer.TableBuf.{TableBuf}
use Rattle.table.specs.declared.fault.Failure.{Failure}
use Rattle.table.specs.declared.fault.Failure.TheVariants.{Refused}
use Rattle.pieces.specs.declared.piece.LetterEntry.{LetterEntry}
use Rattle.pieces.specs.declared.piece.Triples.{Triples}
use Rattle.pieces.specs.declared.piece.Triples.TheVariants.{Excess, One, Several}
use Rattle.std.proofs.lemmas.Option.{none-some}

module _ (ls ps : List ℕ) (n : ℕ) where
  pub wrong_letters : (length ls ≡ 768 → ⊥) → refusal_of ls ps n ≡ Some Letters
  unfolding refusal_of
  wrong_letters h = rw (ne_eqb (length ls) 768 h)

  module _ (l : length ls ≡ 768) where
    pub wrong_shape : (length ps ≡ 5 * n → ⊥) → refusal_of ls ps n ≡ Some Shape
    unfolding refusal_of
    wrong_shape h = rw (eq-eqb (length ls) 768 l, ne_eqb (length ps) (5 * n) h)

    module _ (s : length ps ≡ 5 * n) where
      pub too_many : 200 < n → refusal_of ls ps n ≡ Some TooMany
      unfolding refusal_of
      too_many h = rw (eq-eqb (length ls) 768 l, eq-eqb (length ps) (5 * n) s, lt-ltb 200 n h)

      module _ (m : n ≤ 200) where
        pub has_foreign : (k : ℕ) → first_place (foreign false ps) n ≡ Some k → refusal_of ls ps n ≡ Some (Foreign k)
        unfolding refusal_of
        has_foreign k e = rw (eq-eqb (length ls) 768 l, eq-eqb (length ps) (5 * n) s, le-ltb 200 n m, e)

        module _ (f : first_place (foreign false ps) n ≡ None) where
          pub has_twice : (k : ℕ) → first_place (repeated ps) n ≡ Some k → refusal_of ls ps n ≡ Some (Twice k)
          unfolding refusal_of
          has_twice k e = rw (eq-eqb (length ls) 768 l, eq-eqb (length ps) (5 * n) s, le-ltb 200 n m, f, e)

          pub no_refusal : first_place (repeated ps) n ≡ None → refusal_of ls ps n ≡ None
          unfolding refusal_of
          no_refusal e = rw (eq-eqb (length ls) 768 l, eq-eqb (length ps) (5 * n) s, le-ltb 200 n m, f, e)

pub by_shape : (ls ps : List ℕ) (n : ℕ) (why : Refusal) → shape_refusal (length ls) (length ps) n ≡ Some why → refusal_of ls ps n ≡ Some why
unfolding refusal_of
by_shape ls ps n why e = rw e

pub shape_sound : (l p n : ℕ) → shape_refusal l p n ≡ None → (l ≡ 768) × (p ≡ 5 * n) × (n ≤ 200)
shape_sound l p n e = (grind (arith, nat_tests), grind (arith, nat_tests), grind (arith, nat_tests))

-- what numbers that are not turned away are
pub record Sound (ls ps : List ℕ) (n : ℕ) : Type 0 where
  pub whole : length ls ≡ 768
  pub fives : length ps ≡ 5 * n
  pub few : n ≤ 200
  pub known : first_place (foreign false ps) n ≡ None
  pub apart : first_place (repeated ps) n ≡ None

pub some_or_none : (o : Option ℕ) → ((k : ℕ) × (o ≡ Some k)) ⊎ (o ≡ None)
some_or_none None = inr refl
some_or_none (Some k) = inl (k, refl)

-- what holds in each case holds of the refusal
module _ (ls ps : List ℕ) (n : ℕ) (P : Option Refusal → Type 0) where
  pub by_refusal :
      P (Some Letters) → P (Some Shape) → P (Some TooMany) →
      ((k : ℕ) → first_place (foreign false ps) n ≡ Some k → P (Some (Foreign k))) →
      ((k : ℕ) → first_place (foreign false ps) n ≡ None → first_place (repeated ps) n ≡ Some k → P (Some (Twice k))) →
      (Sound ls ps n → P None) → P (refusal_of ls ps n)
  by_refusal a b c d f g =
      ⊎_elim
      (λ l. ⊎_elim
      (λ s. ⊎_elim
      (λ m. subst⁻¹ P (too_many ls ps n l s m) c)
      (λ m. ⊎_elim
      (λ q. subst⁻¹ P (has_foreign ls ps n l s m q.0 q.1) (d q.0 q.1))
      (λ q. ⊎_elim
      (λ r. subst⁻¹ P (has_twice ls ps n l s m q r.0 r.1) (f r.0 q r.1))
      (λ r. subst⁻¹ P (no_refusal ls ps n l s m q r) (g (record { whole = l; fives = s; few = m; known = q; apart = r })))
      (some_or_none (first_place (repeated ps) n)))
      (some_or_none (first_place (foreign false ps) n)))
      (cases_lt 200 n))
      (λ s. subst⁻¹ P (wrong_shape ls ps n l s) b)
      (cases_eq (length ps) (5 * n)))
      (λ l. subst⁻¹ P (wrong_letters ls ps n l) a)
      (cases_eq (length ls) 768)

pub some_is_not_none : (why : Refusal) → ◌≡◌ {A = Option Refusal} (Some why) None → ⊥
some_is_not_none why e = true≢false (ap is_some e)

pub sound : (ls ps : List ℕ) (n : ℕ) → refusal_of ls ps n ≡ None → Sound ls ps n
sound ls ps n =
    by_refusal ls ps n (λ o. o ≡ None → Sound ls ps n) (λ e. absurd (some_is_not_none _ e)) (λ e. absurd (some_is_not_none _ e)) (λ e. absurd (some_is_not_none _ e))
    (λ k q e. absurd (some_is_not_none _ e)) (λ k q r e. absurd (some_is_not_none _ e)) (λ s e. s)

-- the letters count only by how many numbers they are
pub refusal_letters : (ls ms ps : List ℕ) (n : ℕ) → length ms ≡ length ls → refusal_of ms ps n ≡ refusal_of ls ps n
unfolding refusal_of
refusal_letters ls ms ps n e = rw e

-- what a verdict says of the refusal
pub turned_away : (o : Option Refusal) (why : Refusal) → Err why ≡ verdict o → o ≡ Some why
turned_away None why e = grind arith
turned_away (Some w) why e = grind arith

pub taken : (o : Option Refusal) → Ok tt ≡ verdict o → o ≡ None
taken None e = refl
taken (Some w) e = grind arith

-- so many pairs as there are fives
pub fifth : (m n : ℕ) → m ≡ 5 * n → m / 5 ≡ n
fifth m n e = omega arith

-- where the letters are known, what is left to find is a pair that is there twice
pub twice_left : (ls ps : List ℕ) (n : ℕ) → shape_refusal (length ls) (length ps) n ≡ None → first_place (foreign false ps) n ≡ None →
    refusal_of ls ps n ≡ at_place Twice (first_place (repeated ps) n) None
unfolding refusal_of
twice_left ls ps n e f = rw (e, f)

pub refused : (ls ps : List ℕ) (n : ℕ) (why : Refusal) (r : Result Table Refusal) → IsErrAnd r (λ e. e ≡ why) → refusal_of ls ps n ≡ Some why → Checked ls ps n r
refused ls ps n why (Ok t) h e = absurd h
refused ls ps n why (Err w) h e = e ∙ ap Some (sym h)

-- what an entry that is taken is
pub letter_free : (t : Rules) (k : ℕ) (e : LetterEntry) → letter_refusal t k e ≡ None → counts_some e.weights ≡ true → (is_letter_of t.utf8 e.letter ≡ true) × (is_weighed t e.letter ≡ false) × (excess_refusal 0 e.weights ≡ None)
letter_free t k e n c = go (counts_some e.weights) (leb 2000 k) (is_letter_of t.utf8 e.letter) (is_weighed t e.letter) refl refl c n
  where
    any_place : (x : Triples) → excess_refusal k x ≡ None → excess_refusal 0 x ≡ None
    any_place (One w) h = refl
    any_place (Several x) h = refl
    any_place Excess h = absurd (none-some _ (sym h))

    go : (x y l w : Bool) → is_letter_of t.utf8 e.letter ≡ l → is_weighed t e.letter ≡ w → x ≡ true
        → cond (not x) None (cond y (Some TooManyLetters) (cond (not l) (Some (NoLetter k)) (cond w (Some (LetterTwice k)) (excess_refusal k e.weights)))) ≡ None → (l ≡ true) × (w ≡ false) × (excess_refusal 0 e.weights ≡ None)
    go false y l w p q c n = absurd (true≢false (sym c))
    go true true l w p q c n = absurd (none-some _ (sym n))
    go true false false w p q c n = absurd (none-some _ (sym n))
    go true false true true p q c n = absurd (none-some _ (sym n))
    go true false true false p q c n = (refl, refl, any_place e.weights n)

-- what is refused is told, and nothing changes
pub refused_told : (refusal : Option Refusal) (there : TableBuf → Type 0) (b : TableBuf) (why : Refusal) (r : Result Unit (Failure Refusal)) → IsErrAnd r (λ x. x ≡ Refused why)
    → refusal ≡ Some why → Added refusal there b r b
refused_told o there b why (Ok x) h q = absurd h
refused_told o there b why (Err x) h q = subst⁻¹ (λ x. Added o there b (Err x) b) h (q, refl)

-- where there is no memory, what is said is the same
pub not_written : (there : TableBuf → Type 0) (b c : TableBuf) (r : Result Unit AllocError) → IsErr r → SameBuffer b c → Written there b r c
not_written there b c (Ok x) h s = absurd (true≢false (sym h))
not_written there b c (Err x) h s = s

-- one run more, looked at test by test
module _ (m n : ℕ) (b c : Bool) (e : m ≡ n) (l : m < 200) (f : b ≡ false) where
  abbrev run_refused : Option Refusal
  run_refused = cond (leb 200 n) (Some TooMany) (cond b (Some (Foreign n)) (cond c (Some (Twice n)) None))

  room : leb 200 n ≡ false
  room = let d : n < 200 = omega arith in grind (arith, nat_tests)

  pub run_twice : c ≡ true → Err (Twice m) ≡ verdict run_refused
  run_twice g = let r = room in rw (r, f, g, e) refl

  pub run_allowed : c ≡ false → Ok tt ≡ verdict run_refused
  run_allowed g = let r = room in rw (r, f, g) refl

-- a run is one where it has weights
pub contracted : (t : Rules) (run : List ℕ) → is_some (contraction t run) ≡ t.joins run
contracted t run = go (t.joins run)
  where
    go : (j : Bool) → is_some (cond j (Some (t.weighs run)) None) ≡ j
    go true = refl
    go false = refl
