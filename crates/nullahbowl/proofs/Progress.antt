-- Lines that are taken so far, and those that are still to come.
use Rattle.std.proofs.Common.{◌≡◌, ℕ, ◌+◌, ◌-◌, ◌^◌, ◌<◌, ◌≤◌, min, Bool, true, false, cond, None, Some, Ok, Err, Option, Result, List, [], ◌∷◌, ◌++◌, length, sym, refl, ap, ◌∙◌, add_assoc, add-zero, zero-add, arith}
use Rattle.std.proofs.lemmas.List.{append-nil, append_assoc}
use Rattle.std.specs.Io.KnownBytes.{Appends}
use Rattle.nullahbowl.specs.Answers.{LineTaken, LinesTaken, asked_in, asks, faults_in, is_question}
use Rattle.nullahbowl.specs.Sessions.{Taken}
use Rattle.nullahbowl.specs.declared.answer.Answer.{Answer}
use Rattle.nullahbowl.specs.declared.answer.Answer.TheVariants.{Nothing}
use Rattle.nullahbowl.specs.declared.answer.TakeError.{TakeError}
use Rattle.nullahbowl.specs.declared.answer.TakeError.TheVariants.{Full, NoMemory, Refused}
use Rattle.nullahbowl.specs.declared.argument.Options.{Options}
use Rattle.nullahbowl.specs.declared.reading.Tally.{Tally}
use Rattle.nullahbowl.specs.declared.session.Session.{Session}
use Rattle.texts.specs.declared.fault.Fault.{Fault}
use Rattle.texts.specs.Lines.{blank, meaning_of}
use Rattle.texts.specs.Parts.{without_return}
use Rattle.utf8.specs.Reading.{unread}

-- nothing is written
pub unwritten : (a : Option (List ℕ)) → Appends a a []
unwritten None = tt
unwritten (Some xs) = sym (append-nil xs)

-- one is written behind the other
pub both_written : (a b c : Option (List ℕ)) (v w : List ℕ) → Appends a b v → Appends b c w → Appends a c (v ++ w)
both_written None b c v w g h = tt
both_written (Some xs) None c v w g h = absurd g
both_written (Some xs) (Some ys) None v w g h = absurd h
both_written (Some xs) (Some ys) (Some zs) v w g h = rw (sym (append_assoc xs v w), sym g) h

-- a line in which nothing stands
nothing_in : (n : List ℕ) → length n ≡ 0 → meaning_of n ≡ blank
unfolding meaning_of unread
nothing_in [] e = refl
nothing_in (b ∷ n) e = absurd (omega arith)

nothing_said : (o : Options) (s : Session) (l : List ℕ) (k : ℕ) → length (without_return l) ≡ 0 → LineTaken o s l k 0 0 [] s
nothing_said o s l k e = (Ok Nothing, rw (nothing_in (without_return l) e) (refl, refl), (λ d. cc), refl, refl, refl)

-- a line that is turned away
pub refused : (o : Options) (s : Session) (l : List ℕ) (k q : ℕ) (why : Fault) (t : Session) → Taken s (meaning_of (without_return l)) k (Err (Refused why)) t
    → q ≡ cond (is_question why) 1 0 → LineTaken o s l k 1 q [] t
refused o s l k q why t h e = (Err (Refused why), h, (λ d. cc), refl, e, refl)

pub one_too_many : (o : Options) (s : Session) (l : List ℕ) (k : ℕ) (t : Session) → Taken s (meaning_of (without_return l)) k (Err Full) t
    → LineTaken o s l k 1 0 [] t
one_too_many o s l k t h = (Err Full, h, (λ e. cc), refl, refl, refl)

-- a line is turned away once at most, and asks for one thing at most
few_by : (b : Bool) → cond b 1 0 ≤ 1
few_by true = omega arith
few_by false = omega arith

few_faults : (r : Result Answer TakeError) → faults_in r ≤ 1
few_faults (Ok a) = omega arith
few_faults (Err why) = omega arith

few_asked : (r : Result Answer TakeError) → asked_in r ≤ 1
few_asked (Ok a) = few_by (asks a)
few_asked (Err (Refused why)) = few_by (is_question why)
few_asked (Err Full) = omega arith
few_asked (Err NoMemory) = omega arith

few : (o : Options) (s : Session) (l : List ℕ) (k f q : ℕ) (w : List ℕ) (t : Session) → LineTaken o s l k f q w t → (f ≤ 1) × (q ≤ 1)
few o s l k f q w t h = (rw h.3 (few_faults h.0), rw h.4 (few_asked h.0))

-- where the rest is taken from here on, all is
abbrev pub Underway : Options → (s : Session) → (all : List (List ℕ)) → (m : Session) → (rest : List (List ℕ)) → (k faults asked : ℕ) → (w : List ℕ) → Type 0
Underway o s all m rest k f q w =
    (e p : ℕ) (v : List ℕ) (t : Session) → LinesTaken o m rest k e p v t → LinesTaken o s all 0 (f + e) (q + p) (w ++ v) t

-- how the loop stands behind y lines of a text of t bytes, with a written before them and b by now: each has added one at most to
-- either sum
abbrev pub Standing : Options → (s : Session) → (all : List (List ℕ)) → (m : Session) → (rest : List (List ℕ)) → (k : ℕ) → Tally → (y t : ℕ) → (a b : Option (List ℕ)) → Type 0
Standing o s all m rest k u y t a b =
    (u.faults ≤ y) × (u.asked ≤ y) × (y + length rest ≤ t + 1) × (k ≡ y)
    × ((w : List ℕ) × Appends a b w × Underway o s all m rest k u.faults u.asked w)

-- what one line changes: the sums from u to v, what is written from a to b, and the session
abbrev pub Step : Options → Session → (l : List ℕ) → (j : ℕ) → (u v : Tally) → (a b : Option (List ℕ)) → Session → Type 0
Step o m l j u v a b n =
    (d p : ℕ) × (w : List ℕ) × LineTaken o m l j d p w n × Appends a b w × (v.faults ≡ u.faults + d) × (v.asked ≡ u.asked + p)

-- a line in which nothing stands changes nothing
pub blank_step : (o : Options) (m : Session) (l : List ℕ) (j : ℕ) (u : Tally) (a : Option (List ℕ)) → length (without_return l) ≡ 0
    → Step o m l j u u a a m
blank_step o m l j u a e = (0, 0, [], nothing_said o m l j e, unwritten a, sym (add-zero u.faults), sym (add-zero u.asked))

sum : (r f d y : ℕ) → r ≡ min (f + d) (2 ^ 64 - 1) → f ≤ y → d ≤ 1 → y + 1 < 2 ^ 64 → r ≡ f + d
sum r f d y e h k m = omega arith

-- any other adds what its reading answers, since the sums stay small
pub read_step : (o : Options) (m : Session) (l : List ℕ) (j : ℕ) (u v more : Tally) (y : ℕ) (a b : Option (List ℕ)) (n : Session) (w : List ℕ)
    → LineTaken o m l j more.faults more.asked w n → Appends a b w
    → (v.faults ≡ min (u.faults + more.faults) (2 ^ 64 - 1)) × (v.asked ≡ min (u.asked + more.asked) (2 ^ 64 - 1))
    → u.faults ≤ y → u.asked ≤ y → y + 1 < 2 ^ 64
    → Step o m l j u v a b n
read_step o m l j u v more y a b n w one h e f q r =
    let at_most = few o m l j more.faults more.asked w n one in
    (more.faults, more.asked, w, one, h, sum _ _ _ y e.0 f at_most.0 r, sum _ _ _ y e.1 q at_most.1 r)

pub begun : (o : Options) (s : Session) (all : List (List ℕ)) (k f q : ℕ) → k ≡ 0 → f ≡ 0 → q ≡ 0 → Underway o s all s all k f q []
begun o s all k f q ek ef eq = λ e p v t h. rw (ef, eq, zero-add e, zero-add p) (rw ek at h)

-- one line more, at place j, and the sums of what there was and what it adds
gone_on : (o : Options) (s : Session) (all : List (List ℕ)) (m : Session) (rest : List (List ℕ)) (l : List ℕ) (ls : List (List ℕ)) (k f q : ℕ) (w : List ℕ)
    (j d p : ℕ) (v : List ℕ) (n : Session) (k' f' q' : ℕ)
    → Underway o s all m rest k f q w → LineTaken o m l j d p v n → rest ≡ l ∷ ls → j ≡ k → k' ≡ k + 1 → f' ≡ f + d → q' ≡ q + p
    → Underway o s all n ls k' f' q' (w ++ v)
unfolding LinesTaken
gone_on o s all m rest l ls k f q w j d p v n k' f' q' u one er ej ek ef eq =
    λ e r x t h.
    let one_here : LineTaken o m l k d p v n = rw ej at one in
    let others : LinesTaken o n ls (k + 1) e r x t = rw ek at h in
    let both : LinesTaken o m rest k (d + e) (p + r) (v ++ x) t = rw er (n, d, e, p, r, v, x, one_here, others, refl, refl, refl) in
    rw (ef, eq, add_assoc f d e, add_assoc q p r, append_assoc w v x) (u (d + e) (p + r) (v ++ x) t both)

-- so it stands with the loop behind that line
pub stepped : (o : Options) (s : Session) (all : List (List ℕ)) (m : Session) (rest : List (List ℕ)) (l : List ℕ) (ls : List (List ℕ)) (k : ℕ) (u : Tally)
    (y t : ℕ) (a b c : Option (List ℕ)) (j : ℕ) (v : Tally) (k' y' : ℕ) (n : Session)
    → Standing o s all m rest k u y t a b → Step o m l j u v b c n → rest ≡ l ∷ ls → j ≡ k → k' ≡ k + 1 → y' ≡ y + 1
    → Standing o s all n ls k' v y' t a c
stepped o s all m rest l ls k u y t a b c j v k' y' n i one er ej ek ey =
    let at_most = few o m l j one.0 one.1 one.2 n one.3 in
    let left = ap length er in
    let on = gone_on o s all m rest l ls k u.faults u.asked i.4.0 j one.0 one.1 one.2 n k' v.faults v.asked i.4.2 one.3 er ej ek one.5 one.6 in (
      omega (arith, i.0, at_most.0, one.5),
      omega (arith, i.1, at_most.1, one.6),
      omega (arith, i.2, left),
      ek ∙ ap (λ x. x + 1) i.3 ∙ sym ey,
      (i.4.0 ++ one.2, both_written a b c _ _ i.4.1 one.4, on),
    )

pub all_taken : (o : Options) (s : Session) (all : List (List ℕ)) (m : Session) (rest : List (List ℕ)) (k f q : ℕ) (w : List ℕ)
    → Underway o s all m rest k f q w → rest ≡ [] → LinesTaken o s all 0 f q w m
unfolding LinesTaken
all_taken o s all m rest k f q w u e =
    let none : LinesTaken o m rest k 0 0 [] m = rw e (refl, refl, refl, refl) in
    rw (add-zero f, add-zero q, append-nil w) at (u 0 0 [] m none)
