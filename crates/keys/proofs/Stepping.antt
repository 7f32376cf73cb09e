-- Steps along a row: what one takes, and what is left then.
use Rattle.std.proofs.Common.{◌≡◌, ℕ, ◌+◌, ◌<◌, ◌≤◌, Bool, true, false, List, [], ◌∷◌, length, map, take, drop, Some, None, Option, is_some, Bor, subst, sym, refl, ap, ap₂, ◌∙◌, arith}
use Rattle.std.proofs.lemmas.Bool.{true≢false}
use Rattle.std.proofs.lemmas.List.{drop-drop, length-drop}
use Rattle.pieces.specs.declared.piece.Weights.{Weights}
use Rattle.table.specs.Meaning.{rules_of}
use Rattle.table.specs.Rules.{Rules, triples}
use Rattle.pieces.specs.Runs.{counts, one_or_none}
use Rattle.keys.specs.declared.level.Level.{Level}
use Rattle.keys.specs.declared.level.Level.TheVariants.{Primary, Secondary, Tertiary}
use Rattle.keys.specs.declared.walk.Behind.{Behind}
use Rattle.keys.specs.declared.walk.Walk.{Walk}
use Rattle.keys.specs.Pieces.{pieces, pieces_behind, taken}
use Rattle.keys.specs.Letters.{first_in, letters_in}
use Rattle.keys.specs.Rows.{on, row, row_of, weighed, without_zeros}
use Rattle.keys.specs.Reading.{AreShort, LetterWith, PieceAt, RunAt, Stepped, WalkedOn, ahead, in_front, left_of, steps_left, still}
use Rattle.keys.proofs.Lettering.{no_letters, read_first, read_none}
use Rattle.keys.proofs.Pieces.{one_piece}
use Rattle.keys.proofs.Weighing.{none_front, zeros_ahead}

module _ (l : Level) (t : Rules) where
  pub at_end : (n : List ℕ) → length n ≡ 0 → row l t n ≡ []
  unfolding row row_of weighed without_zeros pieces_behind
  at_end [] h = let e = no_letters t.utf8 in rw e
  at_end (a ∷ n) h = absurd (omega arith)

  -- a piece of a letter or of more was taken: what it weighs is in front of what is left
  pub at_piece : (a : ℕ) (m ls n : List ℕ) → letters_in t.utf8 m ≡ a ∷ ls → letters_in t.utf8 n ≡ drop (taken t.joins (a ∷ ls)) (a ∷ ls)
      → row l t m ≡ ahead l (triples t (take (taken t.joins (a ∷ ls)) (a ∷ ls))) (row l t n)
  unfolding row row_of weighed
  at_piece a m ls n h d =
      let k = taken t.joins (a ∷ ls) in
      let p = take k (a ∷ ls) in
      ap (λ x. without_zeros (map (on l) (weighed t (pieces t.joins x)))) h
      ∙ (ap (λ ps. without_zeros (map (on l) (weighed t ps))) (one_piece t.joins a ls)
      ∙ (zeros_ahead l (triples t p) (weighed t (pieces t.joins (drop k (a ∷ ls))))
      ∙ ap (λ x. ahead l (triples t p) (without_zeros (map (on l) (weighed t (pieces t.joins x))))) (sym d)))

-- a letter that was read, with which no run is met
letter_at : (t : Rules) (a : ℕ) (n : List ℕ) → taken t.joins (a ∷ letters_in t.utf8 n) ≡ 1 → letters_in t.utf8 n ≡ drop (taken t.joins (a ∷ letters_in t.utf8 n)) (a ∷ letters_in t.utf8 n)
letter_at t a n e = ap (λ k. drop k (a ∷ letters_in t.utf8 n)) (sym e)

-- it weighs as one, or as two or three
pub as_one : (t : Rules) (a : ℕ) (w : Weights) → w ≡ t.weighs (a ∷ []) → t.expands (a ∷ []) ≡ [] → AreShort w → LetterWith t a (w, None)
as_one t a w e x s = (λ l r. ap₂ (λ v vs. ahead l (v ∷ vs) r) (sym e) x, s)

pub as_several : (t : Rules) (a : ℕ) (v w x : Weights) (y : Option Weights) → v ≡ t.weighs (a ∷ []) → counts v ≡ false → w ∷ (x ∷ one_or_none y) ≡ t.expands (a ∷ []) → AreShort w
    → LetterWith t a (w, Some (record { next = x; last = y }))
as_several t a v w x y e c h s = (
  λ l r. none_front (t.weighs (a ∷ [])) l (ahead l (t.expands (a ∷ [])) r) (ap counts (sym e) ∙ c) ∙ ap (λ ws. ahead l ws r) (sym h),
  s,
)

-- at most two triples are still behind
still_few : (m : Option Behind) → length (still m) ≤ 2
still_few None = omega arith
still_few (Some b) = go b.last
  where
    go : (o : Option Weights) → length (b.next ∷ one_or_none o) ≤ 2
    go None = omega arith
    go (Some w) = omega arith

-- none are
pub none_still : (m : Option Behind) → is_some m ≡ false → m ≡ None
none_still None e = refl
none_still (Some b) e = absurd (true≢false e)

-- each weight of 16 bits
pub short : (w : Weights) → w.primary < 65536 → w.secondary < 65536 → w.tertiary < 65536 → AreShort w
short w p s t Primary = p
short w p s t Secondary = s
short w p s t Tertiary = t

module _ (w : Walk) where
  abbrev rules : Rules
  rules = rules_of w.table.now

  -- where a walk has come to, something having been taken that weighs as is told
  abbrev pub CameTo : Walk → Type 0
  CameTo v =
      ((l : Level) → left_of l w ≡ in_front (on l v.weights) (left_of l v))
      × WalkedOn w v × (steps_left v < steps_left w)

  module _ (n : w.more ≡ None) where
    none_ahead : (l : Level) → left_of l w ≡ row l rules w.rest.now
    none_ahead l = ap (λ m. ahead l (still m) (row l rules w.rest.now)) n

    pub ended : length w.rest.now ≡ 0 → Stepped w false w
    ended h = ((λ l. (none_ahead l ∙ at_end l rules w.rest.now h, none_ahead l ∙ at_end l rules w.rest.now h)), (refl, (0, refl)))

    pub ended_read : first_in rules.utf8 w.rest.now ≡ None → Stepped w false w
    ended_read e = ended (ap length (read_none rules.utf8 w.rest.now e))

    pub piece_read : (a k : ℕ) (ls : List ℕ) (rest : Bor (List ℕ)) (v : Weights) (m : Option Behind) → letters_in rules.utf8 w.rest.now ≡ a ∷ ls
        → letters_in rules.utf8 rest.now ≡ drop (taken rules.joins (a ∷ ls)) (a ∷ ls)
        → ((l : Level) (r : List ℕ) → ahead l (triples rules (take (taken rules.joins (a ∷ ls)) (a ∷ ls))) r ≡ in_front (on l v) (ahead l (still m) r))
        → rest.now ≡ drop k w.rest.now → length rest.now < length w.rest.now → CameTo (record { table = w.table; rest = rest; weights = v; more = m })
    piece_read a k ls rest v m h p x d l = (
      (λ j. none_ahead j ∙ (at_piece j rules a w.rest.now ls rest.now h p ∙ x j (row j rules rest.now))),
      (refl, (k, d)),
      (let f = still_few m in omega arith),
    )

    -- letters are left where fewer bytes may be behind
    some_left : (rest : List ℕ) → length rest < length w.rest.now → (a : ℕ) × (ls : List ℕ) × (letters_in rules.utf8 w.rest.now ≡ a ∷ ls)
    some_left rest l = go (first_in rules.utf8 w.rest.now) refl
      where
        go : (r : Option (ℕ × ℕ)) → first_in rules.utf8 w.rest.now ≡ r → (a : ℕ) × (ls : List ℕ) × (letters_in rules.utf8 w.rest.now ≡ a ∷ ls)
        go None e = absurd (let z = ap length (read_none rules.utf8 w.rest.now e) in omega arith)
        go (Some (a, k)) e = (a, letters_in rules.utf8 (drop k w.rest.now), (read_first rules.utf8 w.rest.now a k e).0)

  -- a run that is taken
  pub run_read : (rest : Bor (List ℕ)) → RunAt w rest.now → CameTo (record { table = w.table; rest = rest; weights = w.weights; more = w.more })
  run_read rest r =
      let s = some_left r.4 rest.now r.3 in
      let p = subst (λ ls. PieceAt rules ls (letters_in rules.utf8 rest.now) w.weights) s.2 r.0 in
      let c = piece_read r.4 s.0 r.2.0 s.1 rest w.weights None s.2 p.2 (λ l q. ap₂ (λ v vs. ahead l (v ∷ vs) q) (sym p.0) p.1) r.2.1 r.3 in
      subst (λ m. CameTo (record { table = w.table; rest = rest; weights = w.weights; more = m })) (sym r.4) c

  -- a letter that was read is the first of those that are left
  module _ (a k : ℕ) (rest : List ℕ) (f : first_in rules.utf8 w.rest.now ≡ Some (a, k)) (d : rest ≡ drop k w.rest.now) where
    pub are_left : letters_in rules.utf8 w.rest.now ≡ a ∷ letters_in rules.utf8 rest
    are_left = (read_first rules.utf8 w.rest.now a k f).0 ∙ ap (λ n. a ∷ letters_in rules.utf8 n) (sym d)

    pub fewer_left : length rest < length w.rest.now
    fewer_left =
        let r = read_first rules.utf8 w.rest.now a k f in
        let g = ap length d in
        let m = length-drop k w.rest.now in
        let x = r.1 in
        let y = r.2 in
        omega arith

  -- one letter that was read is taken
  pub letter_read : (a k : ℕ) (rest : Bor (List ℕ)) (v : Weights) (m : Option Behind) → w.more ≡ None → first_in rules.utf8 w.rest.now ≡ Some (a, k) → rest.now ≡ drop k w.rest.now
      → taken rules.joins (a ∷ letters_in rules.utf8 rest.now) ≡ 1 → LetterWith rules a (v, m) → CameTo (record { table = w.table; rest = rest; weights = v; more = m })
  letter_read a k rest v m n f d one e =
      let ls = letters_in rules.utf8 rest.now in
      piece_read n a k ls rest v m (are_left a k rest.now f d) (letter_at rules a rest.now one) (λ l r. ap (λ i. ahead l (triples rules (take i (a ∷ ls))) r) one ∙ e.0 l r) d (fewer_left a k rest.now f d)

  -- a run with a letter that was read is the one at which the walk stands
  pub run_met : (a k : ℕ) (rest behind : List ℕ) (v : Weights) → w.more ≡ None → first_in rules.utf8 w.rest.now ≡ Some (a, k) → rest ≡ drop k w.rest.now
      → PieceAt rules (a ∷ letters_in rules.utf8 rest) (letters_in rules.utf8 behind) v → ((i : ℕ) × (behind ≡ drop i rest)) → AreShort v
      → RunAt (record { table = w.table; rest = w.rest; weights = v; more = w.more }) behind
  run_met a k rest behind v n f d p (i, b) s = (
    subst (λ ls. PieceAt rules ls (letters_in rules.utf8 behind) v) (sym (are_left a k rest f d)) p,
    s,
    (k + i, b ∙ (ap (drop i) d ∙ drop-drop i k w.rest.now)),
    (let l = fewer_left a k rest f d in let m = ap length b in let n = length-drop i rest in omega arith),
    n,
  )

  -- the next triple that a letter still weighs is taken
  pub next_taken : (b : Behind) (v : Weights) (m : Option Behind) → w.more ≡ Some b → v ∷ still m ≡ still (Some b) → CameTo (record { table = w.table; rest = w.rest; weights = v; more = m })
  next_taken b v m e h = (
    (λ l. ap (λ x. ahead l (still x) (row l rules w.rest.now)) e ∙ ap (λ ws. ahead l ws (row l rules w.rest.now)) (sym h)),
    (refl, (0, refl)),
    (let n = ap (λ x. length (still x)) e in let k = ap length h in omega arith),
  )

  module _ (v : Walk) (c : CameTo v) where
    -- what counts is where a step ends
    pub stops : AreShort v.weights → Stepped w true v
    stops small = (c.0, small, c.1, c.2)

    passed : (l : Level) → counts v.weights ≡ false → left_of l w ≡ left_of l v
    passed l e = c.0 l ∙ none_front v.weights l (left_of l v) e

    further : (s : Walk) → WalkedOn v s → WalkedOn w s
    further s m = (m.0 ∙ c.1.0, (c.1.1.0 + m.1.0, m.1.1 ∙ ap (drop m.1.0) c.1.1.1 ∙ drop-drop m.1.0 c.1.1.0 w.rest.now))

    -- what doesn't is passed over
    pub passes : (b : Bool) (s : Walk) → counts v.weights ≡ false → Stepped v b s → Stepped w b s
    passes true s e g = ((λ l. passed l e ∙ g.0 l), g.1, further s g.2, omega (arith, c.2, g.3))
    passes false s e g = ((λ l. (passed l e ∙ (g.0 l).0, (g.0 l).1)), further s g.1)
