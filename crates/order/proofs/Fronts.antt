-- What names both begin with does not decide which is before the other.
use Rattle.std.proofs.Common.{◌≡◌, ℕ, zero, suc, ◌+◌, ◌-◌, ◌<◌, ◌≤◌, Bool, true, false, cond, eqb, not, List, [], ◌∷◌, ◌++◌, drop, length, map, take, is_some, Some, Option, get_or, slice_index, ⊎_elim, subst, refl, sym, ap, ap₂, ◌∙◌, add-one, arith}
use mathlib.Core.Path.{subst⁻¹}
use Rattle.std.proofs.lemmas.List.{append_assoc, append-nil, length-append, length-drop, length-take-le, map-append, take-append-drop}
use Rattle.std.proofs.Math.Seq.{take-length}
use Rattle.std.proofs.lemmas.Bool.{cases_lt, cond-true, true≢false}
use Rattle.std.proofs.lemmas.Bool.Decides.{nat_tests}
use Rattle.pieces.specs.declared.piece.Weights.{Weights}
use Rattle.table.specs.Rules.{BeginsNone, Rules, contraction, triples}
use Rattle.keys.proofs.Bounding.{zeros_parted}
use Rattle.keys.specs.Laws.{OnlyPairs, RunsFit}
use Rattle.keys.specs.Pieces.{met, pieces, pieces_behind, taken}
use Rattle.keys.proofs.Pieces.{met_short, met_there, taken_fits, taken_some}
use Rattle.keys.specs.Letters.{begins_in, first_in, letters_in, one_byte}
use Rattle.keys.specs.Rows.{on, row, row_of, rows, weighed, without_zeros}
use Rattle.keys.proofs.Lettering.{no_letters, parted_in, read_first, small_first, starts_in}
use Rattle.keys.specs.declared.level.Level.{Level}
use Rattle.keys.specs.declared.level.Level.TheVariants.{Primary, Secondary, Tertiary}
use Rattle.std.specs.Ordering.{ordering_then}
use Rattle.std.specs.declared.cmp.Ordering.TheVariants.{Equal}
use Rattle.order.specs.Fronts.{EndsWith, LastBeginNone, MayCut, NoneAcross, NoneBegins, Shared}
use Rattle.order.specs.Rows.{by_levels, row_order}

-- the first letters of a front and of what is behind it
take_front : (k : ℕ) (p x : List ℕ) → k ≤ length p → take k (p ++ x) ≡ take k p
take_front zero p x l = refl
take_front (suc k) [] x l = absurd (omega arith)
take_front (suc k) (a ∷ p) x l = ap (λ n. a ∷ n) (take_front k p x (omega arith))

take_over : (p x : List ℕ) (k i : ℕ) → k ≡ length p + i → take k (p ++ x) ≡ p ++ take i x
take_over [] x k i e = let d : k ≡ i = omega arith in ap (λ n. take n x) d
take_over (a ∷ p) x zero i e = absurd (omega arith)
take_over (a ∷ p) x (suc k) i e = ap (λ n. a ∷ n) (take_over p x k i (omega arith))

module _ (j : List ℕ → Bool) where
  across_shorter : (a : ℕ) (p x : List ℕ) → NoneAcross j (a ∷ p) x → NoneAcross j p x
  across_shorter a p x h f s r q e g l m = h (a ∷ f) s r q (ap (λ n. a ∷ n) e) g l m

  -- runs of a front are met there whatever is behind it
  same_met : (k : ℕ) (p x : List ℕ) → 0 < length p → NoneAcross j p x → met j k (p ++ x) ≡ met j k p
  same_met k p x some h =
      ⊎_elim
      (λ l. over l)
      (λ l. met_there j k (p ++ x) (let n = length-append p x in omega arith) ∙ (ap j (take_front k p x l) ∙ sym (met_there j k p l)))
      (cases_lt (length p) k)
    where
      over : length p < k → met j k (p ++ x) ≡ met j k p
      over l =
          ⊎_elim
          (λ m. met_short j k (p ++ x) (let n = length-append p x in omega arith) ∙ sym (met_short j k p l))
          (λ m.
          let i = k - length p in
          let n = length-append p x in
          let c = length-take-le i x (omega arith) in
          let o : k ≡ length p + i = omega arith in
          met_there j k (p ++ x) (omega arith)
          ∙ (ap j (take_over p x k i o) ∙ (h [] p (take i x) (drop i x) refl (sym (take-append-drop i x)) some (omega arith) ∙ sym (met_short j k p l))))
          (cases_lt (length x) (k - length p))

  same_taken : (p x : List ℕ) → 0 < length p → NoneAcross j p x → taken j (p ++ x) ≡ taken j p
  same_taken p x l h = ap₂ (λ a b. cond a 4 b) (same_met 4 p x l h) (ap₂ (λ a b. cond a 3 b) (same_met 3 p x l h) (ap (λ a. cond a 2 1) (same_met 2 p x l h)))

  -- pieces of a front and of what is behind it
  behind_parted : (k : ℕ) (p x : List ℕ) → k ≤ length p → NoneAcross j p x → pieces_behind j k (p ++ x) ≡ pieces_behind j k p ++ pieces j x
  unfolding pieces_behind
  behind_parted zero [] x l h = refl
  behind_parted (suc k) [] x l h = absurd (omega arith)
  behind_parted (suc k) (a ∷ p) x l h = behind_parted k p x (omega arith) (across_shorter a p x h)
  behind_parted zero (a ∷ p) x l h =
      let k = taken j (a ∷ p) in
      let f = taken_fits j a p in
      let s = taken_some j (a ∷ p) in
      let e = same_taken (a ∷ p) x (omega arith) h in
      let ih = behind_parted (k - 1) p x (omega arith) (across_shorter a p x h) in
      ap₂ (λ q qs. q ∷ qs) (ap (λ i. take i (a ∷ (p ++ x))) e ∙ take_front k (a ∷ p) x f) (ap (λ i. pieces_behind j (i - 1) (p ++ x)) e ∙ ih)

  parted : (p x : List ℕ) → NoneAcross j p x → pieces j (p ++ x) ≡ pieces j p ++ pieces j x
  parted p x h = behind_parted 0 p x (omega arith) h

  -- nothing stands across an end
  none_behind : (p : List ℕ) → NoneAcross j p []
  none_behind p f s r q e g l m = absurd (let a = ap length g in let b = length-append r q in omega arith)

  none_before : (x : List ℕ) → NoneAcross j [] x
  none_before x f s r q e g l m = absurd (let a = ap length e in let b = length-append f s in omega arith)

  -- where only two letters are one, the last and the next say it
  across_pair : OnlyPairs j → (ls : List ℕ) (c d : ℕ) (x : List ℕ) → j (c ∷ (d ∷ [])) ≡ false → NoneAcross j (ls ++ c ∷ []) (d ∷ x)
  across_pair only ls c d x n f s r q e g l m = go (j (s ++ r)) refl
    where
      last : (ls f : List ℕ) (c a : ℕ) → ls ++ c ∷ [] ≡ f ++ a ∷ [] → c ≡ a
      last [] [] c a e = ap (λ xs. get_or xs 0 0) e
      last [] (b ∷ []) c a e = absurd (let k = ap length e in omega arith)
      last [] (b ∷ (b′ ∷ f)) c a e = absurd (let k = ap length e in omega arith)
      last (b ∷ []) [] c a e = absurd (let k = ap length e in omega arith)
      last (b ∷ (b′ ∷ ls)) [] c a e = absurd (let k = ap length e in omega arith)
      last (b ∷ ls) (b′ ∷ f) c a e = last ls f c a (ap (drop 1) e)

      pair : (s r : List ℕ) → 0 < length s → 0 < length r → length (s ++ r) ≡ 2 → ls ++ c ∷ [] ≡ f ++ s → d ∷ x ≡ r ++ q → s ++ r ≡ c ∷ (d ∷ [])
      pair [] r l m t e g = absurd (omega arith)
      pair (a ∷ s) [] l m t e g = absurd (omega arith)
      pair (a ∷ []) (b ∷ []) l m t e g = ap₂ (λ y z. y ∷ (z ∷ [])) (sym (last ls f c a e)) (sym (ap (λ xs. get_or xs 0 0) g))
      pair (a ∷ []) (b ∷ (b′ ∷ r)) l m t e g = absurd (omega arith)
      pair (a ∷ (a′ ∷ s)) (b ∷ r) l m t e g = absurd (let k = length-append s (b ∷ r) in omega arith)

      go : (b : Bool) → j (s ++ r) ≡ b → j (s ++ r) ≡ false
      go false t = t
      go true t = ap j (pair s r l m (only (s ++ r) t) e g) ∙ n

-- where no run begins with one of the last three letters none stands across
across_last : (t : Rules) → RunsFit t.joins → (p x : List ℕ) → LastBeginNone t p → NoneAcross t.joins p x
across_last t fit p x h f s r q e g l m = go (t.joins (s ++ r)) refl
  where
    first : (s : List ℕ) → 0 < length s → p ≡ f ++ s → length (s ++ r) ≤ 4 → t.joins (s ++ r) ≡ false
    first [] l e k = absurd (omega arith)
    first (a ∷ s) l e k = h f a s e (let n = length-append s r in omega arith) (s ++ r)

    go : (b : Bool) → t.joins (s ++ r) ≡ b → t.joins (s ++ r) ≡ false
    go false k = k
    go true k = first s l e (fit (s ++ r) k).1

-- a letter with few behind it is one of the last
pub among_last : (t : Rules) (ls tail : List ℕ) → NoneBegins t tail → (f : List ℕ) (a : ℕ) (s : List ℕ) → ls ++ tail ≡ f ++ a ∷ s → length s < length tail → BeginsNone t a
unfolding NoneBegins
among_last t [] [] h f a s e l = absurd (omega arith)
among_last t [] (b ∷ tail) h [] a s e l = subst (BeginsNone t) (ap (λ xs. get_or xs 0 0) e) h.0
among_last t [] (b ∷ tail) h (c ∷ f) a s e l = among_last t [] tail h.1 f a s (ap (drop 1) e) (let m = ap length e in let n = length-append f (a ∷ s) in omega arith)
among_last t (b ∷ ls) tail h [] a s e l = absurd (let m = ap length e in let n = length-append ls tail in omega arith)
among_last t (b ∷ ls) tail h (c ∷ f) a s e l = among_last t ls tail h f a s (ap (drop 1) e) l

-- nothing is left
pub is_nil : (n : List ℕ) → eqb (length n) 0 ≡ true → n ≡ []
is_nil [] e = refl
is_nil (a ∷ n) e = grind (arith, nat_tests)

-- no letter has been read back yet, or one more is
pub none_yet : (t : Rules) → NoneBegins t []
unfolding NoneBegins
none_yet t = tt

pub one_more : (t : Rules) (a : ℕ) (tail : List ℕ) → BeginsNone t a → NoneBegins t tail → NoneBegins t (a ∷ tail)
unfolding NoneBegins
one_more t a tail b h = (b, h)

-- where nothing else is left each letter is among these
pub all_among : (t : Rules) (tail : List ℕ) → NoneBegins t tail → (f : List ℕ) (a : ℕ) (s : List ℕ) → tail ≡ f ++ a ∷ s → BeginsNone t a
all_among t tail h f a s e = among_last t [] tail h f a s e (let m = ap length e in let n = length-append f (a ∷ s) in omega arith)

-- a name can be cut at its end, and at its start
pub at_end : (t : Rules) (x : List ℕ) (n : ℕ) → n ≡ length x → MayCut t x n
at_end t x n e =
    let f = take_whole x n e in
    let d = drop_whole x n e in
    let z = ap (letters_in t.utf8) d ∙ no_letters t.utf8 in
    record {
      letters = sym (ap₂ (λ p q. p ++ q) (ap (letters_in t.utf8) f) z ∙ append-nil (letters_in t.utf8 x));
      pieces = subst⁻¹ (NoneAcross t.joins (letters_in t.utf8 (take n x))) z (none_behind t.joins (letters_in t.utf8 (take n x)));
    }
  where
    take_whole : (x : List ℕ) (n : ℕ) → n ≡ length x → take n x ≡ x
    take_whole x n e = ap (λ k. take k x) e ∙ take-length x

    drop_whole : (x : List ℕ) (n : ℕ) → n ≡ length x → drop n x ≡ []
    drop_whole [] n e = ap (λ k. drop k []) e
    drop_whole (a ∷ x) zero e = absurd (omega arith)
    drop_whole (a ∷ x) (suc n) e = drop_whole x n (omega arith)

pub at_start : (t : Rules) (x : List ℕ) → MayCut t x 0
at_start t x =
    let z = no_letters t.utf8 in
    record {
      letters = sym (ap (λ p. p ++ letters_in t.utf8 x) z);
      pieces = subst⁻¹ (λ p. NoneAcross t.joins p (letters_in t.utf8 x)) z (none_before t.joins (letters_in t.utf8 x));
    }

-- and where a letter begins, if no run stands across
pub at_letter : (t : Rules) (x : List ℕ) (n b k : ℕ) (q : List ℕ) → q ≡ drop n x → first_in t.utf8 q ≡ Some (b, k) → b < 65536
    → NoneAcross t.joins (letters_in t.utf8 (take n x)) (letters_in t.utf8 q) → MayCut t x n
at_letter t x n b k q g r l h =
    let s = parted_in t.utf8 (take n x) (drop n x) (ap (begins_in t.utf8) (sym g) ∙ starts_in t.utf8 q b k r l) in
    record {
      letters = ap (letters_in t.utf8) (sym (take-append-drop n x)) ∙ s;
      pieces = subst (λ m. NoneAcross t.joins (letters_in t.utf8 (take n x)) (letters_in t.utf8 m)) g h;
    }

-- so it is where the last letter and the next are no pair, and there are no longer runs
pub at_letters : (t : Rules) → OnlyPairs t.joins → (x : List ℕ) (n a i b k : ℕ) (p q : List ℕ) → p ≡ take n x → q ≡ drop n x → EndsWith t.utf8 p (Some (a, i)) → first_in t.utf8 q ≡ Some (b, k) → b < 65536
    → t.joins (a ∷ (b ∷ [])) ≡ false → MayCut t x n
at_letters t only x n a i b k p q f g e r l j =
    at_letter t x n b k q g r l
    (subst⁻¹ (λ ls. NoneAcross t.joins ls (letters_in t.utf8 q)) (ap (letters_in t.utf8) (sym f) ∙ e.2)
    (subst⁻¹ (NoneAcross t.joins (letters_in t.utf8 (take (length p - i) p) ++ a ∷ [])) (read_first t.utf8 q b k r).0 (across_pair t.joins only (letters_in t.utf8 (take (length p - i) p)) a b (letters_in t.utf8 (drop k q)) j)))

-- and where no run begins with one of the last three letters
pub at_runs : (t : Rules) → RunsFit t.joins → (x : List ℕ) (n b k : ℕ) (q : List ℕ) → q ≡ drop n x → first_in t.utf8 q ≡ Some (b, k) → b < 65536
    → LastBeginNone t (letters_in t.utf8 (take n x)) → MayCut t x n
at_runs t fit x n b k q g r l h = at_letter t x n b k q g r l (across_last t fit (letters_in t.utf8 (take n x)) (letters_in t.utf8 q) h)

-- the last bytes are a letter, if it takes them all
pub last_read : (u : Bool) (n : List ℕ) (i a k l : ℕ) (m : List ℕ) → m ≡ drop i n → first_in u m ≡ Some (a, k) → k ≡ length m → a < 65536 → l ≡ length m → i + l ≡ length n → EndsWith u n (Some (a, l))
last_read u n i a k l m d r e h f g =
    let s = parted_in u (take i n) (drop i n) (ap (begins_in u) (sym d) ∙ starts_in u m a k r h) in
    let o = read_first u m a k r in
    let q = ap (letters_in u) (sym d) ∙ (o.0 ∙ ap (λ y. a ∷ letters_in u y) (all_dropped m k e) ∙ ap (λ y. a ∷ y) (no_letters u)) in
    let j : i ≡ length n - l = omega arith in (
      (let x = o.1 in omega arith),
      omega arith,
      ap (letters_in u) (sym (take-append-drop i n)) ∙ (s ∙ (ap (λ y. letters_in u (take i n) ++ y) q ∙ ap (λ y. letters_in u (take y n) ++ a ∷ []) j)),
    )
  where
    all_dropped : (m : List ℕ) (k : ℕ) → k ≡ length m → drop k m ≡ []
    all_dropped [] k e = ap (λ k. drop k []) e
    all_dropped (a ∷ m) zero e = absurd (omega arith)
    all_dropped (a ∷ m) (suc k) e = all_dropped m k (omega arith)

-- the bytes on both sides of a place
drop_at : (x : List ℕ) (n : ℕ) → n < length x → drop n x ≡ slice_index x n ∷ drop (n + 1) x
drop_at x n l = rw (add-one n) (go x n l)
  where
    go : (x : List ℕ) (n : ℕ) → n < length x → drop n x ≡ slice_index x n ∷ drop (suc n) x
    go [] n l = absurd (omega arith)
    go (a ∷ x) zero l = refl
    go (a ∷ x) (suc n) l = go x n (omega arith)

last_at : (x : List ℕ) (n : ℕ) → n < length x → drop n (take (n + 1) x) ≡ slice_index x n ∷ []
last_at x n l = rw (add-one n) (go x n l)
  where
    go : (x : List ℕ) (n : ℕ) → n < length x → drop n (take (suc n) x) ≡ slice_index x n ∷ []
    go [] n l = absurd (omega arith)
    go (a ∷ x) zero l = refl
    go (a ∷ x) (suc n) l = go x n (omega arith)

-- a name can be cut between two bytes that are a letter each, and not one together
pub at_bytes : (t : Rules) → OnlyPairs t.joins → (x : List ℕ) (n : ℕ) → 0 < n → n < length x → (slice_index x (n - 1) < 65536) → (slice_index x n < 65536)
    → one_byte t.utf8 (slice_index x (n - 1)) ≡ true → one_byte t.utf8 (slice_index x n) ≡ true → t.joins (slice_index x (n - 1) ∷ (slice_index x n ∷ [])) ≡ false → MayCut t x n
at_bytes t only x n o l f g one two j =
    let e : n - 1 + 1 ≡ n = omega (arith, o) in
    let p = ap (λ k. drop (n - 1) (take k x)) (sym e) ∙ last_at x (n - 1) (omega (arith, l)) in
    let m = length-take-le n x (omega arith) in
    at_letters t only x n (slice_index x (n - 1)) 1 (slice_index x n) 1 (take n x) (drop n x) refl refl
    (last_read t.utf8 (take n x) (n - 1) (slice_index x (n - 1)) 1 1 (slice_index x (n - 1) ∷ []) (sym p) (sym (small_first t.utf8 (slice_index x (n - 1)) [] (slice_index x (n - 1) ∷ []) refl one)) refl f refl (omega arith))
    (sym (small_first t.utf8 (slice_index x n) (drop (n + 1) x) (drop n x) (drop_at x n l) two)) g j

-- letters of which the table says nothing are not one together
pub apart : (t : Rules) (run : List ℕ) (o : Option Weights) (b : Bool) → o ≡ contraction t run → is_some o ≡ not b → b ≡ true → t.joins run ≡ false
apart t run o b e f g = go (t.joins run) refl
  where
    go : (j : Bool) → t.joins run ≡ j → j ≡ false
    go false q = refl
    go true q = absurd (true≢false (sym (ap is_some (e ∙ cond-true _ _ _ q)) ∙ (f ∙ ap not g)))

weighed_parted : (t : Rules) (ps qs : List (List ℕ)) → weighed t (ps ++ qs) ≡ weighed t ps ++ weighed t qs
unfolding weighed
weighed_parted t [] qs = refl
weighed_parted t (p ∷ ps) qs = ap (λ ws. triples t p ++ ws) (weighed_parted t ps qs) ∙ sym (append_assoc (triples t p) (weighed t ps) (weighed t qs))

module _ (l : Level) (t : Rules) where
  row_parted : (x : List ℕ) (n : ℕ) → MayCut t x n → row l t x ≡ row l t (take n x) ++ row l t (drop n x)
  unfolding row row_of
  row_parted x n c =
      let p = letters_in t.utf8 (take n x) in
      let q = letters_in t.utf8 (drop n x) in
      ap (λ y. without_zeros (map (on l) (weighed t (pieces t.joins y)))) c.letters
      ∙ (ap (λ ps. without_zeros (map (on l) (weighed t ps))) (parted t.joins p q c.pieces)
      ∙ (ap (λ ws. without_zeros (map (on l) ws)) (weighed_parted t (pieces t.joins p) (pieces t.joins q))
      ∙ (ap without_zeros (map-append (on l) (weighed t (pieces t.joins p)) (weighed t (pieces t.joins q))) ∙ zeros_parted _ _)))

-- nothing is shared
pub none_shared : (t : Rules) (a b : List ℕ) (n : ℕ) → n ≤ 0 → Shared t a b n
none_shared t a b zero l = record { in_first = omega arith; in_second = omega arith; same = refl; first_cut = at_start t a; second_cut = at_start t b }
none_shared t a b (suc n) l = absurd (omega arith)

-- the part of a name from a place up to its end
pub rest_of : (x : List ℕ) (n : ℕ) → take (length x - n) (drop n x) ≡ drop n x
rest_of x n = ap (λ k. take k (drop n x)) (sym (length-drop n x)) ∙ take-length (drop n x)

-- a front that two rows share does not decide
pub front_shared : (f u v : List ℕ) → row_order (f ++ u) (f ++ v) ≡ row_order u v
front_shared [] u v = refl
front_shared (x ∷ f) u v = let ih = front_shared f u v in grind (arith, nat_tests)

module _ (t : Rules) (a b : List ℕ) (n : ℕ) (s : Shared t a b n) where
  row_behind : (l : Level) → row_order (row l t (drop n a)) (row l t (drop n b)) ≡ row_order (row l t a) (row l t b)
  row_behind l =
      sym (ap₂ row_order (row_parted l t a n s.first_cut) (row_parted l t b n s.second_cut ∙ ap (λ f. row l t f ++ row l t (drop n b)) (sym s.same))
      ∙ front_shared (row l t (take n a)) (row l t (drop n a)) (row l t (drop n b)))

  -- what is behind what both begin with decides
  pub behind : by_levels (rows t (drop n a)) (rows t (drop n b)) ≡ by_levels (rows t a) (rows t b)
  behind = ap₂ ordering_then (row_behind Primary) (ap₂ ordering_then (row_behind Secondary) (ap (λ o. ordering_then o Equal) (row_behind Tertiary)))

  pub behind_parts : by_levels (rows t (take (length a - n) (drop n a))) (rows t (take (length b - n) (drop n b))) ≡ by_levels (rows t a) (rows t b)
  behind_parts = ap₂ (λ x y. by_levels (rows t x) (rows t y)) (rest_of a n) (rest_of b n) ∙ behind
