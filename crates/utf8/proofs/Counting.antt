-- Letters counted one by one, a place in the bytes going on behind each.
use Rattle.std.proofs.Common.{◌≡◌, ℕ, ◌+◌, ◌-◌, ◌<◌, ◌≤◌, ltb, List, [], ◌∷◌, length, drop, take, Some, None, Option, refl, sym, ap, ◌∙◌, arith}
use Rattle.std.proofs.lemmas.Bool.{cond-false, cond-true, le-ltb, lt-ltb}
use Rattle.std.proofs.lemmas.List.{drop-drop, length-drop, take_rest}
use Rattle.utf8.specs.Reading.{first_letter, later, letters, unread}
use Rattle.utf8.proofs.Letters.{first_read, letters_none, none_read, unread_none, unread_read}

later_later : (p k : ℕ) (o : Option ℕ) → later p (later k o) ≡ later (p + k) o
later_later p k None = refl
later_later p k (Some j) = let e : p + (k + j) ≡ p + k + j = omega arith in ap (λ x. Some x) e

-- what is read from a place on
module _ (n : List ℕ) (p a k : ℕ) (e : first_letter (take (length n - p) (drop p n)) ≡ Some (a, k)) where
  there : first_letter (drop p n) ≡ Some (a, k)
  there = ap first_letter (sym (take_rest n p)) ∙ e

  pub left_few : p ≤ length n → (0 < k) × (p + k ≤ length n)
  left_few h = let r = first_read (drop p n) a k there in let l = length-drop p n in (r.1, omega arith)

  pub none_there : 65535 < a → unread n ≡ later p (unread (drop p n)) → unread n ≡ Some p
  none_there h f =
      let u = unread_read (drop p n) a k there ∙ cond-false (ltb a 65536) _ _ (le-ltb a 65536 (omega arith)) in
      let z : p + 0 ≡ p = omega arith in
      f ∙ (ap (later p) u ∙ ap (λ x. Some x) z)

  pub letter_counted : a ≤ 65535 → (letters (drop p n) ≡ a ∷ letters (drop (p + k) n)) × (later p (unread (drop p n)) ≡ later (p + k) (unread (drop (p + k) n)))
  letter_counted h =
      let d = drop-drop k p n in
      let u = unread_read (drop p n) a k there ∙ cond-true (ltb a 65536) _ _ (lt-ltb a 65536 (omega arith)) in (
        (first_read (drop p n) a k there).0 ∙ ap (λ l. a ∷ letters l) d,
        ap (later p) u ∙ (later_later p k (unread (drop k (drop p n))) ∙ ap (λ l. later (p + k) (unread l)) d),
      )

-- nothing is left
pub ended : (n : List ℕ) (p count : ℕ) → first_letter (take (length n - p) (drop p n)) ≡ None → count + length (letters (drop p n)) ≡ length (letters n) → unread n ≡ later p (unread (drop p n))
    → (unread n ≡ None) × (count ≡ length (letters n))
ended n p count e l u =
    let none : drop p n ≡ [] = sym (take_rest n p) ∙ none_read _ e in
    let z = ap (λ x. length (letters x)) none ∙ ap length letters_none in
    (u ∙ ap (later p) (ap unread none ∙ unread_none), omega arith)
