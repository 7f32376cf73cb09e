-- What a line says.
use Rattle.std.proofs.Common.{◌≡◌, ℕ, ◌<◌, List, [], ◌∷◌, length, get_or, Some, None, arith}
use Rattle.texts.specs.Lines.{blank, command_of, damaged, meaning_of, said}
use Rattle.utf8.specs.Reading.{unread}

pub damaged_line : (xs : List ℕ) (k : ℕ) → unread xs ≡ Some k → meaning_of xs ≡ damaged k
unfolding meaning_of
damaged_line xs k u = rw u

pub blank_line : (xs : List ℕ) → unread xs ≡ None → length xs ≡ 0 → meaning_of xs ≡ blank
unfolding meaning_of
blank_line [] u e = rw u
blank_line (x ∷ xs) u e = absurd (omega arith)

pub some_line : (xs : List ℕ) → unread xs ≡ None → 0 < length xs → meaning_of xs ≡ said (command_of xs)
unfolding meaning_of
some_line [] u l = absurd (omega arith)
some_line (x ∷ xs) u l = rw u

-- six bytes one by one
pub six : (w : List ℕ) (a b c d e f : ℕ) → length w ≡ 6 → (get_or w 0 0 ≡ a) × (get_or w 1 0 ≡ b) × (get_or w 2 0 ≡ c) →
    (get_or w 3 0 ≡ d) × (get_or w 4 0 ≡ e) × (get_or w 5 0 ≡ f) → w ≡ a ∷ (b ∷ (c ∷ (d ∷ (e ∷ (f ∷ [])))))
six [] a b c d e f l h k = absurd (omega arith)
six (u ∷ []) a b c d e f l h k = absurd (omega arith)
six (u ∷ (v ∷ [])) a b c d e f l h k = absurd (omega arith)
six (u ∷ (v ∷ (w ∷ []))) a b c d e f l h k = absurd (omega arith)
six (u ∷ (v ∷ (w ∷ (x ∷ [])))) a b c d e f l h k = absurd (omega arith)
six (u ∷ (v ∷ (w ∷ (x ∷ (y ∷ []))))) a b c d e f l h k = absurd (omega arith)
six (u ∷ (v ∷ (w ∷ (x ∷ (y ∷ (z ∷ [])))))) a b c d e f l h k = rw (h.0, h.1, h.2, k.0, k.1, k.2)
six (u ∷ (v ∷ (w ∷ (x ∷ (y ∷ (z ∷ (t ∷ r))))))) a b c d e f l h k = absurd (omega arith)
