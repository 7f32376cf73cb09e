-- Rows gathered piece by piece.
use Rattle.std.proofs.Common.{◌≡◌, ℕ, List, [], ◌∷◌, ◌++◌, ap, ap₂, sym, ◌∙◌}
use Rattle.std.proofs.lemmas.List.{append-nil}
use Rattle.table.specs.Rules.{Rules}
use Rattle.keys.specs.Rows.{key, row}
use Rattle.keys.specs.declared.level.Level.TheVariants.{Primary, Secondary, Tertiary}

-- three rows make the key
made : (t : Rules) (n r s q : List ℕ) → row Primary t n ≡ r → row Secondary t n ≡ s → row Tertiary t n ≡ q → r ++ (0 ∷ (s ++ (0 ∷ q))) ≡ key t n
unfolding key
made t n r s q a b c = sym (ap₂ (λ x y. x ++ (0 ∷ y)) a (ap₂ (λ x y. x ++ (0 ∷ y)) b c))

-- nothing is left
all_met : (all met left : List ℕ) → all ≡ met ++ left → left ≡ [] → all ≡ met
all_met all met left a b = a ∙ (ap (λ l. met ++ l) b ∙ append-nil met)

pub made_at_end : (t : Rules) (n r s q x y z : List ℕ) → row Primary t n ≡ r ++ x → row Secondary t n ≡ s ++ y → row Tertiary t n ≡ q ++ z
    → x ≡ [] → y ≡ [] → z ≡ [] → r ++ (0 ∷ (s ++ (0 ∷ q))) ≡ key t n
made_at_end t n r s q x y z a b c d e f = made t n r s q (all_met _ r x a d) (all_met _ s y b e) (all_met _ q z c f)
