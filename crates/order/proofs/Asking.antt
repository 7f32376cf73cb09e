-- Weights stored one after the other.
use Rattle.std.proofs.Common.{◌≡◌, ℕ, List, [], ◌∷◌, ◌++◌, sym, ap, ◌∙◌}
use Rattle.std.proofs.lemmas.List.{append_assoc}

-- a weight goes from those that are left behind those that are stored
pub one_stored : (more met left all rest : List ℕ) (w : ℕ) → more ≡ met ++ w ∷ [] → met ++ left ≡ all → left ≡ w ∷ rest → more ++ rest ≡ all
one_stored more met left all rest w e f g = ap (λ m. m ++ rest) e ∙ (append_assoc met (w ∷ []) rest ∙ (ap (λ l. met ++ l) (sym g) ∙ f))
