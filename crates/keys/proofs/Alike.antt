-- Names of letters below 128 under a table of bytes and under one of names in UTF-8.
use Rattle.std.proofs.Common.{◌≡◌, ℕ, true, List, [], ◌∷◌, ◌++◌, map, refl, sym, ap, ap₂, ◌∙◌}
use Rattle.std.specs.List.{list_all}
use Rattle.std.proofs.lemmas.Bool.{and_parts}
use Rattle.table.specs.Rules.{Rules}
use Rattle.keys.specs.declared.level.Level.{Level}
use Rattle.keys.specs.declared.level.Level.TheVariants.{Primary, Secondary, Tertiary}
use Rattle.keys.specs.Laws.{SameKeys, all_small}
use Rattle.keys.specs.Pieces.{pieces}
use Rattle.keys.specs.Rows.{key, on, row, row_of, weighed, without_zeros}
use Rattle.keys.proofs.Lettering.{small_letters}
use Rattle.keys.proofs.Pieces.{old_pieces, same_pieces}

module _ (t u : Rules) (same : (run : List ℕ) → all_small run ≡ true → (t.joins run ≡ u.joins run) × (t.weighs run ≡ u.weighs run) × (t.expands run ≡ u.expands run)) where
  same_weights : (ps : List (List ℕ)) → list_all all_small ps ≡ true → weighed t ps ≡ weighed u ps
  unfolding weighed
  same_weights [] h = refl
  same_weights (p ∷ ps) h =
      let a = and_parts (all_small p) (list_all all_small ps) h in
      let s = same p a.0 in
      ap₂ (λ xs ys. xs ++ ys) (ap₂ (λ x xs. x ∷ xs) s.1 s.2) (same_weights ps a.1)

  same_row : (l : Level) (n : List ℕ) → all_small n ≡ true → row l t n ≡ row l u n
  unfolding row row_of
  same_row l n h =
      let p = same_pieces _ t.joins u.joins (λ run s. (same run s).0) n h in
      ap (λ ls. without_zeros (map (on l) (weighed t (pieces t.joins ls)))) (small_letters t.utf8 n h)
      ∙ (ap (λ ws. without_zeros (map (on l) ws)) (same_weights (pieces t.joins n) (old_pieces _ t.joins u.joins n h) ∙ ap (weighed u) p)
      ∙ sym (ap (λ ls. without_zeros (map (on l) (weighed u (pieces u.joins ls)))) (small_letters u.utf8 n h)))

pub same_keys : SameKeys
unfolding key
same_keys t u n wide bytes h same =
    ap₂ (λ x y. x ++ (0 ∷ y)) (same_row t u same Primary n h) (ap₂ (λ x y. x ++ (0 ∷ y)) (same_row t u same Secondary n h) (same_row t u same Tertiary n h))
