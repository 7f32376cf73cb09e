-- Names that are the same but for letters written out.
use Rattle.std.proofs.Common.{◌≡◌, ℕ, Bool, true, false, cond, ◌&&◌, ◌||◌, eqb, List, [], ◌∷◌, filter, refl, sym, ap, ◌∙◌}
use Rattle.std.proofs.lemmas.Bool.{eqb-true}
use Rattle.keys.specs.Rows.{row}
use Rattle.keys.specs.declared.level.Level.TheVariants.{Primary}
use Rattle.keys.proofs.Expanding.{same_first_row}
use Rattle.order.specs.Rows.{begins}
use Rattle.catalogue.specs.Finding.{BothOrNeither, begins_so, is_among, looked_through}
use Rattle.catalogue.specs.Laws.{WrittenOutTogether}
use Rattle.catalogue.specs.Lists.{Lists, name_of}

-- which numbers are among those that pass a test
among_passing : (test : ℕ → Bool) (ns : List ℕ) (i : ℕ) → is_among (filter test ns) i ≡ (is_among ns i && test i)
among_passing test [] i = refl
among_passing test (n ∷ ns) i = go (test n) (eqb n i) refl refl (among_passing test ns i)
  where
    go : (x y : Bool) → test n ≡ x → eqb n i ≡ y → is_among (filter test ns) i ≡ (is_among ns i && test i)
        → is_among (cond x (n ∷ filter test ns) (filter test ns)) i ≡ ((eqb n i || is_among ns i) && test i)
    go true true e f ih = ap (λ b. b || is_among (filter test ns) i) f ∙ (sym e ∙ (ap test (eqb-true n i f) ∙ ap (λ b. (b || is_among ns i) && test i) (sym f)))
    go true false e f ih = ap (λ b. b || is_among (filter test ns) i) f ∙ (ih ∙ ap (λ b. (b || is_among ns i) && test i) (sym f))
    go false true e f ih =
        let t = sym (ap test (eqb-true n i f)) ∙ e in
        ih ∙ (ap (λ b. is_among ns i && b) t ∙ (none (is_among ns i) ∙ sym (ap (λ b. (eqb n i || is_among ns i) && b) t ∙ none (eqb n i || is_among ns i))))
      where
        none : (b : Bool) → (b && false) ≡ false
        none true = refl
        none false = refl
    go false false e f ih = ih ∙ ap (λ b. (b || is_among ns i) && test i) (sym f)

pub together : WrittenOutTogether
together false l ask a ds i j p q w = refl
together true l ask a ds i j p q w =
    among_passing (begins_so l ask) l.places i
    ∙ (ap (λ b. b && begins_so l ask i) p
    ∙ (ap (λ r. begins r (row Primary l.rules ask)) (sym (same_first_row l.rules a ds (name_of l.text l.starts i) (name_of l.text l.starts j) w))
    ∙ sym (among_passing (begins_so l ask) l.places j ∙ ap (λ b. b && begins_so l ask j) q)))

-- so has a part that is what this gives
pub both_or_neither : (right : Bool) (l : Lists) (ask part : List ℕ) → part ≡ looked_through right l ask → BothOrNeither l part
both_or_neither right l ask part e a ds i j p q w = ap (λ x. is_among x i) e ∙ (together right l ask a ds i j p q w ∙ sym (ap (λ x. is_among x j) e))
