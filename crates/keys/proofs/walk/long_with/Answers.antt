use Rattle.std.proofs.Common.{◌≡◌, false, ◌∷◌, None, Some, subst, sym, ap, ◌∙◌}
use Rattle.table.specs.Meaning.{rules_of}
use Rattle.keys.specs.Letters.{Split, letters_in}
use Rattle.keys.specs.Pieces.{met}
use Rattle.keys.specs.Reading.{LongWith}
use Rattle.keys.proofs.Widening.{runs_alone}
use Rattle.keys.proofs.Running.{four_met, four_not, further_on, none_behind, one_behind, split_letters, split_none, three_met, three_not}
use Rattle.keys.proofs.walk.long_with.Goals as goal
use Rattle.keys.proofs.walk.long_with.Goals.{in-Some+in_default-long, in_default}

pub returns-in_err-third : goal.returns-in_err-third
returns-in_err-third c =
    let t = rules_of c.args.table.now in
    let n = c.args.rest.now in
    let e = split_none t n (subst (λ u. Split u n None) c.utf8-utf8.ensures c.in_err-third.ensures) in
    subst (LongWith t c.args.first c.args.second n) (sym c.from_residual.ensures) (none_behind t c.args.first c.args.second (letters_in t.utf8 n) e)

pub returns-in-Some-long : goal.returns-in-Some-long
returns-in-Some-long c =
    let t = rules_of c.args.table.now in
    let n = c.args.rest.now in
    let u = c.utf8-utf8.ensures in
    let m = c.in_ok-third.behind_three in
    let l = c.in-Some.behind_four in
    let s = subst (λ u. Split u n (Some (c.in_ok-third.third, m))) u c.in_ok-third.ensures in
    let r = subst (λ u. Split u m.now (Some (c.in-Some.fourth, l))) u c.in-Some.ensures in
    let e = split_letters t n c.in_ok-third.third m s ∙ ap (λ x. c.in_ok-third.third ∷ x) (split_letters t m.now c.in-Some.fourth l r) in (
      four_met t c.args.first c.args.second (letters_in t.utf8 n) c.in_ok-third.third c.in-Some.fourth (letters_in t.utf8 l.now) e c.in-Some-long.weights (runs_alone c.args.table.now) (sym c.long.ensures ∙ c.in-Some-long.is),
      further_on n m.now l.now s.0 r.0 s.2 r.2,
    )

pub returns-in_err-weights : goal.returns-in_err-weights
returns-in_err-weights c =
    let t = rules_of c.args.table.now in
    let n = c.args.rest.now in
    let u = c.utf8-utf8.ensures in
    let a = c.args.first in
    let b = c.args.second in
    let m = c.in_ok-third.behind_three in
    let s = subst (λ u. Split u n (Some (c.in_ok-third.third, m))) u c.in_ok-third.ensures in
    let e = split_letters t n c.in_ok-third.third m s in
    let f : met t.joins 4 (a ∷ (b ∷ letters_in t.utf8 n)) ≡ false = elim c.match-split_first.branch [
      | in-Some+in_default-long w ↦
          let r = subst (λ u. Split u m.now (Some (w.in-Some.fourth, w.in-Some.behind_four))) u w.in-Some.ensures in
          four_not t a b (letters_in t.utf8 n) c.in_ok-third.third w.in-Some.fourth (letters_in t.utf8 w.in-Some.behind_four.now)
          (e ∙ ap (λ x. c.in_ok-third.third ∷ x) (split_letters t m.now w.in-Some.fourth w.in-Some.behind_four r)) (sym w.long.ensures ∙ w.in_default-long.is)
      | in_default w ↦
          one_behind t a b (letters_in t.utf8 n) c.in_ok-third.third (e ∙ ap (λ x. c.in_ok-third.third ∷ x) (split_none t m.now (subst (λ u. Split u m.now None) u w.in_default.ensures)))
    ] in
    let g = three_not t a b (letters_in t.utf8 n) c.in_ok-third.third (letters_in t.utf8 m.now) e (sym c.long-2.ensures ∙ c.in_err-weights.was) in
    subst (LongWith t a b n) (sym c.from_residual-in_err-weights.ensures) (f, g)

pub returns : goal.returns
returns c =
    let t = rules_of c.args.table.now in
    let n = c.args.rest.now in
    let u = c.utf8-utf8.ensures in
    let a = c.args.first in
    let b = c.args.second in
    let m = c.in_ok-third.behind_three in
    let s = subst (λ u. Split u n (Some (c.in_ok-third.third, m))) u c.in_ok-third.ensures in
    let e = split_letters t n c.in_ok-third.third m s in
    let f : met t.joins 4 (a ∷ (b ∷ letters_in t.utf8 n)) ≡ false = elim c.match-split_first.branch [
      | in-Some+in_default-long w ↦
          let r = subst (λ u. Split u m.now (Some (w.in-Some.fourth, w.in-Some.behind_four))) u w.in-Some.ensures in
          four_not t a b (letters_in t.utf8 n) c.in_ok-third.third w.in-Some.fourth (letters_in t.utf8 w.in-Some.behind_four.now)
          (e ∙ ap (λ x. c.in_ok-third.third ∷ x) (split_letters t m.now w.in-Some.fourth w.in-Some.behind_four r)) (sym w.long.ensures ∙ w.in_default-long.is)
      | in_default w ↦
          one_behind t a b (letters_in t.utf8 n) c.in_ok-third.third (e ∙ ap (λ x. c.in_ok-third.third ∷ x) (split_none t m.now (subst (λ u. Split u m.now None) u w.in_default.ensures)))
    ] in (
      three_met t a b (letters_in t.utf8 n) c.in_ok-third.third (letters_in t.utf8 m.now) e c.in_ok-weights.weights (runs_alone c.args.table.now) f (sym c.long-2.ensures ∙ c.in_ok-weights.was),
      (s.0, s.2),
    )
