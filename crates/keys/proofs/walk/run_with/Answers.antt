use Rattle.std.proofs.Common.{◌≡◌, false, ◌∷◌, None, Some, subst, sym, ap, ◌∙◌, arith}
use Rattle.table.specs.Meaning.{rules_of}
use Rattle.table.proofs.Lawful.{only_pairs}
use Rattle.keys.specs.Letters.{Split, letters_in}
use Rattle.keys.specs.Pieces.{met, taken}
use Rattle.keys.specs.Reading.{LongWith, PieceAt, RunWith}
use Rattle.keys.proofs.Reading.{no_other}
use Rattle.keys.proofs.Widening.{runs_alone}
use Rattle.keys.proofs.Running.{further_on, last_alone, split_letters, split_none, two_met, two_not}
use Rattle.keys.proofs.walk.run_with.Goals as goal
use Rattle.keys.proofs.walk.run_with.Goals.{then-long_count-gt0+in_default, else-long_count-gt0}

pub returns-in_err-second : goal.returns-in_err-second
returns-in_err-second c =
    let t = rules_of c.args.table.now in
    let n = c.args.rest.now in
    let e = split_none t n (subst (λ u. Split u n None) c.utf8-utf8.ensures c.in_err-second.ensures) in
    subst (RunWith t c.args.letter n) (sym c.from_residual.ensures) (last_alone t c.args.letter (letters_in t.utf8 n) e)

pub returns-in-Some : goal.returns-in-Some
returns-in-Some c =
    let t = rules_of c.args.table.now in
    let n = c.args.rest.now in
    let a = c.args.letter in
    let b = c.in_ok-second.second in
    let m = c.in_ok-second.behind_two in
    let s = subst (λ u. Split u n (Some (b, m))) c.utf8-utf8.ensures c.in_ok-second.ensures in
    let e = split_letters t n b m s in
    let p = c.in-Some.ensures in
    let run = c.in-Some.run' in
    (subst (λ x. PieceAt t (a ∷ x) (letters_in t.utf8 run.0.now) run.1) (sym e) p.0, further_on n m.now run.0.now s.0 p.1.0 s.2 p.1.1)

pub returns-in_err-weights : goal.returns-in_err-weights
returns-in_err-weights c =
    let t = rules_of c.args.table.now in
    let n = c.args.rest.now in
    let a = c.args.letter in
    let b = c.in_ok-second.second in
    let m = c.in_ok-second.behind_two in
    let s = subst (λ u. Split u n (Some (b, m))) c.utf8-utf8.ensures c.in_ok-second.ensures in
    let e = split_letters t n b m s in
    let f : (met t.joins 4 (a ∷ (b ∷ letters_in t.utf8 m.now)) ≡ false) × (met t.joins 3 (a ∷ (b ∷ letters_in t.utf8 m.now)) ≡ false) = elim c.if-long_count-gt0.branch [
      | else-long_count-gt0 w ↦
          let o = only_pairs c.args.table.now (let q = c.long_count.ensures.count in let r = w.if-long_count-gt0.false in omega arith) in
          (no_other t.joins o 4 (a ∷ (b ∷ letters_in t.utf8 m.now)) (λ q. omega arith), no_other t.joins o 3 (a ∷ (b ∷ letters_in t.utf8 m.now)) (λ q. omega arith))
      | then-long_count-gt0+in_default w ↦ subst (LongWith t a b m.now) w.in_default.is w.long_with.ensures
    ] in
    let k = two_not t a b (letters_in t.utf8 m.now) f.0 f.1 (sym c.pair.ensures ∙ c.in_err-weights.was) in
    subst (RunWith t a n) (sym c.from_residual-in_err-weights.ensures) (ap (λ x. taken t.joins (a ∷ x)) e ∙ k)

pub returns : goal.returns
returns c =
    let t = rules_of c.args.table.now in
    let n = c.args.rest.now in
    let a = c.args.letter in
    let b = c.in_ok-second.second in
    let m = c.in_ok-second.behind_two in
    let s = subst (λ u. Split u n (Some (b, m))) c.utf8-utf8.ensures c.in_ok-second.ensures in
    let e = split_letters t n b m s in
    let f : (met t.joins 4 (a ∷ (b ∷ letters_in t.utf8 m.now)) ≡ false) × (met t.joins 3 (a ∷ (b ∷ letters_in t.utf8 m.now)) ≡ false) = elim c.if-long_count-gt0.branch [
      | else-long_count-gt0 w ↦
          let o = only_pairs c.args.table.now (let q = c.long_count.ensures.count in let r = w.if-long_count-gt0.false in omega arith) in
          (no_other t.joins o 4 (a ∷ (b ∷ letters_in t.utf8 m.now)) (λ q. omega arith), no_other t.joins o 3 (a ∷ (b ∷ letters_in t.utf8 m.now)) (λ q. omega arith))
      | then-long_count-gt0+in_default w ↦ subst (LongWith t a b m.now) w.in_default.is w.long_with.ensures
    ] in
    let p = two_met t a b (letters_in t.utf8 m.now) f.0 f.1 c.in_ok-weights.weights (runs_alone c.args.table.now) (sym c.pair.ensures ∙ c.in_ok-weights.was) in
    (subst (λ x. PieceAt t (a ∷ x) (letters_in t.utf8 m.now) c.in_ok-weights.weights) (sym e) p, (s.0, s.2))
