use Rattle.std.proofs.Common.{◌≡◌, ◌≢◌, ◌+◌, ◌-◌, ◌<◌, ℕ, Bool, true, false, List, length, ltb, get_or, set, Some, None, subst, sym, ap, ◌∙◌, ⊎_elim, arith}
use Rattle.std.proofs.lemmas.Bool.{cases_eq, lt-ltb}
use Rattle.std.proofs.lemmas.List.{get_or-set_other, get_or-set_same, length-set}
use Rattle.std.proofs.lemmas.Option.{cond_some, none-some}
use Rattle.catalogue.specs.Checking.{lists_of}
use Rattle.catalogue.specs.Finding.{FoundAt, may_ask}
use Rattle.catalogue.specs.Lists.{Lists, name_of}
use Rattle.capi.specs.Answers.{Answers}
use Rattle.capi.specs.declared.answer.Part.{Part}
use Rattle.capi.proofs.answer_each.Goals as goal
use Rattle.capi.proofs.answer_each.Goals.{in-Some, in_default}

-- a part as its place and its length
as_part : (right : Bool) (l : Lists) (ask : List ℕ) (from to : ℕ) (p : Part) → FoundAt right l ask from to → (p.place ≡ from) × (p.length ≡ to - from) → FoundAt right l ask p.place (p.place + p.length)
as_part true l ask from to p f (e, g) =
    let r = f.rises in
    subst (λ n. FoundAt true l ask p.place n) {x = to} {y = p.place + p.length} (omega arith) (subst (λ n. FoundAt true l ask n to) (sym e) f)
as_part false l ask from to p f (e, g) = let a = f.0 in let b = f.1 in (omega arith, omega arith)

-- one part more is that of its question
one_more : (P : ℕ → Part → Type 0) (parts : List Part) (k : ℕ) (p : Part) → k < length parts → P k p → ((i : ℕ) (none : Part) → i < k → P i (get_or parts i none))
    → (i : ℕ) (none : Part) → i < k + 1 → P i (get_or (set parts k p) i none)
one_more P parts k p l h inv i none m =
    ⊎_elim
    (λ e. subst (λ j. P j (get_or (set parts k p) j none)) (sym e) (subst (P k) (sym (get_or-set_same parts k p none l)) h))
    (λ e. subst (P i) (sym (get_or-set_other parts k i p none e)) (inv i none (omega (arith, m, e))))
    (cases_eq i k)

pub loop-number-preserved : goal.loop-number-preserved
loop-number-preserved c =
    let l = lists_of c.args.catalogue.now in
    let text = c.args.questions.now.text.now in
    let starts = c.args.questions.now.starts.now in
    let k = c.loop-number.number in
    let inv = c.loop-number.invariant in
    let t = c.loop-number-test.true in
    let n = c.requires.as_many in
    let there = inv.0 in
    elim c.match-name.branch [
      | in-Some w ↦
          let q = cond_some (ltb (k + 1) (length starts)) (name_of text starts k) w.in-Some.ask.now (sym w.in-Some.ensures) in
          let a = as_part (may_ask l w.in-Some.ask.now) l w.in-Some.ask.now w.range.result.start w.range.result.end w.from.result w.range.ensures w.from.ensures in
          let b : Answers l (name_of text starts k) w.from.result = subst (λ ask. Answers l ask w.from.result) (sym q.1) a in
          subst (λ ps. (length ps ≡ length c.args.parts.now) × ((i : ℕ) (none : Part) → i < k + 1 → Answers l (name_of text starts i) (get_or ps i none))) (sym w.parts-is)
          (length-set c.loop-number.parts k w.from.result ∙ inv.0, one_more (λ i p. Answers l (name_of text starts i) p) c.loop-number.parts k w.from.result (omega arith) b inv.1)
      | in_default w ↦
          let m = lt-ltb (k + 1) (length starts) (omega arith) in
          absurd (none-some (name_of text starts k) (w.in_default.ensures ∙ ap (λ b. Rattle.std.proofs.Common.cond b (Some (name_of text starts k)) None) m))
    ]
