use Rattle.std.proofs.Common.{◌≡◌, ℕ, ◌+◌, ◌<◌, Some, get_or, sym, ap, ◌∙◌, rules, tests, arith}
use Rattle.std.proofs.lemmas.Iterator.{IsFirst-from_position, YieldsList-from_slice}
use Rattle.std.proofs.lemmas.List.{take_rest}
use Rattle.texts.proofs.Cutting.{behind_free, cut_at, free_places, front_free}
use Rattle.texts.proofs.part.first_part.Goals as goal

pub returns-in-Some : goal.returns-in-Some
returns-in-Some c =
    let m = c.args.mark in
    let xs = c.args.text.now in
    let i = c.in-Some.place in
    let here = IsFirst-from_position _ _ _ (λ x. x ≡ m) (λ x. x ≡ m → ⊥) c.in-Some.ensures.ran (YieldsList-from_slice xs cc) (λ x q k. search (rules, tests)) (λ x q k. search (rules, tests)) in
    let before : (k : ℕ) → k < i → get_or xs k 0 ≡ m → ⊥ = λ k l. here.2 k 0 (omega arith) l in
    let at = cut_at m xs i here.0 before (here.1 0) in
    record { part = sym at.0; rest = ap Some (take_rest xs (i + 1)) ∙ sym at.1 }

pub returns-in-None : goal.returns-in-None
returns-in-None c =
    let m = c.args.mark in
    let xs = c.args.text.now in
    let nowhere = IsFirst-from_position _ _ _ (λ x. x ≡ m) (λ x. x ≡ m → ⊥) c.in-None.ensures.ran (YieldsList-from_slice xs cc) (λ x q k. search (rules, tests)) (λ x q k. search (rules, tests)) in
    let free = free_places m xs (λ k l. nowhere k 0 (omega arith) l) in
    record { part = sym (front_free m xs free); rest = sym (behind_free m xs free) }
