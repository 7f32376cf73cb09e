use Rattle.std.proofs.Common.{◌≡◌, String, Global, rules, tests}
use Rattle.std.proofs.lemmas.Iterator.{cases_from_any, YieldsList-from_slice}
use Rattle.std.specs.String.{string_bytes}
use Rattle.nullahbowl.proofs.Words.{any_tells}
use Rattle.nullahbowl.proofs.argument.asks_for.Goals as goal
use Rattle.nullahbowl.specs.Arguments.{argument_of}

pub returns : goal.returns
returns c =
    let words = c.args.words.now in
    let P : String Global → Type 0 = λ word. argument_of (string_bytes word) ≡ c.args.wanted in
    let by_call = cases_from_any _ _ _ P (λ word. P word → ⊥) c.any.ensures.ran (YieldsList-from_slice words cc) (λ x q k. search (rules, tests)) (λ x q k. search (rules, tests)) in
    any_tells P c.any.result words by_call
