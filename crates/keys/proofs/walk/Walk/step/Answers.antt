use Rattle.std.proofs.Common.{[], ◌∷◌, None, true, drop, subst, sym, ap, ◌∙◌, arith, rules}
use Rattle.keys.specs.Letters.{letters_in, one_byte}
use Rattle.table.specs.Meaning.{rules_of}
use Rattle.keys.proofs.Lettering.{small_first}
use Rattle.keys.proofs.Pieces.{alone}
use Rattle.pieces.specs.Runs.{counts}
use Rattle.keys.specs.Reading.{Stepped}
use Rattle.keys.proofs.Stepping.{as_one, letter_read, none_still, short, stops}
use Rattle.keys.proofs.Widening.{counts_alone}
use Rattle.keys.proofs.walk.Walk.step.Goals as goal

pub returns-then-counts : goal.returns-then-counts
returns-then-counts c =
    let w = c.args.self.now in
    let t = rules_of w.table.now in
    let v = c.letter-weights.result in
    let a = c.in-Some.first.now in
    let n = c.in-Some.ensures.cases.0 in
    let b = ap (λ u. one_byte u a) (sym c.utf8-2.ensures) ∙ (sym c.one_byte.ensures ∙ c.if-one_byte.true) in
    let x = counts_alone w.table.now (a ∷ []) (ap counts (sym c.letter-weights.ensures) ∙ (sym c.counts.ensures ∙ c.if-counts.true)) in
    let i = c.is_none.ensures in
    let j = c.if-is_none.true in
    let none = none_still w.more (grind arith) in
    let small = short v (search rules) (search rules) (search rules) in
    let r = letter_read w a 1 c.in-Some.rest v None none (sym (small_first t.utf8 a c.in-Some.rest.now w.rest.now n b)) (sym (ap (drop 1) n))
    (alone t a (letters_in t.utf8 c.in-Some.rest.now) (c.may_begin.ensures.none c.if-not-may_begin.true)) (as_one t a v c.letter-weights.ensures x small) in
    subst (λ m. Stepped w true (record { table = w.table; rest = c.in-Some.rest; weights = v; more = m })) (sym none)
    (stops w (record { table = w.table; rest = c.in-Some.rest; weights = v; more = None }) r small)
