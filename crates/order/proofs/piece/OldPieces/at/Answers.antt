use Rattle.std.proofs.Common.{◌-◌, length, sym, ap, ap₂, ◌∙◌, arith}
use Rattle.std.specs.List.{slice_get}
use Rattle.table.specs.Meaning.{letters_of, longs_of, pairs_of}
use Rattle.order.proofs.Deciding.{there_is}
use Rattle.order.proofs.piece.OldPieces.at.Goals as goal

pub returns-in_err-letter_at : goal.returns-in_err-letter_at
returns-in_err-letter_at c l =
    let t = c.args.self.now.table.now in
    let n = c.letter_count-letters.ensures.count in
    let m = c.if-place-letters.true in
    absurd (there_is (letters_of t) c.args.place (omega arith) (sym c.letter_at.ensures ∙ c.in_err-letter_at.was))

pub returns-in_err-pair : goal.returns-in_err-pair
returns-in_err-pair c l =
    let t = c.args.self.now.table.now in
    let n = c.letter_count-letters.ensures.count in
    let p = c.pair_count-pairs.ensures.count in
    let m = c.if-place-letters-2.true in
    absurd (there_is (pairs_of t) (c.args.place - length (letters_of t)) (omega arith) (ap (λ k. slice_get (pairs_of t) (c.args.place - k)) (sym n) ∙ (sym c.pair_at.ensures ∙ c.in_err-pair.was)))

pub returns-in_err-long_at : goal.returns-in_err-long_at
returns-in_err-long_at c l =
    let t = c.args.self.now.table.now in
    let n = c.letter_count-letters.ensures.count in
    let p = c.pair_count-pairs.ensures.count in
    let m = c.if-place-letters.false in
    let o = c.if-place-letters-2.false in
    absurd (there_is (longs_of t) (c.args.place - length (letters_of t) - length (pairs_of t)) (omega arith)
    (ap₂ (λ k i. slice_get (longs_of t) (c.args.place - k - i)) (sym n) (sym p) ∙ (sym c.long_at.ensures ∙ c.in_err-long_at.was)))
