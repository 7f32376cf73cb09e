use Rattle.std.proofs.Common.{[], ◌∷◌, ap, sym, ◌∙◌, rules}
use Rattle.pieces.specs.Runs.{counts}
use Rattle.table.specs.Meaning.{rules_of}
use Rattle.keys.proofs.Stepping.{as_one, short}
use Rattle.keys.proofs.Widening.{counts_alone}
use Rattle.keys.proofs.walk.letter_with.Goals as goal

pub returns-then-counts : goal.returns-then-counts
returns-then-counts c =
    let w = c.letter-weights.result in
    let e = c.letter-weights.ensures in
    let x = counts_alone c.args.table.now (c.args.letter ∷ []) (ap counts (sym e) ∙ (sym c.counts.ensures ∙ c.if-counts.true)) in
    as_one (rules_of c.args.table.now) c.args.letter w e x (short w (search rules) (search rules) (search rules))
