use Rattle.std.proofs.Common.{length, ap, sym, ◌∙◌}
use Rattle.std.proofs.lemmas.Bool.{ltb-true, ltb-false}
use Rattle.std.proofs.lemmas.Option.{slice_get-get_or}
use Rattle.pieces.proofs.Ranking.{found_there, none_there, other_there, rising}
use Rattle.pieces.proofs.ranks.find_ranked.Goals as goal
use Rattle.pieces.proofs.ranks.find_ranked.Goals.{in_default-via-in-Some+else-rank, in_default-via-in_default}

pub returns-in-Some : goal.returns-in-Some
returns-in-Some g c s =
    let l = c.in-Some.ensures.lookup in
    let xs = c.args.items.now in
    let h = slice_get-get_or xs c.place_for.result _ (ltb-true _ _ (sym l.0)) in
    sym (found_there g.T.Ranked.rank xs c.args.rank c.place_for.result _ s (c.place_for.ensures.place (rising g.T.Ranked.rank xs s)) (h ∙ ap Rattle.std.proofs.Common.Some (sym l.1)) (sym c.rank.ensures ∙ c.if-rank.true))

pub returns-in_default : goal.returns-in_default
returns-in_default g c s =
    let xs = c.args.items.now in
    let p = c.place_for.ensures.place (rising g.T.Ranked.rank xs s) in
    sym (elim c.in_default.branch [
      | in_default-via-in-Some+else-rank w ↦
          let l = w.in-Some.ensures.lookup in
          let h = slice_get-get_or xs c.place_for.result _ (ltb-true _ _ (sym l.0)) in
          other_there g.T.Ranked.rank xs c.args.rank c.place_for.result _ s p (h ∙ ap Rattle.std.proofs.Common.Some (sym l.1)) (λ e. w.if-rank.false (w.rank.ensures ∙ e))
      | in_default-via-in_default w ↦
          none_there g.T.Ranked.rank xs c.args.rank c.place_for.result p (ltb-false c.place_for.result (length xs) (sym w.in_default.ensures.lookup.0))
    ])
