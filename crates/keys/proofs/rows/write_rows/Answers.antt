use Rattle.std.proofs.Common.{◌++◌, [], ◌∷◌, drop, map, sym, ap, ◌+◌, ◌∙◌, refl}
use Rattle.std.proofs.lemmas.List.{length-map}
use Rattle.keys.proofs.Filling.{cells, grown}
use Rattle.keys.proofs.rows.write_rows.Goals as goal

pub returns-clause-room : goal.returns-clause-room
returns-clause-room g c =
    let cell = g.T.Cell.cell in
    let room = c.args.room.now in
    let r = c.args.first.now in
    let s = c.args.second.now in
    let t = c.args.third.now in
    let zero = cell 0 ∷ [] in
    let one = grown [] (map cell r) 0 _ room room _ (refl, refl) (c.put-n.ensures.behind ∙ ap (λ k. 0 + k) (sym (length-map r cell))) c.put-n.ensures.room in
    let two = grown (map cell r) zero _ _ room _ _ one c.put-n-2.ensures.behind c.put-n-2.ensures.room in
    let three = grown (map cell r ++ zero) (map cell s) _ _ room _ _ two
    (c.put-n-3.ensures.behind ∙ ap (λ k. c.put-n-2.result + k) (sym (length-map s cell))) c.put-n-3.ensures.room in
    let four = grown ((map cell r ++ zero) ++ map cell s) zero _ _ room _ _ three c.put-n-4.ensures.behind c.put-n-4.ensures.room in
    let five = grown (((map cell r ++ zero) ++ map cell s) ++ zero) (map cell t) _ _ room _ _ four
    (c.put.ensures.behind ∙ ap (λ k. c.put-n-4.result + k) (sym (length-map t cell))) c.put.ensures.room in
    five.1 ∙ ap (λ x. x ++ drop c.put.result room) (cells cell r s t)
