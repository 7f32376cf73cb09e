use Rattle.std.proofs.Common.{◌≡◌, ◌∷◌, ◌++◌, drop, length, map, take, ap, ◌∙◌, arith}
use Rattle.keys.specs.Rows.{key}
use Rattle.keys.specs.declared.level.Level.TheVariants.{Primary, Secondary, Tertiary}
use Rattle.table.specs.Meaning.{rules_of}
use Rattle.keys.proofs.Gathering.{made_at_end}
use Rattle.keys.proofs.rows.fill_short.Goals as goal

pub write_rows-requires : goal.write_rows-requires
write_rows-requires g c =
    let e = made_at_end (rules_of c.args.table.now) c.args.name.now (take c.loop-walk.first c.loop-walk.primary) (take c.loop-walk.second c.loop-walk.secondary)
    (take c.loop-walk.third c.loop-walk.tertiary) _ _ _ c.loop-walk.invariant.0 c.loop-walk.invariant.1 c.loop-walk.invariant.2
    (c.loop-walk-test.ensures.0 Primary).0 (c.loop-walk-test.ensures.0 Secondary).0 (c.loop-walk-test.ensures.0 Tertiary).0 in
    let l : length (take c.loop-walk.first c.loop-walk.primary ++ (0 ∷ (take c.loop-walk.second c.loop-walk.secondary ++ (0 ∷ take c.loop-walk.third c.loop-walk.tertiary)))) ≡ length (key (rules_of c.args.table.now) c.args.name.now) = ap length e in
    let f = c.requires in
    omega (arith, l, f)

pub returns : goal.returns
returns g c =
    let e = made_at_end (rules_of c.args.table.now) c.args.name.now (take c.loop-walk.first c.loop-walk.primary) (take c.loop-walk.second c.loop-walk.secondary)
    (take c.loop-walk.third c.loop-walk.tertiary) _ _ _ c.loop-walk.invariant.0 c.loop-walk.invariant.1 c.loop-walk.invariant.2
    (c.loop-walk-test.ensures.0 Primary).0 (c.loop-walk-test.ensures.0 Secondary).0 (c.loop-walk-test.ensures.0 Tertiary).0 in
    (c.write_rows.ensures.count ∙ ap length e, c.write_rows.ensures.room ∙ ap (λ k. map g.T.Cell.cell k ++ drop c.write_rows.result c.args.room.now) e)
