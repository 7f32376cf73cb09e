use Rattle.std.proofs.Common.{◌≡◌, drop, map}
use Rattle.keys.specs.Rows.{row, rows}
use Rattle.order.specs.Rows.{by_levels}
use Rattle.table.specs.Meaning.{rules_of}
use Rattle.order.proofs.collate.compare_levels.Given as goal

abbrev pub invariant-loop-level : goal.invariant-loop-level
invariant-loop-level l =
    let t = rules_of l.fn.table in
    let left = drop l.level-index l.level-items in
    by_levels (map (λ k. row k t l.fn.a) left) (map (λ k. row k t l.fn.b) left) ≡ by_levels (rows t l.fn.a) (rows t l.fn.b)
