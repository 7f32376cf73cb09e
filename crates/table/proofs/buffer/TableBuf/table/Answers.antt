use Rattle.std.proofs.Common.{◌/◌, length, vec_items, ap, ap₂, ◌∙◌}
use Rattle.table.specs.Rules.{rules_by, with_expansions, with_longs}
use Rattle.table.proofs.buffer.TableBuf.table.Goals as goal

pub returns-clause-rules : goal.returns-clause-rules
returns-clause-rules c =
    let b = c.args.self.now in
    let t = c.chain.ensures in
    let e = c.unwrap.ensures in
    let h = rw e at t in
    let n = h.0 ∙ (c.new-pairs.ensures.0 ∙ c.as_slice.ensures.value) in
    let k = h.1 ∙ ap (λ ps. length ps / 5) (c.new-pairs.ensures.0 ∙ c.as_slice.ensures.value) in
    ap₂ (λ ls os. with_expansions (with_longs (rules_by b.utf8 ls os c.chain.new.self.numbers.now c.chain.new.self.count) c.as_slice-longs.result.now) c.as_slice-4.result.now) c.as_slice-2.ensures.value c.as_slice-3.ensures.value
    ∙ (ap₂ (λ ps m. with_expansions (with_longs (rules_by b.utf8 (vec_items b.letters) (vec_items b.others) ps m) c.as_slice-longs.result.now) c.as_slice-4.result.now) n k
    ∙ ap₂ (λ es xs. with_expansions (with_longs (rules_by b.utf8 (vec_items b.letters) (vec_items b.others) (vec_items b.pairs) (length (vec_items b.pairs) / 5)) es) xs) c.as_slice-longs.ensures.value c.as_slice-4.ensures.value)
