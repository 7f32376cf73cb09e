use Rattle.std.proofs.Common.{◌≡◌, is_some, vec_items, sym, ap, ◌∙◌}
use Rattle.pieces.specs.Runs.{long_among, long_letters}
use Rattle.table.specs.Buffer.{buffer_count, buffer_rules}
use Rattle.table.specs.Rules.{rules_by}
use Rattle.table.proofs.Longs.{longs_alone, no_pair_joins}
use Rattle.table.proofs.Refusing.{contracted, run_allowed, run_twice}
use Rattle.table.specs.declared.buffer.TableBuf.{TableBuf}
use Rattle.pieces.specs.declared.piece.LongRun.{LongRun}
use Rattle.table.proofs.buffer.TableBuf.allows_long.Goals as goal

-- a longer run is one where it is among those of the table
joined : (b : TableBuf) (r : LongRun) → is_some (long_among (vec_items b.longs) (long_letters r)) ≡ (buffer_rules b).joins (long_letters r)
joined b r =
    let t = rules_by b.utf8 (vec_items b.letters) (vec_items b.others) (vec_items b.pairs) (buffer_count b) in
    ap is_some (sym (longs_alone t (vec_items b.longs) (long_letters r) (no_pair_joins (vec_items b.pairs) (buffer_count b) r)))
    ∙ contracted (buffer_rules b) (long_letters r)

pub returns-then-is_some : goal.returns-then-is_some
returns-then-is_some c =
    let b = c.args.self.now in
    let v = c.as_slice.ensures.value in
    let j = sym (joined b c.args.long.run) ∙ (ap (λ es. is_some (long_among es (long_letters c.args.long.run))) (sym c.as_slice.ensures.value) ∙ (ap is_some (sym (c.find_long.ensures (rw v b.rise))) ∙ (sym c.is_some.ensures ∙ c.if-is_some.true))) in
    run_twice _ _ _ _ c.run_count-place.ensures c.if-place-ge-MAX_RUNS.false (sym c.unknown_long.ensures ∙ c.if-unknown_long.false) j

pub returns : goal.returns
returns c =
    let b = c.args.self.now in
    let v = c.as_slice.ensures.value in
    let j = sym (joined b c.args.long.run) ∙ (ap (λ es. is_some (long_among es (long_letters c.args.long.run))) (sym c.as_slice.ensures.value) ∙ (ap is_some (sym (c.find_long.ensures (rw v b.rise))) ∙ (sym c.is_some.ensures ∙ c.if-is_some.false))) in
    run_allowed _ _ _ _ c.run_count-place.ensures c.if-place-ge-MAX_RUNS.false (sym c.unknown_long.ensures ∙ c.if-unknown_long.false) j
