use Rattle.std.proofs.Common.{vec_items, arith}
use Rattle.std.proofs.lemmas.List.FromFn.{length-map-range_with_len}
use Rattle.table.specs.Buffer.{buffer_count}
use Rattle.table.specs.Numbers.{pair_at}
use Rattle.table.proofs.buffer.TableBuf.run_count.Goals as goal

pub returns : goal.returns
returns c =
    let b = c.args.self.now in
    let e = c.len.ensures in
    let f = c.len-2.ensures in
    let m = length-map-range_with_len (pair_at (vec_items b.pairs)) 0 (buffer_count b) in
    omega arith
