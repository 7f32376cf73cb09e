use Rattle.std.proofs.lemmas.Result.{on_ok_weaker}
use Rattle.nullahbowl.proofs.Progress.{both_written}
use Rattle.nullahbowl.proofs.writing.write_table.Goals as goal

pub returns : goal.returns
returns g c =
    on_ok_weaker c.write_longs.result (λ h. both_written _ _ _ _ _ c.in_ok-write_letters.ensures (both_written _ _ _ _ _ c.in_ok-write_pairs.ensures h)) c.write_longs.ensures
