use Rattle.std.proofs.Common.{◌≡◌}
use Rattle.timing.specs.Totals.{key_at, room_after, total, written}
use Rattle.table.specs.Meaning.{rules_of}
use Rattle.timing.proofs.keys_of.Given as goal

abbrev pub invariant-loop-number : goal.invariant-loop-number
invariant-loop-number l =
    (l.numbers ≡ total (written (key_at (rules_of l.table) l.names.text.now l.names.starts.now) l.initial.room) l.number)
    × (l.room ≡ room_after (key_at (rules_of l.table) l.names.text.now l.names.starts.now) l.initial.room l.number)
