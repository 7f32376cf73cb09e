use Rattle.std.proofs.Common.{◌≡◌, ◌+◌, ◌-◌, ◌≤◌, drop, length}
use Rattle.utf8.specs.Reading.{later, letters, unread}
use Rattle.utf8.proofs.count.count_letters.Given as goal

-- what was counted and what is left are all letters, and the first place at which none can be read lies in what is left
abbrev pub invariant-loop-letter : goal.invariant-loop-letter
invariant-loop-letter l =
    (l.place ≤ length l.bytes) × (l.count ≤ l.place) × (l.count + length (letters (drop l.place l.bytes)) ≡ length (letters l.bytes))
    × (unread l.bytes ≡ later l.place (unread (drop l.place l.bytes)))

abbrev pub decreases-loop-letter : goal.decreases-loop-letter
decreases-loop-letter l = length l.bytes - l.place
