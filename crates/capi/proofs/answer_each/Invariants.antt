use Rattle.std.proofs.Common.{◌≡◌, ℕ, ◌<◌, length, slice_index_or}
use Rattle.capi.specs.Answers.{Answers}
use Rattle.capi.specs.declared.answer.Part.{Part}
use Rattle.catalogue.specs.Checking.{lists_of}
use Rattle.catalogue.specs.Lists.{name_of}
use Rattle.capi.proofs.answer_each.Given as goal

-- the parts of the questions so far are theirs
abbrev pub invariant-loop-number : goal.invariant-loop-number
invariant-loop-number l =
    (length l.parts ≡ length l.initial.parts)
    × ((i : ℕ) (none : Part) → i < l.number → Answers (lists_of l.catalogue) (name_of l.questions.text.now l.questions.starts.now i) (slice_index_or l.parts i none))
