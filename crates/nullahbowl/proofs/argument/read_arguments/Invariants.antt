use Rattle.std.proofs.Common.{ℕ, List, length, map, false, vec_items, []}
use Rattle.std.specs.String.{string_bytes}
use Rattle.nullahbowl.proofs.argument.read_arguments.Given as goal
use Rattle.nullahbowl.specs.Arguments.{Say, no_options}
use Rattle.nullahbowl.specs.declared.argument.Options.{Options}

abbrev pub invariant-loop-word : goal.invariant-loop-word
invariant-loop-word l =
    (p : Options) (gs : List (List ℕ)) → Say l.options (map string_bytes (vec_items l.files)) (map string_bytes l.words.rest.items) false p gs
    → Say no_options [] (map string_bytes (vec_items l.fn.words)) false p gs

abbrev pub decreases-loop-word : goal.decreases-loop-word
decreases-loop-word l = length l.words.rest.items
