use Rattle.std.proofs.Common.{sym, ◌∙◌}
use Rattle.keys.proofs.Lettering.{read_first}
use Rattle.keys.proofs.letters.split_first.Goals as goal

pub slice_bounds-result-count : goal.slice_bounds-result-count
slice_bounds-result-count c = (read_first c.args.utf8 c.args.name.now c.in_ok-letter.letter c.in_ok-letter.length (sym c.first_in.ensures ∙ c.in_ok-letter.was)).2

pub slice_bounds-result-start : goal.slice_bounds-result-start
slice_bounds-result-start c = (read_first c.args.utf8 c.args.name.now c.in_ok-letter.letter c.in_ok-letter.length (sym c.first_in.ensures ∙ c.in_ok-letter.was)).2
