use Rattle.std.proofs.Common.{sym, ◌∙◌}
use Rattle.order.specs.Pieces.{run_in}
use Rattle.order.proofs.Deciding.{run_triples}
use Rattle.order.proofs.piece.Piece.parts.Goals as goal

pub returns-in_ok-own-in_default : goal.returns-in_ok-own-in_default
returns-in_ok-own-in_default c = run_triples c.args.table.now (run_in c.args.self) c.in_ok-own-in_default.own (sym c.run_weights.ensures ∙ c.in_ok-own-in_default.was)
