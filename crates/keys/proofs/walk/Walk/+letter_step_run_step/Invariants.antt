use Rattle.std.proofs.Common.{◌+◌, ◌*◌}
use Rattle.keys.specs.Reading.{steps_left}
use Rattle.keys.proofs.walk.Walk.+letter_step_run_step.Given as goal

abbrev pub decreases-letter_step : goal.decreases-letter_step
decreases-letter_step l = 2 * steps_left l.self.now + 1

abbrev pub decreases-run_step : goal.decreases-run_step
decreases-run_step l = 2 * steps_left l.self.now
