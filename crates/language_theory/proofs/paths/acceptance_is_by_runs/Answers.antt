use Rattle.language_theory.proofs.Automata.{accepts_by_run}
use Rattle.language_theory.proofs.paths.acceptance_is_by_runs.Goals as goal

pub returns : goal.returns
returns c = accepts_by_run
