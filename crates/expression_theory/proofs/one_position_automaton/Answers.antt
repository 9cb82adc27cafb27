use Rattle.expression_theory.proofs.Acceptance.{one_positions}
use Rattle.expression_theory.proofs.one_position_automaton.Goals as goal

pub returns : goal.returns
returns c = one_positions
