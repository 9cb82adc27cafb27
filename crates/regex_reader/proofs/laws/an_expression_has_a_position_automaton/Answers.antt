use Rattle.regex_reader.proofs.SomePositions.{some_positions}
use Rattle.regex_reader.proofs.laws.an_expression_has_a_position_automaton.Goals as goal

pub returns : goal.returns
returns c k t within = some_positions k t within
