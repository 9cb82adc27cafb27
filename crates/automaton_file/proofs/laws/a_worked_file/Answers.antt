use Rattle.automaton_file.proofs.WorkedFile.{worked_is_source, refused_is_refused}
use Rattle.automaton_file.proofs.laws.a_worked_file.Goals as goal

pub returns : goal.returns
returns c = record { source = worked_is_source; refusal = refused_is_refused }
