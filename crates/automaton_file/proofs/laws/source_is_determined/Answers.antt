use Rattle.automaton_file.proofs.SourceLaws.{one_source}
use Rattle.automaton_file.proofs.laws.source_is_determined.Goals as goal

pub returns : goal.returns
returns c bytes s t h k = one_source bytes s t h k
