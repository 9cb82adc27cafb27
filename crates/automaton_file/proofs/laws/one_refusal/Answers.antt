use Rattle.automaton_file.proofs.SourceLaws as laws
use Rattle.automaton_file.proofs.laws.one_refusal.Goals as goal

pub returns : goal.returns
returns c bytes at code line other h k = laws.one_refusal bytes at code line other h k
