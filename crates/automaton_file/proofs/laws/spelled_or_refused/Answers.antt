use Rattle.automaton_file.proofs.SourceLaws.{refusal_spells_none, source_or_refusal}
use Rattle.automaton_file.proofs.laws.spelled_or_refused.Goals as goal

pub returns : goal.returns
returns c = record {
  either = λ bytes. source_or_refusal bytes;
  one =
      λ bytes s at code h k. refusal_spells_none bytes s at code h k;
}
