use Rattle.automaton_file.proofs.SourceLaws.{prefix_spells, prefix_refused}
use Rattle.automaton_file.proofs.laws.one_byte_too_many_is_enough.Goals as goal

pub returns : goal.returns
returns c = record {
  spelled = λ bytes s h. prefix_spells bytes s h;
  refused =
      λ bytes at code r. prefix_refused bytes at code r;
}
