use Rattle.automaton_file.proofs.SourceLaws.{refusal_spells_none}
use Rattle.generated_file.specs.Generated.{generated_text, generated_source}
use Rattle.generated_file.proofs.Spelling.{text_short, text_is_source}
use Rattle.generated_file.proofs.laws.generated_files_are_accepted.Goals as goal

pub returns : goal.returns
returns c = record {
  short = text_short;
  source = λ size some few. text_is_source size some few;
  refused = λ size at code some few.
      refusal_spells_none (generated_text size) (generated_source size) at code
      (text_is_source size some few);
}
