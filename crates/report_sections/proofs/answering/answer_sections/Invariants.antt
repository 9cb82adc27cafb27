use Rattle.std.proofs.Common.{map, take}
use Rattle.std.specs.Prelude.{All}
use Rattle.automaton_file.specs.FileText.{language_of}
use Rattle.report_sections.specs.Sections.{AreSections}
use Rattle.report_sections.specs.Answers.{IsSayable, values_of, said_of}
use Rattle.report_sections.proofs.answering.answer_sections.Given as goal

-- the sections before this one are answered
abbrev pub invariant-loop-section : goal.invariant-loop-section
invariant-loop-section l =
    let v = values_of l.values in
    record {
      sayable : All (IsSayable v.source.letters) l.answers.items;
      said : AreSections (take l.section-index l.sections) v.limits v.source.letters
          (language_of v.source) (map (said_of v.source.letters v.limits) l.answers.items);
    }
