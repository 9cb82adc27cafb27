use Rattle.std.proofs.Common.{List, map, take, sym, subst, ◌+◌}
use Rattle.std.specs.Prelude.{All}
use Rattle.std.proofs.lemmas.List.Elements.{All-push}
use Rattle.automaton_file.specs.FileText.{language_of}
use Rattle.report_sections.specs.Answers.{IsSayable, values_of, said_of}
use Rattle.report_sections.specs.Sections.{AreSections}
use Rattle.report_sections.specs.declared.answering.Answer.{Answer}
use Rattle.report_sections.proofs.Joining.{sections-next}
use Rattle.report_sections.proofs.answering.answer_sections.Goals as goal

pub loop-section-preserved : goal.loop-section-preserved
loop-section-preserved c =
    let v = values_of c.args.values.now in
    let P : List Answer → Type 0 = λ answers.
    AreSections (take (c.loop-section.section-index + 1) c.args.sections.now) v.limits
    v.source.letters (language_of v.source) (map (said_of v.source.letters v.limits) answers) in
    record {
      sayable = subst (All (IsSayable v.source.letters))
          (sym {A = List Answer} c.in_ok-push.ensures.items)
          (All-push (IsSayable v.source.letters) _ _ c.loop-section.invariant.sayable
          c.in_ok-answer_section.ensures.sayable);
      said = subst P (sym {A = List Answer} c.in_ok-push.ensures.items)
          (sections-next (said_of v.source.letters v.limits) v.limits v.source.letters
          (language_of v.source)
          c.args.sections.now c.loop-section.section-index _ c.loop-section.answers.items
          c.in_ok-answer_section.field-0 c.loop-section-test.true c.loop-section.invariant.said
          c.in_ok-answer_section.ensures.said);
    }
