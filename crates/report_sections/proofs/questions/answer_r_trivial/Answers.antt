use Rattle.std.proofs.Common.{length}
use Rattle.automaton_file.specs.FileText.{language_of}
use Rattle.report_sections.specs.Answers.{values_of}
use Rattle.report_sections.proofs.Recognised.{r_trivial_answers}
use Rattle.report_sections.proofs.questions.answer_r_trivial.Goals as goal

pub returns : goal.returns
returns c =
    let v = values_of c.args.values.now in
    r_trivial_answers (length v.source.letters) (language_of v.source) c.classes.result.0.now
    c.classes.ensures.monoid v.limits c.in_ok-answer.answer c.in_ok-answer.ensures.answer
