use Rattle.std.proofs.Common.{length}
use Rattle.automaton_file.specs.FileText.{language_of}
use Rattle.report_sections.specs.Answers.{values_of}
use Rattle.report_sections.proofs.Recognised.{minimal_of_recognised, piecewise_answers}
use Rattle.report_sections.proofs.questions.answer_piecewise.Goals as goal

pub piecewise-requires-clause-minimal : goal.piecewise-requires-clause-minimal
piecewise-requires-clause-minimal c =
    let v = values_of c.args.values.now in
    minimal_of_recognised (length v.source.letters) (language_of v.source) c.classes.result.0.now
    c.classes.ensures.monoid v.automaton c.requires.values.minimal

pub returns : goal.returns
returns c =
    let v = values_of c.args.values.now in
    piecewise_answers (length v.source.letters) (language_of v.source) c.classes.result.0.now
    c.classes.ensures.monoid v.limits c.in_ok-answer.answer c.in_ok-answer.ensures.answer
