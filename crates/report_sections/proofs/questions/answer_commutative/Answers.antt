use Rattle.std.proofs.Common.{length}
use Rattle.automaton_file.specs.FileText.{language_of}
use Rattle.report_sections.specs.Answers.{values_of}
use Rattle.report_sections.proofs.Recognised.{commutative_answers}
use Rattle.report_sections.proofs.questions.answer_commutative.Goals as goal

pub returns : goal.returns
returns c =
    let v = values_of c.args.values.now in
    commutative_answers (length v.source.letters) (language_of v.source) c.elements.result.now
    c.elements.ensures c.in_ok-answer.answer c.in_ok-answer.ensures
