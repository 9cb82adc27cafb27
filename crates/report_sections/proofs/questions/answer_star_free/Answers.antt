use Rattle.std.proofs.Common.{length, Bor}
use Rattle.automaton_file.specs.FileText.{language_of}
use Rattle.parallel_table.specs.ProductTables.{ProductTable}
use Rattle.report_sections.specs.Answers.{values_of}
use Rattle.report_sections.proofs.Recognised.{star_free_answers}
use Rattle.report_sections.proofs.questions.answer_star_free.Goals as goal

pub returns : goal.returns
returns c =
    let v = values_of c.args.values.now in
    star_free_answers (length v.source.letters) (language_of v.source) c.products.result.0.now
    c.products.ensures.monoid (λ (t : Bor ProductTable). t.now) c.products.result.1 v.limits
    c.in_ok-answer.answer c.products.ensures.table c.in_ok-answer.ensures.answer
    c.in_ok-answer.ensures.tells
