use Rattle.std.proofs.Common.{length, Bor}
use Rattle.automaton_file.specs.FileText.{language_of}
use Rattle.parallel_table.specs.ProductTables.{ProductTable}
use Rattle.report_sections.specs.Answers.{values_of}
use Rattle.report_sections.proofs.Recognised.{monoid_of_accepted, local_answers}
use Rattle.report_sections.proofs.questions.answer_local.Goals as goal

pub local-requires-clause-language : goal.local-requires-clause-language
local-requires-clause-language c =
    let v = values_of c.args.values.now in
    monoid_of_accepted (length v.source.letters) (language_of v.source) v.automaton
    c.requires.values.minimal c.products.result.0.now c.products.ensures.monoid

pub returns : goal.returns
returns c =
    let v = values_of c.args.values.now in
    local_answers (length v.source.letters) (language_of v.source) v.automaton
    c.requires.values.minimal (λ (t : Bor ProductTable). t.now) c.products.result.1 v.limits
    c.products.result.0.now c.in_ok-answer.answer c.products.ensures.monoid
    c.products.ensures.table c.in_ok-answer.ensures.answer
