use Rattle.std.proofs.Common.{length, Some, refl, rules}
use Rattle.language_theory.specs.ShortlexGraph.{SameNode}
use Rattle.automaton_file.specs.FileText.{language_of}
use Rattle.report_sections.specs.RightAnswers.{IsTableWithin}
use Rattle.report_sections.specs.Answers.{values_of}
use Rattle.report_sections.proofs.Tables.{table_of_monoid}
use Rattle.report_sections.proofs.answering.answer_table.Goals as goal

pub returns-in-Some-clause-said : goal.returns-in-Some-clause-said
returns-in-Some-clause-said c =
    let v = values_of c.args.values.now in
    let m = c.products.result.0.now in
    let table : IsTableWithin v.limits.table (SameNode m.graphs.right) m.graphs.words
    (Some c.in-Some.table.now) = search rules in
    record {
      answer = Some c.in-Some.table.now;
      right = record {
        monoid = m;
        syntactic = c.products.ensures.monoid;
        products = table_of_monoid (length v.source.letters) (language_of v.source) m
            c.products.ensures.monoid v.limits.table (Some c.in-Some.table.now) table;
      };
      text = refl;
      limited = refl;
    }
