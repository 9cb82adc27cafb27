use Rattle.std.proofs.Common.{length, refl}
use Rattle.automaton_file.specs.FileText.{language_of}
use Rattle.report_sections.specs.Answers.{values_of}
use Rattle.report_sections.proofs.Diagrams.{boxes_of_monoid}
use Rattle.report_sections.proofs.answering.answer_green.Goals as goal

pub returns-clause-said : goal.returns-clause-said
returns-clause-said c =
    let v = values_of c.args.values.now in
    let m = c.classes.result.0.now in
    let g = c.classes.result.1.now in
    record {
      answer = record { monoid = m; idempotents = g.idempotents; boxes = c.in_ok-boxes.boxes };
      right = record {
        syntactic = c.classes.ensures.monoid;
        diagram = boxes_of_monoid (length v.source.letters) (language_of v.source) m
            c.classes.ensures.monoid g c.in_ok-boxes.boxes c.classes.ensures.green
            c.in_ok-boxes.ensures.boxes;
      };
      text = refl;
      limited = refl;
    }
