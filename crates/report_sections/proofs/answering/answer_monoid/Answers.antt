use Rattle.std.proofs.Common.{length, refl, subst}
use Rattle.language_theory.specs.ShortlexGraph.{SameNode}
use Rattle.monoid_theory.specs.Presentation.{AreRules}
use Rattle.cayley_tables.specs.CayleyGraphs.{CayleyGraphs}
use Rattle.automaton_file.specs.FileText.{language_of}
use Rattle.report_sections.specs.Answers.{values_of}
use Rattle.report_sections.proofs.Rules.{rules_of_monoid}
use Rattle.report_sections.proofs.answering.answer_monoid.Goals as goal

pub returns-clause-said : goal.returns-clause-said
returns-clause-said c =
    let v = values_of c.args.values.now in
    let m = c.elements-monoid.result.now in
    let all = c.in_ok-rules.rules in
    let own : AreRules m.graphs.right.letters (SameNode m.graphs.right) m.graphs.words all =
    subst (λ (x : CayleyGraphs). AreRules x.right.letters (SameNode x.right) x.words all)
    c.cayley.ensures.graphs c.in_ok-rules.ensures.rules in
    record {
      answer = record { monoid = m; rules = all };
      right = record {
        syntactic = c.elements-monoid.ensures;
        presentation = rules_of_monoid (length v.source.letters) (language_of v.source) m all
            c.elements-monoid.ensures own;
      };
      text = refl;
      limited = refl;
    }
