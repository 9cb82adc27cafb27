use Rattle.std.proofs.Common.{◌∙◌, length, refl, ap, subst}
use Rattle.language_theory.specs.ShortlexGraph.{SameNode}
use Rattle.monoid_theory.specs.Presentation.{AreRules}
use Rattle.cayley_tables.specs.CayleyGraphs.{CayleyGraphs}
use Rattle.automaton_file.specs.FileText.{language_of}
use Rattle.report_text.specs.GreenSection.{marks_below}
use Rattle.report_sections.specs.Answers.{values_of}
use Rattle.report_sections.proofs.Diagrams.{boxes_of_monoid}
use Rattle.report_sections.proofs.Rules.{rules_of_monoid}
use Rattle.report_sections.proofs.summary.counts_of.Goals as goal

pub returns : goal.returns
returns c =
    let v = values_of c.args.values.now in
    let m = c.classes.result.0.now in
    let g = c.classes.result.1.now in
    let is = c.classes.ensures.monoid in
    let greens = c.classes.ensures.green in
    let all = c.in_ok-rules.rules in
    let boxes = c.in_ok-boxes.boxes in
    let own : AreRules m.graphs.right.letters (SameNode m.graphs.right) m.graphs.words all =
    subst (λ (x : CayleyGraphs). AreRules x.right.letters (SameNode x.right) x.words all)
    c.cayley.ensures.graphs c.in_ok-rules.ensures.rules in
    record {
      generated = refl;
      automaton = v.automaton;
      minimal = c.requires.values.minimal;
      states = c.len.ensures.len;
      monoid = m;
      syntactic = is;
      elements = c.len-2.ensures.len ∙ ap (λ (x : CayleyGraphs). length x.words) c.cayley-2.ensures.graphs;
      list = all;
      presentation = rules_of_monoid (length v.source.letters) (language_of v.source) m all is own;
      rules = c.len-3.ensures;
      marks = g.idempotents;
      diagram = boxes;
      egg_boxes = boxes_of_monoid (length v.source.letters) (language_of v.source) m is g boxes greens
          c.in_ok-boxes.ensures.boxes;
      boxes = c.len-4.ensures;
      idempotents = c.idempotents_of.ensures ∙ ap (marks_below g.idempotents) greens.r.long;
    }
