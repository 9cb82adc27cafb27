use Rattle.std.proofs.Common.{refl, rules}
use Rattle.language_theory.specs.Congruence.{Syntactic}
use Rattle.language_theory.specs.Nerode.{accepted}
use Rattle.language_theory.specs.Representatives.{HasMoreClasses}
use Rattle.report_sections.specs.Limits.{limits_of}
use Rattle.report_sections.specs.CommandNeeds.{NeedsElements}
use Rattle.report_sections.specs.Answers.{Values}
use Rattle.report_outcome.specs.declared.ending.Stop.TheVariants as stop
use Rattle.report_outcome.proofs.Elements.{monoid_of_source, many_elements, few_elements, from_some, some_there}
use Rattle.report_sections.proofs.CommandNeeds.{needs_there, green_needs_elements, table_needs_elements}
use Rattle.report_outcome.proofs.Outcomes.{ends_stopped}
use Rattle.command_line.proofs.Ranges.{level_within, pairs_within, nodes_within}
use Rattle.automaton_file.specs.FileText.{source_text}
use Rattle.report_outcome.proofs.reporting.report_on_automaton.Goals as goal

pub returns-in-Err-ElementLimit-clause-ends : goal.returns-in-Err-ElementLimit-clause-ends
returns-in-Err-ElementLimit-clause-ends g c = λ bytes spelled.
    let r = c.args.request.now in
    let source = source_text c.args.source.now in
    let d = c.args.dfa.now in
    let needed : NeedsElements r.command = search rules in
    let more : HasMoreClasses d.graph.letters (Syntactic d.graph.letters (accepted d)) r.elements =
    search rules in
    rw c.stopped.ensures (ends_stopped _ r source (stop.Elements r.elements) _ spelled (
      needed,
      c.requires.few,
      refl,
      many_elements source d r.elements c.requires.minimal more,
    ))

pub write_sections-requires-clause-values : goal.write_sections-requires-clause-values
write_sections-requires-clause-values g c = record {
  some_level = (level_within c.args.request.now c.requires.range).0;
  level = (level_within c.args.request.now c.requires.range).1;
  pairs = (pairs_within c.args.request.now c.requires.range).1;
  nodes = (nodes_within c.args.request.now c.requires.range).1;
  minimal = c.requires.minimal;
  syntactic = λ m there.
      monoid_of_source (source_text c.args.source.now) c.args.dfa.now m
      c.requires.minimal
      (from_some _ c.in-Ok.monoid m c.in-Ok.ensures.syntactic there);
}

pub write_sections-requires-clause-needs : goal.write_sections-requires-clause-needs
write_sections-requires-clause-needs g c =
    let v : Values = record {
      limits = limits_of c.args.request.now;
      source = source_text c.args.source.now;
      automaton = c.args.dfa.now;
      monoid = c.in-Ok.monoid;
      green = c.in-Ok-classes_of.green;
      table = c.in-Ok-table_of.table;
    } in
    let command = c.args.request.now.command in
    needs_there command v
    (λ needs. some_there c.in-Ok.monoid (c.in-Ok.ensures.there needs))
    (λ needs.
    let found = some_there c.in-Ok.monoid
    (c.in-Ok.ensures.there (green_needs_elements command needs)) in
    record {
      monoid = found.0;
      there = found.1;
      classes = from_some _ c.in-Ok.monoid found.0 (c.in-Ok-classes_of.ensures needs)
          found.1;
    })
    (λ needs.
    let found = some_there c.in-Ok.monoid
    (c.in-Ok.ensures.there (table_needs_elements command needs)) in
    record {
      monoid = found.0;
      there = found.1;
      table = from_some _ c.in-Ok.monoid found.0 (c.in-Ok-table_of.ensures needs)
          found.1;
    })

pub returns-clause-ends : goal.returns-clause-ends
returns-clause-ends g c = λ bytes spelled.
    let r = c.args.request.now in
    let source = source_text c.args.source.now in
    c.write_sections.ensures.ends bytes spelled (record {
      subsets = c.requires.few;
      elements = λ needs.
          few_elements source c.args.dfa.now r.elements
          c.requires.minimal (c.in-Ok.ensures.few needs);
    })
