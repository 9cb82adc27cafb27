use Rattle.std.proofs.Common.{true, refl, arith}
use Rattle.language_theory.specs.Nerode.{accepted}
use Rattle.local_submonoids.proofs.Languages.{when_none, witness_of_language, work_of_language, locally_of_language}
use Rattle.locally_testable.proofs.LeastWitnesses.{witness_shows}
use Rattle.locally_testable.proofs.Telling.{searched_answer}
use Rattle.locally_testable.proofs.answer.local_by_table.Goals as goal

pub returns-then-branch-gt-MOST_WORK-clause-answer :
    goal.returns-then-branch-gt-MOST_WORK-clause-answer
returns-then-branch-gt-MOST_WORK-clause-answer c =
    let m = c.args.monoid.now in
    let d = c.args.dfa.now in (
      refl,
      record {
        work = c.in_ok-local_work.field-0;
        sum = work_of_language m c.cayley-elements.ensures.syntactic d.graph.letters (accepted d)
            c.requires.language c.args.table.now c.requires.table c.in_ok-local_work.field-0
            c.in_ok-local_work.ensures;
        much = c.if-branch-gt-MOST_WORK.true;
      },
    )

pub returns-in_ok-witness-in-Some-clause-answer : goal.returns-in_ok-witness-in-Some-clause-answer
returns-in_ok-witness-in-Some-clause-answer c =
    let m = c.args.monoid.now in
    let d = c.args.dfa.now in
    let low = c.if-branch-gt-MOST_WORK.false in (
      refl,
      record {
        work = c.in_ok-local_work.field-0;
        sum = work_of_language m c.cayley-elements.ensures.syntactic d.graph.letters (accepted d)
            c.requires.language c.args.table.now c.requires.table c.in_ok-local_work.field-0
            c.in_ok-local_work.ensures;
        little = omega arith;
      },
      witness_of_language m c.cayley-elements.ensures.syntactic d.graph.letters (accepted d)
          c.requires.language c.in_ok-witness-in-Some.witness c.in_ok-witness-in-Some.ensures,
    )

pub returns-in_ok-witness-in-Some-clause-tells : goal.returns-in_ok-witness-in-Some-clause-tells
returns-in_ok-witness-in-Some-clause-tells c =
    let m = c.args.monoid.now in
    let d = c.args.dfa.now in
    witness_shows d.graph.letters (accepted d) m.graphs.words c.requires.language.graphs.words
    c.in_ok-witness-in-Some.witness
    (witness_of_language m c.cayley-elements.ensures.syntactic d.graph.letters (accepted d)
    c.requires.language c.in_ok-witness-in-Some.witness c.in_ok-witness-in-Some.ensures)

pub returns-in_ok-answer-in-None-clause-answer : goal.returns-in_ok-answer-in-None-clause-answer
returns-in_ok-answer-in-None-clause-answer c =
    let m = c.args.monoid.now in
    let d = c.args.dfa.now in
    let low = c.if-branch-gt-MOST_WORK.false in
    searched_answer d.graph.letters (accepted d) m.graphs.words true c.args.max_level
    c.args.max_pairs refl c.in_ok-answer-in-None.answer (record {
      work = record {
        work = c.in_ok-local_work.field-0;
        sum = work_of_language m c.cayley-elements.ensures.syntactic d.graph.letters (accepted d)
            c.requires.language c.args.table.now c.requires.table c.in_ok-local_work.field-0
            c.in_ok-local_work.ensures;
        little = omega arith;
      };
      local = locally_of_language m c.cayley-elements.ensures.syntactic d.graph.letters (accepted d)
          c.requires.language c.args.table.now c.requires.table
          (when_none c.in_ok-e.field-0 c.in-None.is c.in_ok-e.ensures.none);
      search = c.in_ok-answer-in-None.ensures;
    })
