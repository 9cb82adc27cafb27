use Rattle.std.proofs.Common.{length, refl}
use Rattle.automaton_file.specs.FileText.{language_of}
use Rattle.report_sections.specs.Answers.{values_of}
use Rattle.report_sections.proofs.Locals.{local_over}
use Rattle.report_sections.proofs.StarFreeLists.{star_free_over}
use Rattle.report_sections.proofs.answering.answer_section.Goals as goal

pub returns-in_ok-answer_star_free-in-StarFree-clause-sayable :
    goal.returns-in_ok-answer_star_free-in-StarFree-clause-sayable
returns-in_ok-answer_star_free-in-StarFree-clause-sayable c =
    let v = values_of c.args.values.now in
    let h = c.in_ok-answer_star_free-in-StarFree.ensures in
    star_free_over (length v.source.letters) (language_of v.source) h.monoid v.limits.nodes
    h.has_table c.in_ok-answer_star_free-in-StarFree.field-0 h.answered

pub returns-in_ok-answer_local-in-Local-clause-sayable :
    goal.returns-in_ok-answer_local-in-Local-clause-sayable
returns-in_ok-answer_local-in-Local-clause-sayable c =
    let v = values_of c.args.values.now in
    let h = c.in_ok-answer_local-in-Local.ensures in
    local_over (length v.source.letters) (language_of v.source) h.monoid.graphs.words
    h.syntactic.graphs.words h.has_table v.limits.level v.limits.pairs
    c.in_ok-answer_local-in-Local.field-0 h.answered

pub returns-in-Automaton-clause-said :
    goal.returns-in-Automaton-clause-said
returns-in-Automaton-clause-said c =
    rw c.in-Automaton.is (record {
      answer = c.args.values.now.dfa.now;
      right = c.requires.values.minimal;
      text = refl;
      limited = refl;
    })

pub returns-in_ok-answer_star_free-in-StarFree-clause-said :
    goal.returns-in_ok-answer_star_free-in-StarFree-clause-said
returns-in_ok-answer_star_free-in-StarFree-clause-said c =
    rw c.in-StarFree.is (record {
      answer = c.in_ok-answer_star_free-in-StarFree.field-0;
      right = c.in_ok-answer_star_free-in-StarFree.ensures;
      text = refl;
      limited = refl;
    })

pub returns-in_ok-answer_piecewise-in-Piecewise-clause-said :
    goal.returns-in_ok-answer_piecewise-in-Piecewise-clause-said
returns-in_ok-answer_piecewise-in-Piecewise-clause-said c =
    rw c.in-Piecewise.is (record {
      answer = c.in_ok-answer_piecewise-in-Piecewise.field-0;
      right = c.in_ok-answer_piecewise-in-Piecewise.ensures;
      text = refl;
      limited = refl;
    })

pub returns-in_ok-answer_local-in-Local-clause-said :
    goal.returns-in_ok-answer_local-in-Local-clause-said
returns-in_ok-answer_local-in-Local-clause-said c =
    rw c.in-Local.is (record {
      answer = c.in_ok-answer_local-in-Local.field-0;
      right = c.in_ok-answer_local-in-Local.ensures;
      text = refl;
      limited = refl;
    })

pub returns-in_ok-answer_r_trivial-in-RTrivial-clause-said :
    goal.returns-in_ok-answer_r_trivial-in-RTrivial-clause-said
returns-in_ok-answer_r_trivial-in-RTrivial-clause-said c =
    rw c.in-RTrivial.is (record {
      answer = c.in_ok-answer_r_trivial-in-RTrivial.field-0;
      right = c.in_ok-answer_r_trivial-in-RTrivial.ensures;
      text = refl;
      limited = refl;
    })

pub returns-in_ok-answer_commutative-in-Commutative-clause-said :
    goal.returns-in_ok-answer_commutative-in-Commutative-clause-said
returns-in_ok-answer_commutative-in-Commutative-clause-said c =
    rw c.in-Commutative.is (record {
      answer = c.in_ok-answer_commutative-in-Commutative.field-0;
      right = c.in_ok-answer_commutative-in-Commutative.ensures;
      text = refl;
      limited = refl;
    })

pub returns-in_ok-answers-in-Generate-clause-said :
    goal.returns-in_ok-answers-in-Generate-clause-said
returns-in_ok-answers-in-Generate-clause-said c =
    rw c.in-Generate.is (record {
      answer = record { counts = c.in_ok-counts-in-Generate.counts; answers = c.in_ok-answers-in-Generate.answers };
      right = record { counted = c.in_ok-counts-in-Generate.ensures; answered = c.in_ok-answers-in-Generate.ensures };
      text = refl;
      limited = refl;
    })
