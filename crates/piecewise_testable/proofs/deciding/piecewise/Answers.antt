use Rattle.std.proofs.Common.{sym, subst}
use Rattle.std.specs.Prelude.{Option}
use Rattle.syntactic_monoid.specs.SyntacticMonoid.{recognised}
use Rattle.answers.specs.declared.subwords.Side.TheVariants.{Right, Left}
use Rattle.answers.specs.declared.subwords.PtWitness.{PtWitness}
use Rattle.answers.specs.declared.subwords.PtAnswer.TheVariants as answer
use Rattle.piecewise_testable.specs.Witness.{IsAnswerOn}
use Rattle.piecewise_testable.specs.Answers.{IsPiecewiseAnswer}
use Rattle.piecewise_testable.proofs.Answering.{refused_on_right, refused_on_left, answer_of_search, always_apart}
use Rattle.piecewise_testable.proofs.Simon.{bounded_by_simon}
use Rattle.piecewise_testable.proofs.deciding.piecewise.Goals as goal

pub returns-in-Some-clause-answer : goal.returns-in-Some-clause-answer
returns-in-Some-clause-answer c =
    let m = c.args.monoid.now in
    let k = m.graphs.right.letters in
    let h = subst (λ (w : Option PtWitness). IsAnswerOn Right k (recognised m) w) c.in-Some.is
    c.in_ok-witness.ensures in
    refused_on_right k (recognised m) c.in-Some.witness h.0 h.1

pub returns-in-Some-clause-apart : goal.returns-in-Some-clause-apart
returns-in-Some-clause-apart c =
    let m = c.args.monoid.now in
    always_apart m.graphs.right.letters (recognised m) c.args.max_pairs c.args.max_level
    (answer.No c.in-Some.witness) (returns-in-Some-clause-answer c)

pub returns-in-Some-2-clause-answer : goal.returns-in-Some-2-clause-answer
returns-in-Some-2-clause-answer c =
    let m = c.args.monoid.now in
    let k = m.graphs.right.letters in
    let r = subst (λ (w : Option PtWitness). IsAnswerOn Right k (recognised m) w) c.in_default.is
    c.in_ok-witness.ensures in
    let h = subst (λ (w : Option PtWitness). IsAnswerOn Left k (recognised m) w) c.in-Some-2.is
    c.in_ok-witness-2.ensures in
    refused_on_left k (recognised m) c.in-Some-2.witness h.0 r h.1

pub returns-in-Some-2-clause-apart : goal.returns-in-Some-2-clause-apart
returns-in-Some-2-clause-apart c =
    let m = c.args.monoid.now in
    always_apart m.graphs.right.letters (recognised m) c.args.max_pairs c.args.max_level
    (answer.No c.in-Some-2.witness) (returns-in-Some-2-clause-answer c)

pub returns-clause-answer : goal.returns-clause-answer
returns-clause-answer c =
    let m = c.args.monoid.now in
    let k = m.graphs.right.letters in
    let r = subst (λ (w : Option PtWitness). IsAnswerOn Right k (recognised m) w) c.in_default.is
    c.in_ok-witness.ensures in
    let t = subst (λ (w : Option PtWitness). IsAnswerOn Left k (recognised m) w) c.in_default-2.is
    c.in_ok-witness-2.ensures in
    subst (IsPiecewiseAnswer k (recognised m) c.args.max_pairs c.args.max_level)
    (sym c.level_answer.ensures)
    (answer_of_search m c.cayley-cayley.ensures.syntactic c.args.dfa.now c.requires.minimal
    c.args.max_pairs c.args.max_level c.in_ok-level.level r t c.in_ok-level.ensures)

pub returns-clause-apart : goal.returns-clause-apart
returns-clause-apart c =
    let m = c.args.monoid.now in
    always_apart m.graphs.right.letters (recognised m) c.args.max_pairs c.args.max_level
    c.level_answer.result (returns-clause-answer c)

pub returns-in-Some-clause-simon : goal.returns-in-Some-clause-simon
returns-in-Some-clause-simon c =
    let m = c.args.monoid.now in
    bounded_by_simon m.graphs.right.letters (recognised m) m.graphs.words c.args.max_pairs
    c.args.max_level (answer.No c.in-Some.witness)
    c.cayley-cayley.ensures.syntactic.monoid.graphs.words (returns-in-Some-clause-answer c)

pub returns-in-Some-2-clause-simon : goal.returns-in-Some-2-clause-simon
returns-in-Some-2-clause-simon c =
    let m = c.args.monoid.now in
    bounded_by_simon m.graphs.right.letters (recognised m) m.graphs.words c.args.max_pairs
    c.args.max_level (answer.No c.in-Some-2.witness)
    c.cayley-cayley.ensures.syntactic.monoid.graphs.words (returns-in-Some-2-clause-answer c)

pub returns-clause-simon : goal.returns-clause-simon
returns-clause-simon c =
    let m = c.args.monoid.now in
    bounded_by_simon m.graphs.right.letters (recognised m) m.graphs.words c.args.max_pairs
    c.args.max_level c.level_answer.result
    c.cayley-cayley.ensures.syntactic.monoid.graphs.words (returns-clause-answer c)
