use Rattle.language_theory.specs.Nerode.{accepted}
use Rattle.piecewise_testable.proofs.Answering.{minimal_fits}
use Rattle.question_tests.proofs.subwords.piecewise_text.Goals as goal

pub piecewise-requires-clause-minimal : goal.piecewise-requires-clause-minimal
piecewise-requires-clause-minimal g c =
    let d = c.in_ok-dfa.dfa in
    minimal_fits d.graph.letters (accepted d) c.in_ok-monoid.monoid d c.in_ok-monoid.ensures
    c.len-states.ensures.minimal.minimal
