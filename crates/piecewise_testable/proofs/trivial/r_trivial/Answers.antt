use Rattle.syntactic_monoid.specs.SyntacticMonoid.{recognised}
use Rattle.answers.specs.declared.subwords.Side.TheVariants.{Right}
use Rattle.piecewise_testable.proofs.ToldApart.{found_apart}
use Rattle.piecewise_testable.proofs.trivial.r_trivial.Goals as goal

pub returns-clause-apart : goal.returns-clause-apart
returns-clause-apart c =
    let m = c.args.monoid.now in
    found_apart Right m.graphs.right.letters (recognised m) c.in_ok-found.found
    c.in_ok-found.ensures
