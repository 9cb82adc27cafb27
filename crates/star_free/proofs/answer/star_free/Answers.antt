use Rattle.std.proofs.Common.{subst}
use Rattle.star_free.specs.declared.deciding.Powers.{Powers}
use Rattle.star_free.specs.Loops.{AreDecided}
use Rattle.syntactic_monoid.specs.SyntacticMonoid.{recognised}
use Rattle.star_free.proofs.Constructed.{has_star_free_list, loop_tells}
use Rattle.star_free.proofs.answer.star_free.Goals as goal

pub returns-in-Loops-clause-tells : goal.returns-in-Loops-clause-tells
returns-in-Loops-clause-tells c =
    let m = c.args.monoid.now in
    let k = m.graphs.right.letters in
    let P : Powers → Type 0 = λ p. AreDecided k (recognised m) p in
    loop_tells k (recognised m) c.in-Loops.found (subst P c.in-Loops.is c.in_ok-found.ensures)

pub returns-in-None-clause-tells : goal.returns-in-None-clause-tells
returns-in-None-clause-tells c =
    let m = c.args.monoid.now in
    let k = m.graphs.right.letters in
    let P : Powers → Type 0 = λ p. AreDecided k (recognised m) p in
    has_star_free_list m c.cayley-elements.ensures.syntactic
    (subst P c.in-Aperiodic.is c.in_ok-found.ensures)
