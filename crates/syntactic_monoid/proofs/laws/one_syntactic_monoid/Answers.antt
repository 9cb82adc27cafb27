use Rattle.syntactic_monoid.proofs.OneMonoid.{monoids_are_one}
use Rattle.syntactic_monoid.proofs.laws.one_syntactic_monoid.Goals as goal

pub returns : goal.returns
returns g c k = monoids_are_one k g.L.Language.has
