use Rattle.std.proofs.Common.{length}
use Rattle.piecewise_testable.proofs.Simon.{simons_theorem}
use Rattle.piecewise_testable.proofs.laws.simons_theorem.Goals as goal

pub returns : goal.returns
returns g c k words chain q l j h =
    simons_theorem k g.R.Relation.same q words l j (length chain) h.most
