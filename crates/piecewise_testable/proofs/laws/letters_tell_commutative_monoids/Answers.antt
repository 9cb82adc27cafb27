use Rattle.piecewise_testable.proofs.Commutation.{commutative_by_letters}
use Rattle.piecewise_testable.proofs.OneAnswer.{not_commutative}
use Rattle.piecewise_testable.proofs.laws.letters_tell_commutative_monoids.Goals as goal

pub returns-clause-letters : goal.returns-clause-letters
returns-clause-letters g c k q = commutative_by_letters k g.R.Relation.same q

pub returns-clause-witness : goal.returns-clause-witness
returns-clause-witness g c k w h = not_commutative k g.L.Language.has w h
