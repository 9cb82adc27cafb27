use Rattle.piecewise_testable.proofs.OneAnswer.{one_piecewise_answer, one_r_trivial_answer, one_commutative_answer}
use Rattle.piecewise_testable.proofs.laws.a_language_has_one_answer.Goals as goal

pub returns-clause-piecewise : goal.returns-clause-piecewise
returns-clause-piecewise g c k most last a b h e =
    one_piecewise_answer k g.L.Language.has most last a b h e

pub returns-clause-r_trivial : goal.returns-clause-r_trivial
returns-clause-r_trivial g c k a b h e = one_r_trivial_answer k g.L.Language.has a b h e

pub returns-clause-commutative : goal.returns-clause-commutative
returns-clause-commutative g c k a b h e = one_commutative_answer k g.L.Language.has a b h e
