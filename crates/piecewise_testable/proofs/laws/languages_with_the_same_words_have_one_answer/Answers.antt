use Rattle.answers.specs.declared.subwords.Side.TheVariants.{Right}
use Rattle.piecewise_testable.proofs.Agreeing.{answer_on_agrees, commutative_answer_agrees}
use Rattle.piecewise_testable.proofs.Answering.{piecewise_answer_agrees}
use Rattle.piecewise_testable.proofs.laws.languages_with_the_same_words_have_one_answer.Goals as goal

pub returns-clause-piecewise : goal.returns-clause-piecewise
returns-clause-piecewise g c k most last a same h =
    piecewise_answer_agrees k g.L.Language.has g.M.Language.has same most last a h

pub returns-clause-r_trivial : goal.returns-clause-r_trivial
returns-clause-r_trivial g c k a same h =
    answer_on_agrees k g.L.Language.has g.M.Language.has same Right a h

pub returns-clause-commutative : goal.returns-clause-commutative
returns-clause-commutative g c k a same h =
    commutative_answer_agrees k g.L.Language.has g.M.Language.has same a h
