use Rattle.level_search.proofs.Answering.{one_answer}
use Rattle.level_search.proofs.laws.the_answer_is_unique.Goals as goal

pub returns : goal.returns
returns g c k most first last a b =
    one_answer k g.L.Language.has (g.Q.Quotient.width k) (g.Q.Quotient.same k) most first last a b
