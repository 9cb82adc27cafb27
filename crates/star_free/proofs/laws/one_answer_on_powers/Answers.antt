use Rattle.star_free.proofs.Answering.{one_answer}
use Rattle.star_free.proofs.laws.one_answer_on_powers.Goals as goal

pub returns : goal.returns
returns g c k = one_answer k g.L.Language.has
