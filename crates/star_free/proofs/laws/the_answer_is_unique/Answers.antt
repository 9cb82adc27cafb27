use Rattle.star_free.proofs.OneList.{one_answer_of}
use Rattle.star_free.proofs.laws.the_answer_is_unique.Goals as goal

pub returns : goal.returns
returns g c k m most t a b h = one_answer_of k g.L.Language.has m h most t a b
