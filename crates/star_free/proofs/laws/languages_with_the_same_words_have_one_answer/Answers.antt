use Rattle.star_free.proofs.Answering.{decided_in_both}
use Rattle.star_free.proofs.OneList.{answer_in_both, tells_in_both}
use Rattle.star_free.proofs.laws.languages_with_the_same_words_have_one_answer.Goals as goal

pub returns-clause-powers : goal.returns-clause-powers
returns-clause-powers g c k p a = decided_in_both k g.L.Language.has g.M.Language.has a p

pub returns-clause-answer : goal.returns-clause-answer
returns-clause-answer g c k m most t a s =
    answer_in_both k g.L.Language.has g.M.Language.has s m most t a

pub returns-clause-tells : goal.returns-clause-tells
returns-clause-tells g c k a s = tells_in_both k g.L.Language.has g.M.Language.has s a
