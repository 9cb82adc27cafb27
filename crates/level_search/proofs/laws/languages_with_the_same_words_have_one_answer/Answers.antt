use Rattle.level_search.proofs.Answering.{answer_agrees}
use Rattle.level_search.proofs.laws.languages_with_the_same_words_have_one_answer.Goals as goal

pub returns : goal.returns
returns g c k most first last a h = answer_agrees k g.L.Language.has g.M.Language.has
    (g.Q.Quotient.width k) (g.Q.Quotient.same k) most h first last a
