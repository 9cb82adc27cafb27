use Rattle.locally_testable.proofs.Agreeing.{local_answer_again}
use Rattle.locally_testable.proofs.laws.languages_with_the_same_words_have_one_answer.Goals as goal

pub returns : goal.returns
returns g c k words has_table last most x a r =
    local_answer_again k g.L.Language.has g.M.Language.has a words r has_table last most x
