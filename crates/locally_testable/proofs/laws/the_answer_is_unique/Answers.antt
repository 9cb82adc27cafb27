use Rattle.locally_testable.proofs.OneAnswer.{one_local_answer}
use Rattle.local_submonoids.proofs.OneWitness.{one_witness}
use Rattle.locally_testable.proofs.laws.the_answer_is_unique.Goals as goal

pub returns-clause-answer : goal.returns-clause-answer
returns-clause-answer g c k words has_table last most a b r =
    one_local_answer k g.L.Language.has words r has_table last most a b

pub returns-clause-witness : goal.returns-clause-witness
returns-clause-witness g c k words v w r = one_witness k g.L.Language.has words r v w
