use Rattle.expression_theory.proofs.FirstLast.{firsts_decide, lasts_decide, follows_decide}
use Rattle.expression_theory.proofs.tree_computes_its_steps.Goals as goal

pub returns-clause-begins : goal.returns-clause-begins
returns-clause-begins c = firsts_decide

pub returns-clause-ends : goal.returns-clause-ends
returns-clause-ends c = lasts_decide

pub returns-clause-follows : goal.returns-clause-follows
returns-clause-follows c = follows_decide
