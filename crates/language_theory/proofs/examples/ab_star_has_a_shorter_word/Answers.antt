use Rattle.language_theory.proofs.AbStar.{aba_is_a, bb_behind_b, bb_apart_b}
use Rattle.language_theory.proofs.examples.ab_star_has_a_shorter_word.Goals as goal

pub returns-clause-aba : goal.returns-clause-aba
returns-clause-aba c = aba_is_a

pub returns-clause-bb : goal.returns-clause-bb
returns-clause-bb c = bb_behind_b

pub returns-clause-apart : goal.returns-clause-apart
returns-clause-apart c = bb_apart_b
