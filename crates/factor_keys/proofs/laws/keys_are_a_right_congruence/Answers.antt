use Rattle.factor_keys.specs.SameKeys.{key_congruence, key_parts}
use Rattle.factor_keys.proofs.laws.keys_are_a_right_congruence.Goals as goal

pub returns-clause-congruence : goal.returns-clause-congruence
returns-clause-congruence c = key_congruence

pub returns-clause-parts : goal.returns-clause-parts
returns-clause-parts c = key_parts
