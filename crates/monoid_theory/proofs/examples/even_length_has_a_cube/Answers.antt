use Rattle.monoid_theory.proofs.EvenLength.{cube_is_a, a_not_idempotent}
use Rattle.monoid_theory.proofs.examples.even_length_has_a_cube.Goals as goal

pub returns-clause-cube : goal.returns-clause-cube
returns-clause-cube c = cube_is_a

pub returns-clause-square : goal.returns-clause-square
returns-clause-square c = a_not_idempotent
