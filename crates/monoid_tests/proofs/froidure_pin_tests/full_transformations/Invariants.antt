use Rattle.std.proofs.Common.{◌≡◌}
use Rattle.monoid_tests.proofs.froidure_pin_tests.full_transformations.Given as goal

abbrev pub invariant-loop-point : goal.invariant-loop-point
invariant-loop-point l = (l.generators.points ≡ l.points) × (l.generators.letters ≡ 3)
