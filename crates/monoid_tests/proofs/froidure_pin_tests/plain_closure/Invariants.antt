use Rattle.std.proofs.Common.{◌-◌}
use Rattle.monoid_tests.proofs.froidure_pin_tests.plain_closure.Given as goal

abbrev pub decreases-loop-left : goal.decreases-loop-left
decreases-loop-left l = 257 - l.left
