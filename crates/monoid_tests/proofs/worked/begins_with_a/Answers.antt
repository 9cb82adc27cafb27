use Rattle.monoid_tests.proofs.Examples.{begins_with_a_targets}
use Rattle.monoid_tests.proofs.worked.begins_with_a.Goals as goal

pub from_right-requires : goal.from_right-requires
from_right-requires c = begins_with_a_targets
