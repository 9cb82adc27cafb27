use Rattle.cayley_tables.proofs.Examples.{ab_star_targets}
use Rattle.monoid_tests.proofs.worked.ab_star.Goals as goal

pub from_right-requires : goal.from_right-requires
from_right-requires c = ab_star_targets
