use Rattle.cayley_tables.proofs.Examples.{even_length_targets}
use Rattle.monoid_tests.proofs.worked.even_length.Goals as goal

pub from_right-requires : goal.from_right-requires
from_right-requires c = even_length_targets
