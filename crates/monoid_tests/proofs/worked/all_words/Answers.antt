use Rattle.monoid_tests.proofs.Examples.{one_element_targets}
use Rattle.monoid_tests.proofs.worked.all_words.Goals as goal

pub from_right-requires : goal.from_right-requires
from_right-requires c = one_element_targets
