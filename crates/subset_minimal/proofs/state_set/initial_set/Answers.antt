use Rattle.std.proofs.Common.{ap, arith, List, Bool, length}
use Rattle.subset_minimal.proofs.state_set.initial_set.Goals as goal

pub from_marks-requires : goal.from_marks-requires
from_marks-requires c = omega (
  arith,
  ap (λ (marks : List Bool). length marks)
      c.initials.ensures.initial,
  c.states-states.ensures.sized.automaton.initial,
  c.states-states.ensures.sized.few_states,
)
