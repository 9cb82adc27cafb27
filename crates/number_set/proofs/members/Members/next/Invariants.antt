use Rattle.std.proofs.Common.{◌-◌}
use Rattle.number_set.specs.Marks.{IsAhead}
use Rattle.number_set.proofs.members.Members.next.Given as goal

abbrev pub invariant-loop-left : goal.invariant-loop-left
invariant-loop-left l = IsAhead l.self-inside.set.now l.self-inside.from l.place l.left

abbrev pub decreases-loop-left : goal.decreases-loop-left
decreases-loop-left l = l.size - l.place
