use Rattle.std.proofs.Common.{◌≡◌}
use Rattle.local_submonoids.proofs.FirstElements.{IsSeenBelow}
use Rattle.local_submonoids.proofs.submonoids.first_elements.Given as goal

abbrev pub invariant-loop-s : goal.invariant-loop-s
invariant-loop-s l =
    IsSeenBelow l.table l.e l.s l.is_seen.items l.firsts.items × (l.s-end ≡ l.table.side)
