use Rattle.std.proofs.Common.{◌≡◌, length}
use Rattle.level_search.proofs.Fixing.{IsKnown}
use Rattle.level_search.proofs.pairs.Pairs.are_fixed_by_keys.Given as goal

abbrev pub invariant-loop-number : goal.invariant-loop-number
invariant-loop-number l = IsKnown l.self l.number l.known.items
    × (l.number-end ≡ length l.self.seen)
