use Rattle.std.proofs.Common.{◌≡◌}
use Rattle.number_set.proofs.Combining.{AreClearedBelow}
use Rattle.number_set.proofs.number_set.NumberSet.clear.Given as goal

abbrev pub invariant-loop-place : goal.invariant-loop-place
invariant-loop-place l = (l.self-inside.size ≡ l.initial.self-inside.size)
    × AreClearedBelow l.initial.self-inside.words.items l.self-inside.words.items l.place
