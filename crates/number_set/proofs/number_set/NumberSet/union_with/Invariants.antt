use Rattle.std.proofs.Common.{◌≡◌, bit_or}
use Rattle.number_set.proofs.Combining.{AreCombinedBelow}
use Rattle.number_set.proofs.number_set.NumberSet.union_with.Given as goal

abbrev pub invariant-loop-place : goal.invariant-loop-place
invariant-loop-place l = (l.self-inside.size ≡ l.initial.self-inside.size)
    × (l.self-inside.first ≡ l.initial.self-inside.first)
    × (l.self-inside.last ≡ l.initial.self-inside.last) × AreCombinedBelow bit_or l.initial.self-inside.words.items l.other-inside.words.items
    l.self-inside.words.items l.place
