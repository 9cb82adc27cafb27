use Rattle.number_set.proofs.Combining.{AreApartBelow}
use Rattle.number_set.proofs.number_set.NumberSet.meets.Given as goal

abbrev pub invariant-loop-place : goal.invariant-loop-place
invariant-loop-place l =
    AreApartBelow l.self-inside.words.items l.other-inside.words.items l.place
