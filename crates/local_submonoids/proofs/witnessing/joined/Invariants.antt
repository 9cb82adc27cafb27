-- what is written, with what is still to be written, is both words
use Rattle.std.proofs.Common.{◌≡◌, ◌++◌, drop}
use Rattle.local_submonoids.proofs.witnessing.joined.Given as goal

abbrev pub invariant-loop-letter : goal.invariant-loop-letter
invariant-loop-letter l = l.whole ++ drop l.letter-index l.second ≡ l.first ++ l.second
