use Rattle.std.proofs.Common.{◌≡◌}
use Rattle.std.specs.Prelude.{All}
use Rattle.refinement.specs.Splitting.{IsInverseOf}
use Rattle.refinement.proofs.inverse.inverses.Given as goal

abbrev pub invariant-loop-letter : goal.invariant-loop-letter
invariant-loop-letter l = (l.letter-end ≡ l.graph.letters)
    × All (IsInverseOf l.graph) l.inverses.items
