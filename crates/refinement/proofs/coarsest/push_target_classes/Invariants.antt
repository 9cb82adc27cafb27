use Rattle.std.proofs.Common.{◌≡◌, ◌++◌}
use Rattle.refinement.specs.Refinement.{target_classes}
use Rattle.refinement.proofs.coarsest.push_target_classes.Given as goal

abbrev pub invariant-loop-letter : goal.invariant-loop-letter
invariant-loop-letter l =
    (l.letter-end ≡ l.graph.letters)
    × (l.into.items ≡ l.fn.into.items ++ target_classes l.graph l.classes l.node l.letter)
