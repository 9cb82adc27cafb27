use Rattle.std.proofs.Common.{◌≡◌, ◌++◌, drop}
use Rattle.star_free_theory.specs.Construction.{without}
use Rattle.local_divisors.proofs.instances.others.Given as goal

abbrev pub invariant-loop-letter : goal.invariant-loop-letter
invariant-loop-letter l = l.others.items ++ without l.chosen (drop l.letter-index l.letters)
    ≡ without l.chosen l.letters
