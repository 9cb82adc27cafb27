use Rattle.std.proofs.Common.{◌≡◌}
use Rattle.star_free_theory.specs.Construction.{count_from}
use Rattle.local_divisors.proofs.constructing.numbers.Given as goal

abbrev pub invariant-loop-number : goal.invariant-loop-number
invariant-loop-number l = l.numbers.items ≡ count_from 0 l.number
