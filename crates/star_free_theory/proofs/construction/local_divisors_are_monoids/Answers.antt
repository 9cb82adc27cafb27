use Rattle.std.proofs.Common.{IsTrue}
use Rattle.star_free_theory.proofs.LocalDivisor.{local_monoid}
use Rattle.star_free_theory.proofs.construction.local_divisors_are_monoids.Goals as goal

pub returns : goal.returns
returns c els mul loc one m h i l = local_monoid (λ x. IsTrue (els x)) mul one h m i loc l
