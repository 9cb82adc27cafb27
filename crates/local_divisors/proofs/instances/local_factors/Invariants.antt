use Rattle.std.proofs.Common.{take}
use Rattle.local_divisors.specs.Instances.{AreLocalFactors}
use Rattle.local_divisors.proofs.instances.local_factors.Given as goal

abbrev pub invariant-loop-element : goal.invariant-loop-element
invariant-loop-element l = AreLocalFactors l.product l.m (take l.element-index l.elements)
    l.factors.items
