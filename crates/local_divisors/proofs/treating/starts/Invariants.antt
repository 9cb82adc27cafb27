use Rattle.std.proofs.Common.{take}
use Rattle.local_divisors.specs.Finishing.{AreStarts}
use Rattle.local_divisors.proofs.treating.starts.Given as goal

abbrev pub invariant-loop-element : goal.invariant-loop-element
invariant-loop-element l = AreStarts (take l.element-index l.submonoid) l.first l.starts.items
