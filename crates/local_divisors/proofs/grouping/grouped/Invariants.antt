use Rattle.std.proofs.Common.{drop}
use Rattle.local_divisors.specs.Instances.{AreGroups}
use Rattle.local_divisors.proofs.grouping.grouped.Given as goal

abbrev pub invariant-loop-n : goal.invariant-loop-n
invariant-loop-n l = AreGroups l.product (drop l.n l.rs) l.ts l.groups
