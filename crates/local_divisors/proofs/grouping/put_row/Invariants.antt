use Rattle.std.proofs.Common.{drop}
use Rattle.local_divisors.specs.Instances.{IsRowPut}
use Rattle.local_divisors.proofs.grouping.put_row.Given as goal

abbrev pub invariant-loop-n : goal.invariant-loop-n
invariant-loop-n l = IsRowPut l.product l.r (drop l.n l.ts) l.fn.groups l.groups
