-- the marks so far
use Rattle.std.proofs.Common.{◌≡◌, take}
use Rattle.number_set.proofs.number_set.NumberSet.to_marks.Given as goal

abbrev pub invariant-loop-number : goal.invariant-loop-number
invariant-loop-number l = l.marks.items ≡ take l.number l.self
