use Rattle.std.proofs.Common.{length, take}
use Rattle.expression_theory.specs.FirstLast.{has}
use Rattle.number_set.specs.Marks.{HasGained}
use Rattle.regex_reader.proofs.marks.insert_all.Given as goal

abbrev pub invariant-loop-number : goal.invariant-loop-number
invariant-loop-number l = HasGained l.fn.set l.set (length l.fn.set) (has (take l.number-index l.numbers))
