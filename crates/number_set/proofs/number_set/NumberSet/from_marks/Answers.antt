use Rattle.std.proofs.Common.{rules}
use Rattle.number_set.proofs.Packing.{all_taken}
use Rattle.number_set.proofs.number_set.NumberSet.from_marks.Goals as goal

pub returns : goal.returns
returns c = all_taken c.args.marks.now c.loop-number.set c.loop-number.number (search rules)
    c.loop-number.invariant
