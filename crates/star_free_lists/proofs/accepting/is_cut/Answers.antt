use Rattle.std.proofs.Common.{arith}
use Rattle.star_free_lists.proofs.Factors.{mark_within}
use Rattle.star_free_lists.proofs.accepting.is_cut.Goals as goal

pub mark-requires-then-mark : goal.mark-requires-then-mark
mark-requires-then-mark c =
    let r = c.requires in
    mark_within c.args.word.now c.args.marks.now c.args.right r.count c.loop-middle.middle
    c.args.end r.below.1 (omega arith) r.within r.long
