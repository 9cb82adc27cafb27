use Rattle.std.proofs.Common.{◌<◌, arith, subst}
use Rattle.star_free_theory.specs.StarFree.{NamesBelow}
use Rattle.star_free_lists.proofs.Factors.{mark_within}
use Rattle.star_free_lists.proofs.accepting.tells.Goals as goal

pub mark-requires-else-mark : goal.mark-requires-else-mark
mark-requires-else-mark c =
    let r = c.requires in
    let below : (c.in-Or.left < r.count) × (c.in-Or.right < r.count) =
    subst (NamesBelow r.count) c.in-Or.is r.below in
    mark_within c.args.word.now c.args.marks.now c.in-Or.right r.count c.args.start c.args.end
    below.1 (omega arith) r.within r.long

pub mark-requires-then-mark-2 : goal.mark-requires-then-mark-2
mark-requires-then-mark-2 c =
    let r = c.requires in
    let below : (c.in-And.left < r.count) × (c.in-And.right < r.count) =
    subst (NamesBelow r.count) c.in-And.is r.below in
    mark_within c.args.word.now c.args.marks.now c.in-And.right r.count c.args.start c.args.end
    below.1 (omega arith) r.within r.long
