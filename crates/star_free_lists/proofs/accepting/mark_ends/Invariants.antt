use Rattle.std.proofs.Common.{◌≡◌, length}
use Rattle.star_free_lists.specs.Accepting.{AreMarks, mark_place}
use Rattle.star_free_lists.proofs.accepting.mark_ends.Given as goal

abbrev pub invariant-loop-end : goal.invariant-loop-end
invariant-loop-end l = AreMarks l.nodes l.word l.marks.items
    × (length l.marks.items ≡ mark_place l.word l.n l.start l.end)
