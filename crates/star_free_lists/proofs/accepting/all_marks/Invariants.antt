use Rattle.std.proofs.Common.{◌≡◌, length}
use Rattle.star_free_lists.specs.Accepting.{AreMarks, mark_place}
use Rattle.star_free_lists.proofs.accepting.all_marks.Given as goal

abbrev pub invariant-loop-n : goal.invariant-loop-n
invariant-loop-n l = AreMarks l.nodes l.word l.marks.items
    × (length l.marks.items ≡ mark_place l.word l.n 0 0)
