use Rattle.std.proofs.Common.{ℕ, List}
use Rattle.star_free_lists.specs.Pruning.{AreKept}
use Rattle.star_free_lists.proofs.pruning.kept.Given as goal

abbrev pub invariant-loop-n : goal.invariant-loop-n
invariant-loop-n l = (kept : List ℕ) × AreKept l.nodes l.marks l.n kept l.kept.items l.places.items
