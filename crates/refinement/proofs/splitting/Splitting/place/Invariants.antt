use Rattle.std.proofs.Common.{◌≡◌, ◌<◌, length, take}
use Rattle.std.specs.Prelude.{All}
use Rattle.refinement.specs.Splitting.{AreGoals, IsMovedBy}
use Rattle.refinement.specs.SplittingState.{IsState}
use Rattle.refinement.proofs.splitting.Splitting.place.Given as goal

abbrev pub invariant-loop-at : goal.invariant-loop-at
invariant-loop-at l = IsState l.size l.self × (l.at-end ≡ length l.nodes)
    × (length l.self.members.items ≡ length l.fn.self.members.items)
    × AreGoals l.fn.self.goals.items l.fn.self.class_of.items l.nodes (length l.nodes) l.goals
    × All (λ i. i < l.size) l.nodes × IsMovedBy l.size l.fn.self.goals.items (take l.at l.nodes)
    l.fn.self.class_of.items l.self.class_of.items
