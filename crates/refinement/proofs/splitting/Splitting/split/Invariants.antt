use Rattle.std.proofs.Common.{◌≡◌, ◌<◌, length}
use Rattle.std.specs.Prelude.{All}
use Rattle.refinement.specs.SplittingState.{IsState, IsSame}
use Rattle.refinement.proofs.splitting.Splitting.split.Given as goal

abbrev pub invariant-loop-class : goal.invariant-loop-class
invariant-loop-class l = IsState l.size l.self × IsSame l.fn.self l.self
    × All (λ c. c < length l.self.members.items) l.class-items

abbrev pub invariant-loop-class-2 : goal.invariant-loop-class-2
invariant-loop-class-2 l = IsState l.size l.self
    × (l.self.class_of.items ≡ l.initial.self.class_of.items)
    × All (λ c. c < length l.self.members.items) l.class-items
