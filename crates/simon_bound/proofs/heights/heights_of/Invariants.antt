use Rattle.simon_bound.specs.Heights.{Holds, work}
use Rattle.simon_bound.proofs.heights.heights_of.Given as goal

abbrev pub invariant-loop-search : goal.invariant-loop-search
invariant-loop-search l = Holds l.nodes l.steps.starts.items l.steps.classes.items l.search

abbrev pub decreases-loop-search : goal.decreases-loop-search
decreases-loop-search l = work l.nodes l.steps.classes.items l.search
