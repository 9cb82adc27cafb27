use Rattle.language_theory.specs.ShortlexGraph.{IsGraph}
use Rattle.refinement.proofs.Firsts.{AreTargetsOf}
use Rattle.refinement.proofs.quotients.quotient.Given as goal

abbrev pub invariant-loop-first : goal.invariant-loop-first
invariant-loop-first l = IsGraph l.graph × AreTargetsOf l.graph l.partition.count
    l.partition.classes l.firsts l.first-index l.targets.items
