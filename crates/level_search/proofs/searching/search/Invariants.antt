-- the levels so far have no answer
use Rattle.std.proofs.Common.{◌≡◌, ◌≤◌, ◌+◌}
use Rattle.language_theory.specs.Nerode.{accepted}
use Rattle.level_search.specs.Levels.{AreSilent}
use Rattle.level_search.proofs.searching.search.Given as goal

abbrev pub invariant-loop-level : goal.invariant-loop-level
invariant-loop-level g l =
    let k = l.dfa.graph.letters in
    AreSilent k (accepted l.dfa) (g.Q.Quotient.width k) (g.Q.Quotient.same k) l.max_pairs
    l.first_level l.level
    × (l.first_level ≤ l.level)
    × (l.level ≤ l.max_level + 1)
    × (l.level-end ≡ l.max_level + 1)
