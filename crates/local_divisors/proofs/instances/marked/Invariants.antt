use Rattle.std.proofs.Common.{◌≡◌, ◌++◌, drop}
use Rattle.language_theory.specs.Automaton.{is_marked}
use Rattle.star_free_theory.specs.Construction.{keep}
use Rattle.local_divisors.proofs.instances.marked.Given as goal

abbrev pub invariant-loop-element : goal.invariant-loop-element
invariant-loop-element l = l.marked.items ++ keep (is_marked l.marks)
    (drop l.element-index l.elements) ≡ keep (is_marked l.marks) l.elements
