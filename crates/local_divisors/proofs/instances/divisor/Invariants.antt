use Rattle.std.proofs.Common.{◌≡◌, ℕ, ◌∷◌, length, take, map}
use Rattle.language_theory.specs.Automaton.{is_marked}
use Rattle.star_free_theory.specs.Construction.{has}
use Rattle.local_divisors.specs.Instances.{middle}
use Rattle.local_divisors.proofs.instances.divisor.Given as goal

abbrev pub invariant-loop-element : goal.invariant-loop-element
invariant-loop-element l =
    (length l.marks.items ≡ l.product.table.side)
    × ((x : ℕ) → is_marked l.marks.items x ≡ has (l.m ∷ map (middle l.product l.m)
    (take l.element-index l.elements)) x)
