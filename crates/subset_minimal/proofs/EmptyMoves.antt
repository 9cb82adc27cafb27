-- Empty moves taken in: the minimal automaton and the number of subsets stay.
use Rattle.std.proofs.Common.{ℕ, ◌↔◌, subst}
use Rattle.language_theory.specs.Automaton.{Automaton, Accepts, SameSubset, HasMovesTakenIn}
use Rattle.language_theory.specs.Nerode.{MinimalAutomaton, IsMinimal}
use Rattle.language_theory.specs.Representatives.{HasMoreClasses}
use Rattle.language_theory.proofs.Congruences.{other_direction}
use Rattle.language_theory.proofs.Automata.{taken_in_subset, taken_in_accepts}
use Rattle.language_theory.proofs.Minimal.{agreeing_minimal}
use Rattle.language_theory.proofs.Representatives.{agreeing_classes}

module _ (m n : Automaton) (h : HasMovesTakenIn m n) where
  pub taken_in_minimal : (d : MinimalAutomaton) → IsMinimal n.letters (Accepts n) d
      → IsMinimal m.letters (Accepts m) d
  taken_in_minimal d minimal =
      agreeing_minimal m.letters (Accepts n) (Accepts m) d
      (record { both = λ w o. other_direction (taken_in_accepts m n h w) })
      (subst (λ (k : ℕ). IsMinimal k (Accepts n) d) h.letters minimal)

  pub taken_in_classes : (count : ℕ) → HasMoreClasses n.letters (SameSubset n) count
      ↔ HasMoreClasses m.letters (SameSubset m) count
  taken_in_classes count =
      subst (λ (k : ℕ). HasMoreClasses n.letters (SameSubset n) count
      ↔ HasMoreClasses k (SameSubset m) count) h.letters
      ((agreeing_classes n.letters (SameSubset n) (SameSubset m)
      (record { both = λ u v ou ov. other_direction (taken_in_subset m n h u v) })).both count)
