-- A worked language: (ab)* over the letters a = 0 and b = 1.
use Rattle.std.specs.Prelude.{◌≡◌, ℕ, true, false, List, [], ◌∷◌}
use Rattle.language_theory.specs.Words.{power}
use Rattle.language_theory.specs.Nerode.{MinimalAutomaton}

-- some number of times ab
abbrev pub IsAbStar : List ℕ → Type 0
IsAbStar w = (n : ℕ) × (power n (0 ∷ 1 ∷ []) ≡ w)

-- its minimal automaton: the nodes of the empty word, of a, and of b, which is never left
abbrev pub ab_star : MinimalAutomaton
ab_star = record {
  graph = record { size = 3; letters = 2; targets = 1 ∷ 2 ∷ 2 ∷ 0 ∷ 2 ∷ 2 ∷ [] };
  finals = true ∷ false ∷ false ∷ [];
  words = [] ∷ (0 ∷ []) ∷ (1 ∷ []) ∷ [];
}
