-- Worked monoids: that of (ab)* over the letters a = 0 and b = 1, and that of the words of even
-- length over one letter a.
use Rattle.std.specs.Prelude.{◌≡◌, ℕ, List, [], ◌∷◌}
use Rattle.language_theory.specs.Words.{power}
use Rattle.language_theory.specs.ShortlexGraph.{Graph}

-- the right Cayley graph of the syntactic monoid of (ab)*: the nodes of 1, a, b, aa, ab and ba
abbrev pub ab_star_monoid : Graph
ab_star_monoid =
    record { size = 6; letters = 2; targets = 1 ∷ 2 ∷ 3 ∷ 4 ∷ 5 ∷ 3 ∷ 3 ∷ 3 ∷ 1 ∷ 3 ∷ 3 ∷ 2 ∷ [] }

abbrev pub ab_star_elements : List (List ℕ)
ab_star_elements = [] ∷ (0 ∷ []) ∷ (1 ∷ []) ∷ (0 ∷ 0 ∷ []) ∷ (0 ∷ 1 ∷ []) ∷ (1 ∷ 0 ∷ []) ∷ []

-- its rules: bb to aa, aaa to aa, aab to aa, aba to a, baa to aa, bab to b
abbrev pub ab_star_rules : List (List ℕ × ℕ)
ab_star_rules =
    (1 ∷ 1 ∷ [], 3) ∷ (0 ∷ 0 ∷ 0 ∷ [], 3) ∷ (0 ∷ 0 ∷ 1 ∷ [], 3)
    ∷ (0 ∷ 1 ∷ 0 ∷ [], 1) ∷ (1 ∷ 0 ∷ 0 ∷ [], 3) ∷ (1 ∷ 0 ∷ 1 ∷ [], 2) ∷ []

-- some number of times aa, over the one letter a
abbrev pub IsEven : List ℕ → Type 0
IsEven w = (n : ℕ) × (power n (0 ∷ 0 ∷ []) ≡ w)
