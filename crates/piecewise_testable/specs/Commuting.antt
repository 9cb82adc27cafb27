-- Commutative monoids, and letters that do not commute. Which letters and which context stand for
-- all, the least ones, is this project's choice.
use Rattle.std.specs.Prelude.{◌<◌, ◌++◌, ◌↔◌, ℕ, IsTrue, List, [], ◌∷◌, Option, Some, None}
use Rattle.language_theory.specs.Words.{Over}
use Rattle.language_theory.specs.Congruence.{Syntactic}
use Rattle.monoid_theory.specs.Separation.{IsSeparation}
use Rattle.answers.specs.declared.commuting.CWitness.{CWitness}
use Rattle.piecewise_testable.specs.Sides.{IsLeastLetter}

-- s t is t s for all elements
pub record IsCommutative (k : ℕ) (same : List ℕ → List ℕ → Type 0) : Type 0 where
  pub commute : (s t : List ℕ) → Over k s → Over k t → same (s ++ t) (t ++ s)

-- a b is b a
abbrev pub Commute : (List ℕ → List ℕ → Type 0) → ℕ → ℕ → Type 0
Commute same a b = same (a ∷ b ∷ []) (b ∷ a ∷ [])

-- some letter does not commute with a
abbrev pub HasSwap : ℕ → (List ℕ → List ℕ → Type 0) → ℕ → Type 0
HasSwap k same a = (b : ℕ) × (b < k) × ¬ Commute same a b

-- the least letters that do not commute, the least context that separates a b from b a, and
-- whether u a b v is in the language
pub record IsCommutativeWitness (k : ℕ) (L : List ℕ → Type 0) (w : CWitness) : Type 0 where
  pub first : IsLeastLetter k (HasSwap k (Syntactic k L)) w.a
  pub second : IsLeastLetter k (λ b. ¬ Commute (Syntactic k L) w.a b) w.b
  pub context : IsSeparation k L (w.a ∷ w.b ∷ []) (w.b ∷ w.a ∷ []) w.u w.v
  pub first_in : IsTrue w.first_in ↔ L (w.u ++ ((w.a ∷ w.b ∷ []) ++ w.v))

-- the monoid of L is commutative, or w shows that it is not
abbrev pub IsCommutativeAnswer : ℕ → (List ℕ → Type 0) → Option CWitness → Type 0
IsCommutativeAnswer k L None = IsCommutative k (Syntactic k L)
IsCommutativeAnswer k L (Some w) = IsCommutativeWitness k L w
