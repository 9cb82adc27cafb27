-- The least context that separates the words of two elements.
use Rattle.std.specs.Prelude.{◌++◌, ◌↔◌, IsTrue, ℕ, List}
use Rattle.monoid_theory.specs.Separation.{IsSeparation}
use Rattle.piecewise_testable.specs.declared.parting.Parting.{Parting}

-- the least context that separates s and t, and whether s is in L in that context
pub record IsParting (k : ℕ) (L : List ℕ → Type 0) (s t : List ℕ) (p : Parting) : Type 0 where
  pub context : IsSeparation k L s t p.u p.v
  pub first_in : IsTrue p.first_in ↔ L (p.u ++ (s ++ p.v))
