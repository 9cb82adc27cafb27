-- Words that are told apart at every level, and so show that a language is not locally testable (after
-- Brzozowski and Simon 1973, McNaughton 1974).
use Rattle.std.specs.Prelude.{◌≤◌, ◌↔◌, ℕ, IsTrue, List}
use Rattle.language_theory.specs.Languages.{ExactlyOne}
use Rattle.answers.specs.declared.factors.LtKind.{LtKind}
use Rattle.answers.specs.declared.factors.LtKind.TheVariants as kind
use Rattle.answers.specs.declared.factors.LtWitness.{LtWitness}
use Rattle.factor_keys.specs.Keys.{SameKey}
use Rattle.factor_keys.specs.Walls.{with_one, with_two}

-- exactly one of the words s and t is in L, and they have the same key at each level from 1 to n
pub record AreToldApart (L : List ℕ → Type 0) (n : ℕ) (s t : List ℕ) : Type 0 where
  pub keys : (m : ℕ) → 1 ≤ m → m ≤ n → SameKey m s t
  pub one : ExactlyOne (L s) (L t)

abbrev pub first_of : LtKind → ℕ → LtWitness → List ℕ
first_of kind.Repeat n w = with_one n w.u w.x w.y w.v
first_of kind.Swap n w = with_two n w.u w.x w.y w.z w.v

abbrev pub second_of : LtKind → ℕ → LtWitness → List ℕ
second_of kind.Repeat n w = with_two n w.u w.x w.y w.y w.v
second_of kind.Swap n w = with_two n w.u w.x w.z w.y w.v

-- the two words of a witness for n
abbrev pub first_word : ℕ → LtWitness → List ℕ
first_word n w = first_of w.kind n w

abbrev pub second_word : ℕ → LtWitness → List ℕ
second_word n w = second_of w.kind n w

-- The two words of a witness are told apart for each n from 1 on, and `first_in` tells whether the
-- first of them is in L.
pub record ShowsNotTestable (L : List ℕ → Type 0) (w : LtWitness) : Type 0 where
  pub apart : (n : ℕ) → 1 ≤ n → AreToldApart L n (first_word n w) (second_word n w)
  pub first : (n : ℕ) → 1 ≤ n → IsTrue w.first_in ↔ L (first_word n w)
