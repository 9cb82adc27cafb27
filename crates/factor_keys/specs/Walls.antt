-- Words whose parts stand between long powers of one word.
use Rattle.std.specs.Prelude.{◌++◌, ℕ, List}
use Rattle.language_theory.specs.Words.{power}

-- u x^n y x^n v
abbrev pub with_one : ℕ → List ℕ → List ℕ → List ℕ → List ℕ → List ℕ
with_one n u x y v = u ++ (power n x ++ (y ++ (power n x ++ v)))

-- u x^n y x^n z x^n v
abbrev pub with_two : ℕ → List ℕ → List ℕ → List ℕ → List ℕ → List ℕ → List ℕ
with_two n u x y z v = u ++ (power n x ++ (y ++ (power n x ++ (z ++ (power n x ++ v)))))
