-- The rows of images of elements.
use Rattle.std.specs.Prelude.{ℕ, List}
use Rattle.language_theory.specs.Words.{word_at}

-- the row at a place of a list of rows
abbrev pub row_at : List (List ℕ) → ℕ → List ℕ
row_at rows i = word_at rows i
