-- Egg-box diagrams (Clifford and Preston; Pin: the egg-box picture of a D-class).
use Rattle.std.specs.Prelude.{◌≡◌, ◌<◌, ◌≤◌, ℕ, List, [], length, slice_index, slice_index_or}
use Rattle.language_theory.specs.Words.{word_at}
use Rattle.monoid_theory.specs.Green.{IsR, IsL, IsJ}
use Rattle.green_relations.specs.GreenClasses.{GreenClasses}

-- a box is a list of rows, a row a list of cells, and a cell a list of elements
abbrev pub box_at : List (List (List (List ℕ))) → ℕ → List (List (List ℕ))
box_at boxes n = slice_index_or boxes n []

abbrev pub row_at : List (List (List ℕ)) → ℕ → List (List ℕ)
row_at box row = slice_index_or box row []

abbrev pub cell_at : List (List ℕ) → ℕ → List ℕ
cell_at row column = slice_index_or row column []

-- xs are just the numbers below n that have a property, in rising order
pub record AreJust (n : ℕ) (has : ℕ → Type 0) (xs : List ℕ) : Type 0 where
  pub within : (k : ℕ) → k < length xs → slice_index xs k < n
  pub rise : (k m : ℕ) → k < m → m < length xs → slice_index xs k < slice_index xs m
  pub each : (k : ℕ) → k < length xs → has (slice_index xs k)
  pub all : (i : ℕ) → i < n → has i → (k : ℕ) × (k < length xs) × (slice_index xs k ≡ i)

-- no element below n that is related to i is less than i
abbrev pub IsFirst : ℕ → (ℕ → ℕ → Type 0) → ℕ → Type 0
IsFirst n related i = (m : ℕ) → m < n → related m i → i ≤ m

-- The box of the class of `top` in J: its rows are the classes of R in it, and its columns those of
-- L, both in order of their least elements. A cell has the elements that its row and its column
-- have in common, and no cell is empty.
pub record IsBox (n : ℕ) (r l j : ℕ → ℕ → Type 0) (top : ℕ) (box : List (List (List ℕ))) : Type 0
  where
    pub rows : List ℕ
    pub columns : List ℕ
    pub firsts_of_rows : AreJust n (λ i. IsFirst n r i × j i top) rows
    pub firsts_of_columns : AreJust n (λ i. IsFirst n l i × j i top) columns
    pub height : length box ≡ length rows
    pub width : (y : ℕ) → y < length rows → length (row_at box y) ≡ length columns
    pub cell : (y x : ℕ) → y < length rows → x < length columns
        → AreJust n (λ i. r i (slice_index rows y) × l i (slice_index columns x))
        (cell_at (row_at box y) x)
    pub some : (y x : ℕ) → y < length rows → x < length columns
        → 0 < length (cell_at (row_at box y) x)

-- a box for each class of J, in order of their least elements; r, l and j relate the elements below
-- n that are in one class of R, L and J
pub record IsDiagram (n : ℕ) (r l j : ℕ → ℕ → Type 0) (boxes : List (List (List (List ℕ))))
    : Type 0 where
  pub tops : List ℕ
  pub firsts : AreJust n (IsFirst n j) tops
  pub count : length boxes ≡ length tops
  pub box : (b : ℕ) → b < length tops → IsBox n r l j (slice_index tops b) (box_at boxes b)

-- elements with one label are related
abbrev pub Share : List ℕ → ℕ → ℕ → Type 0
Share labels i m = slice_index labels i ≡ slice_index labels m

-- the words at two places are related
abbrev pub RelatesAt : (List ℕ → List ℕ → Type 0) → List (List ℕ) → ℕ → ℕ → Type 0
RelatesAt relation words i m = relation (word_at words i) (word_at words m)

-- the egg-box diagram of the classes that the labels name
abbrev pub AreBoxesOf : GreenClasses → List (List (List (List ℕ))) → Type 0
AreBoxesOf g = IsDiagram (length g.r) (Share g.r) (Share g.l) (Share g.j)

-- the egg-box diagram of the monoid of a congruence
abbrev pub AreEggBoxes : ℕ → (List ℕ → List ℕ → Type 0) → List (List ℕ)
    → List (List (List (List ℕ))) → Type 0
AreEggBoxes k same words = IsDiagram (length words) (RelatesAt (IsR k same) words)
    (RelatesAt (IsL k same) words) (RelatesAt (IsJ k same) words)
