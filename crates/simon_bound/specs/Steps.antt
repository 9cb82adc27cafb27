-- Steps down from one class of J to another: a letter before or behind an element leads from its
-- class into a class strictly below.
use Rattle.std.specs.Prelude.{◌≡◌, ◌≢◌, ◌<◌, ◌≤◌, ◌+◌, ◌-◌, ◌++◌, ◌⊎◌, ℕ, List, length, slice_index}
use Rattle.std.specs.Prelude.{take, drop}
use Rattle.language_theory.specs.ShortlexGraph.{target}
use Rattle.cayley_tables.specs.CayleyGraphs.{CayleyGraphs}

-- the label of the class that the letter a leads into, from the element x and on either side
abbrev pub IsSide : CayleyGraphs → List ℕ → ℕ → ℕ → ℕ → Type 0
IsSide g labels x a t = (t ≡ slice_index labels (target g.right x a))
    ⊎ (t ≡ slice_index labels (target g.left x a))

-- one of the first b letters leads from the element x into another class, that with the label t
pub record IsStep (g : CayleyGraphs) (labels : List ℕ) (b x t : ℕ) : Type 0 where
  pub letter : ℕ
  pub below : letter < b
  pub into : IsSide g labels x letter t
  pub other : slice_index labels x ≢ t

-- a letter leads from a member of the class c, not less than r, into the class t
pub record IsStepDown (g : CayleyGraphs) (labels : List ℕ) (r c t : ℕ) : Type 0 where
  pub member : ℕ
  pub from : r ≤ member
  pub within : member < length g.words
  pub inside : slice_index labels member ≡ c
  pub step : IsStep g labels g.right.letters member t

-- the list gained numbers that have a property, and all that have it
pub record Gains (has : ℕ → Type 0) (old new : List ℕ) : Type 0 where
  pub more : List ℕ
  pub joined : new ≡ old ++ more
  pub each : (p : ℕ) → p < length more → has (slice_index more p)
  pub all : (t : ℕ) → has t → (p : ℕ) × (p < length more) × (slice_index more p ≡ t)

-- the numbers at the places from `from` to before `to` are those that have a property
pub record IsRow (has : ℕ → Type 0) (from to : ℕ) (list : List ℕ) : Type 0 where
  pub order : from ≤ to
  pub inside : to ≤ length list
  pub each : (p : ℕ) → from ≤ p → p < to → has (slice_index list p)
  pub all : (t : ℕ) → has t → (p : ℕ) × (from ≤ p) × (p < to) × (slice_index list p ≡ t)

-- For each of the first i labels the labels that a step leads to, one row after another: `starts`
-- has where each row starts, and where the last one ends.
pub record AreSteps (g : CayleyGraphs) (labels : List ℕ) (i : ℕ) (starts classes : List ℕ)
    : Type 0 where
  pub long : length starts ≡ i + 1
  pub end : slice_index starts i ≡ length classes
  pub row : (c : ℕ) → c < i
      → IsRow (IsStepDown g labels 0 c) (slice_index starts c) (slice_index starts (c + 1)) classes

-- the row of the label c
abbrev pub row_at : List ℕ → List ℕ → ℕ → List ℕ
row_at starts classes c =
    take (slice_index starts (c + 1) - slice_index starts c) (drop (slice_index starts c) classes)
