-- Green's relations of the monoid of a congruence, stated on words: equality in the monoid is the
-- congruence `same`. Where the elements are numbers, the values of words, `same u v` is `value u ≡
-- value v` (Green 1951; Pin: Green's relations).
use Rattle.std.specs.Prelude.{◌≡◌, ◌<◌, ◌++◌, ℕ, List, length, slice_index}
use Rattle.language_theory.specs.Words.{Over, word_at}

-- s is in the right ideal of t: it is t x for some x
abbrev pub IsInRightIdeal : ℕ → (List ℕ → List ℕ → Type 0) → List ℕ → List ℕ → Type 0
IsInRightIdeal k same s t = (x : List ℕ) × Over k x × same s (t ++ x)

-- s is in the left ideal of t: it is x t for some x
abbrev pub IsInLeftIdeal : ℕ → (List ℕ → List ℕ → Type 0) → List ℕ → List ℕ → Type 0
IsInLeftIdeal k same s t = (x : List ℕ) × Over k x × same s (x ++ t)

-- s is in the two-sided ideal of t: it is x t y for some x and y
abbrev pub IsInIdeal : ℕ → (List ℕ → List ℕ → Type 0) → List ℕ → List ℕ → Type 0
IsInIdeal k same s t = (x y : List ℕ) × Over k x × Over k y × same s (x ++ (t ++ y))

-- each is in the right ideal of the other
abbrev pub IsR : ℕ → (List ℕ → List ℕ → Type 0) → List ℕ → List ℕ → Type 0
IsR k same s t = IsInRightIdeal k same s t × IsInRightIdeal k same t s

-- each is in the left ideal of the other
abbrev pub IsL : ℕ → (List ℕ → List ℕ → Type 0) → List ℕ → List ℕ → Type 0
IsL k same s t = IsInLeftIdeal k same s t × IsInLeftIdeal k same t s

-- each is in the two-sided ideal of the other
abbrev pub IsJ : ℕ → (List ℕ → List ℕ → Type 0) → List ℕ → List ℕ → Type 0
IsJ k same s t = IsInIdeal k same s t × IsInIdeal k same t s

-- both R and L
abbrev pub IsH : ℕ → (List ℕ → List ℕ → Type 0) → List ℕ → List ℕ → Type 0
IsH k same s t = IsR k same s t × IsL k same s t

-- R and then L: s R z and z L t for some z
abbrev pub IsD : ℕ → (List ℕ → List ℕ → Type 0) → List ℕ → List ℕ → Type 0
IsD k same s t = (z : List ℕ) × Over k z × IsR k same s z × IsL k same z t

-- s s is s
abbrev pub IsIdempotent : (List ℕ → List ℕ → Type 0) → List ℕ → Type 0
IsIdempotent same s = same (s ++ s) s

-- the places of the listed words that are related to s, each once, in rising order: of H, the
-- elements of a cell
pub record AreMembers (relation : List ℕ → List ℕ → Type 0) (words : List (List ℕ)) (s : List ℕ)
    (places : List ℕ) : Type 0 where
  pub within : (n : ℕ) → n < length places → slice_index places n < length words
  pub rise : (m n : ℕ) → m < n → n < length places → slice_index places m < slice_index places n
  pub each : (n : ℕ) → n < length places → relation (word_at words (slice_index places n)) s
  pub all : (i : ℕ) → i < length words → relation (word_at words i) s
      → (n : ℕ) × (n < length places) × (slice_index places n ≡ i)

-- each class of a relation such as R, L or J has one element
pub record IsTrivial (k : ℕ) (same relation : List ℕ → List ℕ → Type 0) : Type 0 where
  pub one : (s t : List ℕ) → Over k s → Over k t → relation s t → same s t

abbrev pub IsRTrivial : ℕ → (List ℕ → List ℕ → Type 0) → Type 0
IsRTrivial k same = IsTrivial k same (IsR k same)

abbrev pub IsLTrivial : ℕ → (List ℕ → List ℕ → Type 0) → Type 0
IsLTrivial k same = IsTrivial k same (IsL k same)

abbrev pub IsJTrivial : ℕ → (List ℕ → List ℕ → Type 0) → Type 0
IsJTrivial k same = IsTrivial k same (IsJ k same)
