-- The classes of a relation between words, each given by its least word (Froidure and Pin 1997:
-- reduced words).
use Rattle.std.specs.Prelude.{◌≡◌, ◌<◌, ◌↔◌, ℕ, List, length}
use Rattle.language_theory.specs.Words.{Over, ◌⊏◌, word_at}

-- the listed word at place i is the only one related to w
pub record IsPlaceOf (same : List ℕ → List ℕ → Type 0) (words : List (List ℕ)) (w : List ℕ)
    (i : ℕ) : Type 0 where
  pub within : i < length words
  pub related : same (word_at words i) w
  pub only : (j : ℕ) → j < length words → same (word_at words j) w → j ≡ i

-- The list rises strictly in shortlex order, each word over k letters is related to exactly one
-- listed word, and no listed word is greater than a word that it is related to.
pub record AreRepresentatives (k : ℕ) (same : List ℕ → List ℕ → Type 0)
    (words : List (List ℕ)) : Type 0 where
  pub over : (i : ℕ) → i < length words → Over k (word_at words i)
  pub rise : (i j : ℕ) → i < j → j < length words → word_at words i ⊏ word_at words j
  pub place : (w : List ℕ) → Over k w → (i : ℕ) × IsPlaceOf same words w i
  pub least : (i : ℕ) (w : List ℕ) → i < length words → Over k w → same (word_at words i) w
      → ¬ (w ⊏ word_at words i)

-- no smaller word is related to w
pub record IsReduced (k : ℕ) (same : List ℕ → List ℕ → Type 0) (w : List ℕ) : Type 0 where
  pub over : Over k w
  pub least : (v : List ℕ) → Over k v → same v w → ¬ (v ⊏ w)

-- words over k letters, no two of them related
pub record AreApart (k : ℕ) (same : List ℕ → List ℕ → Type 0) (words : List (List ℕ)) : Type 0 where
  pub over : (i : ℕ) → i < length words → Over k (word_at words i)
  pub apart : (i j : ℕ) → i < j → j < length words → ¬ same (word_at words i) (word_at words j)

-- there are more than n classes
abbrev pub HasMoreClasses : ℕ → (List ℕ → List ℕ → Type 0) → ℕ → Type 0
HasMoreClasses k same n = (words : List (List ℕ)) × (n < length words) × AreApart k same words

-- two relations have the same number of classes
pub record HaveAsManyClasses (k : ℕ) (same other : List ℕ → List ℕ → Type 0) : Type 0 where
  pub both : (n : ℕ) → HasMoreClasses k same n ↔ HasMoreClasses k other n
