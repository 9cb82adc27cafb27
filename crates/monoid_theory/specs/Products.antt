-- Products of classes, and multiplication by one letter (Froidure and Pin 1997: the right and the
-- left Cayley graph). A class is named by its place in a list of representatives.
use Rattle.std.specs.Prelude.{◌≡◌, ◌<◌, ◌*◌, ◌++◌, ℕ, List, [], ◌∷◌, length}
use Rattle.language_theory.specs.Words.{word_at}
use Rattle.language_theory.specs.Representatives.{IsPlaceOf}
use Rattle.language_theory.specs.ShortlexGraph.{Graph, target}

-- i and j are places, and r is the place of the word at i followed by the word at j
pub record IsProduct (same : List ℕ → List ℕ → Type 0) (words : List (List ℕ))
    (i j r : ℕ) : Type 0 where
  pub left : i < length words
  pub right : j < length words
  pub place : IsPlaceOf same words (word_at words i ++ word_at words j) r

-- i is a place, and r is the place of the word at i followed by the letter a
pub record IsRight (same : List ℕ → List ℕ → Type 0) (words : List (List ℕ))
    (i a r : ℕ) : Type 0 where
  pub within : i < length words
  pub place : IsPlaceOf same words (word_at words i ++ a ∷ []) r

-- i is a place, and r is the place of the letter a followed by the word at i
pub record IsLeft (same : List ℕ → List ℕ → Type 0) (words : List (List ℕ))
    (a i r : ℕ) : Type 0 where
  pub within : i < length words
  pub place : IsPlaceOf same words (a ∷ word_at words i) r

-- the right Cayley graph: an edge with the letter a leads from i to the place of the word at i
-- followed by a
pub record IsRightGraph (k : ℕ) (same : List ℕ → List ℕ → Type 0) (words : List (List ℕ))
    (g : Graph) : Type 0 where
  pub size : g.size ≡ length words
  pub letters : g.letters ≡ k
  pub long : length g.targets ≡ g.size * g.letters
  pub edge : (i a : ℕ) → i < length words → a < k → IsRight same words i a (target g i a)

-- the left Cayley graph: an edge with the letter a leads from i to the place of a followed by the
-- word at i
pub record IsLeftGraph (k : ℕ) (same : List ℕ → List ℕ → Type 0) (words : List (List ℕ))
    (g : Graph) : Type 0 where
  pub size : g.size ≡ length words
  pub letters : g.letters ≡ k
  pub long : length g.targets ≡ g.size * g.letters
  pub edge : (i a : ℕ) → i < length words → a < k → IsLeft same words a i (target g i a)
