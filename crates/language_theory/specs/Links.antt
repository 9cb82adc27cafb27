-- The links of a list of least words: each word without its last or its first letter is a word of
-- the list (Froidure and Pin 1997: prefix, last, first and suffix).
use Rattle.std.specs.Prelude.{◌≡◌, ◌<◌, ◌++◌, ℕ, List, [], ◌∷◌, length}
use Rattle.language_theory.specs.Words.{word_at}

-- the word at i is the word at p, its prefix, followed by a, its last letter
pub record IsPrefixLink (words : List (List ℕ)) (i p a : ℕ) : Type 0 where
  pub whole : i < length words
  pub prefix : p < length words
  pub splits : word_at words i ≡ word_at words p ++ a ∷ []

-- the word at i is a, its first letter, followed by the word at s, its suffix
pub record IsSuffixLink (words : List (List ℕ)) (i a s : ℕ) : Type 0 where
  pub whole : i < length words
  pub suffix : s < length words
  pub splits : word_at words i ≡ a ∷ word_at words s
