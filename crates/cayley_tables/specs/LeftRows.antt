-- How the left Cayley graph is filled row by row: a letter before a word leads where the letter
-- before the word's prefix leads, and from there its last letter.
use Rattle.std.specs.Prelude.{◌≡◌, ◌<◌, ◌≤◌, ◌+◌, ◌*◌, ◌++◌, ℕ, zero, suc, List, [], ◌∷◌, Option, Some, length, slice_index}
use Rattle.language_theory.specs.Words.{Over, ◌⊏◌, word_at}
use Rattle.cayley_tables.specs.Links.{LinkLists, AreLinks}

-- What is known of the right Cayley graph: the numbers of listed words with a letter behind them,
-- as far as `right` goes. No number has a greater word than the one that leads to it.
pub record AreRightNumbers (k : ℕ) (number : List ℕ → Option ℕ) (words : List (List ℕ))
    (right : List ℕ) : Type 0 where
  pub over : (i : ℕ) → i < length words → Over k (word_at words i)
  pub rise : (i j : ℕ) → i < j → j < length words → word_at words i ⊏ word_at words j
  pub own : (i : ℕ) → i < length words → number (word_at words i) ≡ Some i
  pub within : (i a : ℕ) → a < k → i * k + a < length right
      → slice_index right (i * k + a) < length words
  pub next : (i a : ℕ) (w : List ℕ) → a < k → i * k + a < length right → Over k w
      → number w ≡ Some i → number (w ++ a ∷ []) ≡ Some (slice_index right (i * k + a))
  pub least : (i a : ℕ) → a < k → i * k + a < length right
      → ¬ ((word_at words i ++ a ∷ []) ⊏ word_at words (slice_index right (i * k + a)))

-- What is known of the left Cayley graph: the numbers of listed words with a letter before them, as
-- far as `left` goes. No number has a greater word than the one that leads to it.
pub record AreLeftNumbers (k : ℕ) (number : List ℕ → Option ℕ) (words : List (List ℕ))
    (left : List ℕ) : Type 0 where
  pub within : (i a : ℕ) → a < k → i * k + a < length left
      → slice_index left (i * k + a) < length words
  pub leads : (i a : ℕ) → a < k → i * k + a < length left
      → number (a ∷ word_at words i) ≡ Some (slice_index left (i * k + a))
  pub least : (i a : ℕ) → a < k → i * k + a < length left
      → ¬ ((a ∷ word_at words i) ⊏ word_at words (slice_index left (i * k + a)))

-- Enough is known for the left rows of the first m words: their links, and the right row of each
-- word that is no longer than one of them.
pub record IsKnownFor (k : ℕ) (number : List ℕ → Option ℕ) (words : List (List ℕ)) (right : List ℕ)
    (l : LinkLists) (m : ℕ) : Type 0 where
  pub numbers : AreRightNumbers k number words right
  pub few : m ≤ length words
  pub linked : ℕ
  pub enough : m ≤ linked
  pub links : AreLinks k words linked l
  pub ready : (i j : ℕ) → i < m → j < length words
      → length (word_at words j) ≤ length (word_at words i) → j * k + k ≤ length right

-- enough is known to go on with the left graph, up to the first m words
pub record CanGoOn (k : ℕ) (right : List ℕ) (l : LinkLists) (m : ℕ) (left : List ℕ) : Type 0 where
  pub number : List ℕ → Option ℕ
  pub words : List (List ℕ)
  pub known : IsKnownFor k number words right l m
  pub numbers : AreLeftNumbers k number words left

-- whatever the words are, what was known of the left graph is known of the longer one
pub record GoesOn (k : ℕ) (right : List ℕ) (l : LinkLists) (m : ℕ) (old new : List ℕ) : Type 0 where
  pub numbers : (number : List ℕ → Option ℕ) (words : List (List ℕ))
      → IsKnownFor k number words right l m → AreLeftNumbers k number words old
      → AreLeftNumbers k number words new

-- the target of element i by the letter a in the left graph: of element 0 it is that in the right
-- graph, and of each other one that of its prefix, followed by its last letter
abbrev pub left_target : ℕ → List ℕ → LinkLists → List ℕ → ℕ → ℕ → ℕ
left_target k right l left zero a = slice_index right a
left_target k right l left (suc i) a =
    slice_index right
    (slice_index left (slice_index l.prefix (suc i) * k + a) * k + slice_index l.last (suc i))
