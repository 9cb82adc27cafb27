-- The rows of short subwords that were seen at a level, numbered as they were first seen.
use Rattle.std.specs.Prelude.{◌≡◌, ◌≤◌, ℕ, Bool, List, [], Option, Some, None, length, position, slice_index_or}
use Rattle.std.specs.Bool.{beq}
use Rattle.std.specs.Cmp.Lexicographic.{pointwise}
use Rattle.exploration.specs.States.{AreNumbered}
use Rattle.level_search.specs.Levels.{IsWide}
use Rattle.subword_theory.specs.ShortSubwords.{SameSubwords}
use Rattle.subword_theory.specs.SubwordRows.{width, row_of}
use Rattle.syn_words.specs.Alphabet.{most_letters}

-- the number of letters, the level, and the rows that were seen, in the order in which they were
-- seen
pub record SubwordKeys : Type 0 where
  pub letters : ℕ
  pub level : ℕ
  pub rows : List (List Bool)

-- the number of the row of a word, if that row was seen
abbrev pub number_of : SubwordKeys → List ℕ → Option ℕ
number_of s w = position (pointwise beq (row_of s.letters s.level w)) s.rows

-- the row with a number
abbrev pub row_at : SubwordKeys → ℕ → List Bool
row_at s n = slice_index_or s.rows n []

-- a level was begun that is not too wide, and the rows that were seen are numbered one to one
pub record AreSubwordKeys (s : SubwordKeys) : Type 0 where
  pub some_letters : 1 ≤ s.letters
  pub few_letters : s.letters ≤ most_letters
  pub narrow : ¬ IsWide (width s.letters s.level)
  pub numbered : AreNumbered s.letters (SameSubwords s.level) (number_of s) (length s.rows)

pub subwords_numbered : (s : SubwordKeys) → AreSubwordKeys s
    → AreNumbered s.letters (SameSubwords s.level) (number_of s) (length s.rows)
subwords_numbered s h = h.numbered

-- the number of words of a length or less, if it is not too wide
abbrev pub IsWidthWithin : ℕ → ℕ → Option ℕ → Type 0
IsWidthWithin k n None = IsWide (width k n)
IsWidthWithin k n (Some w) = (w ≡ width k n) × ¬ IsWide (width k n)
