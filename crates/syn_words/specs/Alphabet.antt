-- Alphabets as they are written: the letters one after the other, as bytes.
use Rattle.std.specs.Prelude.{◌≢◌, ℕ, ◌<◌, ◌≤◌, List, length, slice_index, All}

-- a lower-case letter, as a byte
abbrev pub IsLowerCase : ℕ → Type 0
IsLowerCase byte = (97 ≤ byte) × (byte ≤ 122)

-- the bytes at any two places differ
abbrev pub AreDistinct : List ℕ → Type 0
AreDistinct text = (i j : ℕ) → i < j → j < length text → slice_index text i ≢ slice_index text j

-- the most letters of an alphabet that is written: as many as there are lower-case letters
abbrev pub most_signs : ℕ
most_signs = 26

-- the most letters of the automata and the monoids of the program
abbrev pub most_letters : ℕ
most_letters = 60

-- 1 to `most_signs` distinct lower-case letters
pub record IsAlphabet (text : List ℕ) : Type 0 where
  pub some : 1 ≤ length text
  pub few : length text ≤ most_signs
  pub lower : All IsLowerCase text
  pub distinct : AreDistinct text
