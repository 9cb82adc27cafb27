-- The short subwords of a word as a row of marks, with a place for each short word. The words of at
-- most n letters, of k that there are, stand in shortlex order.
use Rattle.std.specs.Prelude.{◌≡◌, ◌≤◌, ◌↔◌, ◌+◌, ◌-◌, ◌*◌, ◌/◌, ◌&&◌, ◌||◌, ◌==◌, ℕ, zero, suc, Bool, true, false, List, length, map, IsTrue, replicate, slice_set}
use Rattle.std.specs.List.{range_with_len}
use Rattle.language_theory.specs.Words.{Over, IsSubword}
use Rattle.language_theory.specs.Automaton.{is_marked}
use Rattle.language_theory.specs.Congruence.{moved}

-- the number of words of at most n letters
abbrev pub width : ℕ → ℕ → ℕ
width k zero = 1
width k (suc n) = width k n * k + 1

-- the place of the word at the place p with the letter a behind it
abbrev pub child : ℕ → ℕ → ℕ → ℕ
child k p a = p * k + a + 1

-- the place of a word
abbrev pub place : ℕ → List ℕ → ℕ
place k w = moved (child k) 0 w

-- the marks are those of the subwords of w that have at most n letters
pub record IsRowOf (k n : ℕ) (w : List ℕ) (marks : List Bool) : Type 0 where
  pub long : length marks ≡ width k n
  pub at : (x : List ℕ) → Over k x → length x ≤ n
      → IsTrue (is_marked marks (place k x)) ↔ IsSubword x w

-- the row of the empty word
abbrev pub first_row : ℕ → ℕ → List Bool
first_row k n = slice_set (replicate (width k n) false) 0 true

-- the place of the word at the place q without its last letter
abbrev pub parent : ℕ → ℕ → ℕ
parent k q = (q - 1) / k

-- a place is marked after the letter a if it was marked, or if its word ends with a and that word
-- without its last letter was marked
abbrev pub next_mark : ℕ → ℕ → List Bool → ℕ → Bool
next_mark k a marks q =
    is_marked marks q || (is_marked marks (parent k q) && (child k (parent k q) a == q))

unfoldable pub next_row : ℕ → ℕ → List Bool → List Bool
next_row k a marks = map (next_mark k a marks) (range_with_len 0 (length marks))

-- the row of a word
abbrev pub row_of : ℕ → ℕ → List ℕ → List Bool
row_of k n w = moved (λ marks a. next_row k a marks) (first_row k n) w
