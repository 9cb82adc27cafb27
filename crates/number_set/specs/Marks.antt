-- Sets of numbers below a size, as rows of marks, and how words of 64 marks hold them.
use Rattle.std.specs.Prelude.{◌≡◌, ℕ, ◌+◌, ◌*◌, ◌/◌, ◌%◌, ◌<◌, ◌≤◌, ◌==◌, ◌&&◌, ◌||◌, ◌^◌, Bool, false, cond, List, Option, Some, None, length, take, drop, map, slice_index, slice_index_or, ◌⊎◌, IsTrue}
use Rattle.std.specs.List.{range_with_len}
use Rattle.std.specs.Int.{bit_at}
use Rattle.std.specs.Simd.Lanes.{mask_l}
use Rattle.language_theory.specs.Automaton.{is_marked}
use Rattle.std.specs.Prelude.{flat_map}
use Rattle.std.specs.Bool.{beq}
use Rattle.std.specs.Hash as fed
use Rattle.std.specs.Cmp.{booleans_Decides}
use Rattle.std.specs.Cmp.Lexicographic.{pointwise}
use Rattle.std.proofs.Common.{refl, ap}
use Rattle.std.proofs.lemmas.Slice.Eq.{slice_eq-Decides}

-- the mark of p in words of 64 marks, the lowest bit first
abbrev pub mark_in : List ℕ → ℕ → Bool
mark_in words p = bit_at (slice_index words (p / 64)) (p % 64) == 1

-- the first marks in words
unfoldable pub marks_in : ℕ → List ℕ → List Bool
marks_in size words = map (λ p. mark_in words p) (range_with_len 0 size)

-- the word with the marks from 64 * i on
abbrev pub word_at : List Bool → ℕ → ℕ
word_at marks i = mask_l (take 64 (drop (64 * i) marks))

-- a row of marks as words, with no bit set beyond the marks
unfoldable pub packed : List Bool → List ℕ
packed marks = map (λ i. word_at marks i) (range_with_len 0 ((length marks + 63) / 64))

-- the words before a place, and those from another place on, are 0
pub record AreWithin (first last : ℕ) (words : List ℕ) : Type 0 where
  pub order : first ≤ last
  pub within : last ≤ length words
  pub before : (i : ℕ) → i < first → slice_index_or words i 0 ≡ 0
  pub behind : (i : ℕ) → last ≤ i → slice_index_or words i 0 ≡ 0

-- the words of a row of marks: no bit beyond the marks is set, and none outside a window of places
pub record AreWords (size first last : ℕ) (words : List ℕ) : Type 0 where
  pub same : words ≡ packed (marks_in size words)
  pub within : AreWithin first last words

-- a window, as a first place and the place behind its last, that has what two windows have
pub record IsWindowOf (first last other_first other_last : ℕ) (window : ℕ × ℕ) : Type 0 where
  pub order : window.0 ≤ window.1
  pub one : first < last → (window.0 ≤ first) × (last ≤ window.1)
  pub other : other_first < other_last → (window.0 ≤ other_first) × (other_last ≤ window.1)
  pub within : (window.1 ≤ last) ⊎ (window.1 ≤ other_last)

-- none from a place on is marked, before another place
abbrev pub IsBare : List Bool → ℕ → ℕ → Type 0
IsBare marks from to = (q : ℕ) → from ≤ q → q < to → is_marked marks q ≡ false

-- p is the least member that is not below a number
pub record IsNextMember (marks : List Bool) (from p : ℕ) : Type 0 where
  pub above : from ≤ p
  pub within : p < length marks
  pub marked : IsTrue (is_marked marks p)
  pub least : IsBare marks from p

-- the least member that is not below a number, or none where there is none
abbrev pub IsNext : List Bool → ℕ → Option ℕ → Type 0
IsNext marks from (Some p) = IsNextMember marks from p
IsNext marks from None = (q : ℕ) → from ≤ q → is_marked marks q ≡ false

-- the marks from 64 * place on as a word, or none behind the last of them
abbrev pub IsWord : List Bool → ℕ → Option ℕ → Type 0
IsWord marks place (Some w) = (64 * place < length marks) × (w ≡ word_at marks place)
IsWord marks place None = length marks ≤ 64 * place

-- a row of marks of a size has the members of another row, and the numbers for which f holds
pub record HasGained (old new : List Bool) (size : ℕ) (f : ℕ → Bool) : Type 0 where
  pub long : length new ≡ size
  pub each : (p : ℕ) → is_marked new p ≡ (is_marked old p || f p)

-- the members of the third set are those that the first and the second have in common
pub record IsIntersection (old other new : List Bool) : Type 0 where
  pub long : length new ≡ length old
  pub each : (p : ℕ) → is_marked new p ≡ (is_marked old p && is_marked other p)

-- some number is a member of both sets
abbrev pub Meet : List Bool → List Bool → Type 0
Meet marks other = (p : ℕ) × IsTrue (is_marked marks p) × IsTrue (is_marked other p)

-- a walk over the members of a row of marks, in rising order, that has come to a number
pub record Walk : Type 0 where
  pub marks : List Bool
  pub from : ℕ

-- the members from a number on are those among 64 that `left` has as bits, and those behind these
pub record IsAhead (marks : List Bool) (from place left : ℕ) : Type 0 where
  pub small : left < 2 ^ 64
  pub before : IsBare marks from (64 * place)
  pub gone : (k : ℕ) → k < 64 → 64 * place + k < from → bit_at left k ≡ 0
  pub here : (k : ℕ) → k < 64 → from ≤ 64 * place + k
      → bit_at left k ≡ cond (is_marked marks (64 * place + k)) 1 0
  pub near : from ≤ 64 * (place + 1)
  pub within : 64 * place ≤ length marks

-- what the hash of a set is fed: its words
abbrev pub fed_words : List Bool → List (List ℕ)
fed_words marks = flat_map fed.u64 (packed marks)

pub same_fed : (x y : List Bool) → IsTrue (pointwise beq x y) → fed_words x ≡ fed_words y
same_fed x y h = ap fed_words ((slice_eq-Decides booleans_Decides x y (pointwise beq x y) refl).0 h)
