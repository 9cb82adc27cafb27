-- Green's classes of a finite monoid, each named by its least element (Green 1951; Pin: Green's
-- relations). An element is the place of its least word.
use Rattle.std.specs.Prelude.{◌≡◌, ◌<◌, ◌≤◌, ◌↔◌, ℕ, Bool, IsTrue, List, length, slice_index}
use Rattle.language_theory.specs.Words.{word_at}
use Rattle.language_theory.specs.Automaton.{is_marked}
use Rattle.monoid_theory.specs.Green.{IsR, IsL, IsJ, IsH, IsIdempotent}

-- for each element the least element of its class, for R, L, J and H, and whether it is idempotent
pub record GreenClasses : Type 0 where
  pub r : List ℕ
  pub l : List ℕ
  pub j : List ℕ
  pub h : List ℕ
  pub idempotents : List Bool

-- for each listed word the place of the first listed word that is related to it
pub record AreLeastMates (relation : List ℕ → List ℕ → Type 0) (words : List (List ℕ))
    (labels : List ℕ) : Type 0 where
  pub long : length labels ≡ length words
  pub within : (i : ℕ) → i < length words → slice_index labels i < length words
  pub related : (i : ℕ) → i < length words
      → relation (word_at words (slice_index labels i)) (word_at words i)
  pub least : (i m : ℕ) → i < length words → m < length words
      → relation (word_at words m) (word_at words i) → slice_index labels i ≤ m

-- Green's classes and the idempotents of the monoid of a congruence
pub record AreGreens (k : ℕ) (same : List ℕ → List ℕ → Type 0) (words : List (List ℕ))
    (g : GreenClasses) : Type 0 where
  pub r : AreLeastMates (IsR k same) words g.r
  pub l : AreLeastMates (IsL k same) words g.l
  pub j : AreLeastMates (IsJ k same) words g.j
  pub h : AreLeastMates (IsH k same) words g.h
  pub marks : length g.idempotents ≡ length words
  pub idempotent : (i : ℕ) → i < length words
      → IsTrue (is_marked g.idempotents i) ↔ IsIdempotent same (word_at words i)
