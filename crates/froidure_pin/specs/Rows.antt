-- The rows of images of the elements that were found.
use Rattle.std.specs.Prelude.{◌≡◌, ◌<◌, ℕ, List, Option, length, position, slice_index, nat_eq}
use Rattle.std.specs.Cmp.Lexicographic.{pointwise}
use Rattle.language_theory.specs.Words.{word_at}
use Rattle.language_theory.specs.Congruence.{moved}
use Rattle.exploration.specs.States.{AreNumbered, IsSameMachine}
use Rattle.image_rows.specs.Rows.{row_at}
use Rattle.froidure_pin.specs.Maps.{Maps, AreMaps, SameMap, image, row_of}
use Rattle.std.proofs.Common.{refl, sym, subst}

-- the number of the row of a word, if it was seen
abbrev pub number_of : Maps → List (List ℕ) → List ℕ → Option ℕ
number_of m rows w = position (pointwise nat_eq (row_of m w)) rows

-- the rows that were seen are those of words, and they are numbered one to one
pub record AreSeen (m : Maps) (rows : List (List ℕ)) : Type 0 where
  pub maps : AreMaps m
  pub numbered : AreNumbered m.letters (SameMap m) (number_of m rows) (length rows)

-- the same maps have the same letters, and the same words lead to one row
pub same_maps_keep : (m n : Maps) → n ≡ m
    → IsSameMachine m.letters n.letters (SameMap m) (SameMap n)
same_maps_keep m n e =
    subst (λ (u : Maps). IsSameMachine m.letters u.letters (SameMap m) (SameMap u)) (sym e)
    (record { letters = refl; same = record { both = λ u v _ _. (λ h. h, λ h. h) } })

-- each row has where the word at its place takes each point
pub record AreRowsOf (m : Maps) (words rows : List (List ℕ)) : Type 0 where
  pub long : length rows ≡ length words
  pub points : (i : ℕ) → i < length rows → length (row_at rows i) ≡ m.points
  pub each : (i p : ℕ) → i < length rows → p < m.points
      → slice_index (row_at rows i) p ≡ moved (image m) p (word_at words i)
