-- Numbers with a pair of labels each, as they are seen one after another.
use Rattle.std.specs.Prelude.{◌≡◌, ◌<◌, ◌≤◌, ◌⊎◌, ◌&&◌, ℕ, Bool, false, List, Some, None, length}
use Rattle.std.specs.Prelude.{slice_index, nat_eq}
use Rattle.indexmap.specs.IndexMap.{IndexMap, get}

-- for each of the first n numbers the least of them that has the same label in both lists
pub record ArePairMates (first second : List ℕ) (n : ℕ) (labels : List ℕ) : Type 0 where
  pub long : length labels ≡ n
  pub below : (i : ℕ) → i < n → slice_index labels i ≤ i
  pub one : (i : ℕ) → i < n → slice_index first (slice_index labels i) ≡ slice_index first i
  pub two : (i : ℕ) → i < n → slice_index second (slice_index labels i) ≡ slice_index second i
  pub least : (i m : ℕ) → i < n → m < n → slice_index first m ≡ slice_index first i
      → slice_index second m ≡ slice_index second i → slice_index labels i ≤ m

abbrev pub same_pair : ℕ × ℕ → ℕ × ℕ → Bool
same_pair p q = nat_eq p.0 q.0 && nat_eq p.1 q.1

-- The pair is noted with a place: the one that it was noted with before, or else the given one.
-- Nothing else has changed.
pub record IsNoted {S : Type 0} (pair : ℕ × ℕ) (place found : ℕ)
    (old new : IndexMap (ℕ × ℕ) ℕ S) : Type 0 where
  pub noted : get same_pair new pair ≡ Some found
  pub others : (p : ℕ × ℕ) → same_pair pair p ≡ false → get same_pair new p ≡ get same_pair old p
  pub known : (get same_pair old pair ≡ Some found)
      ⊎ ((get same_pair old pair ≡ None) × (found ≡ place))
