-- Lists of labels that name classes as Green's relations of a finite monoid do.
use Rattle.std.specs.Prelude.{◌≡◌, ◌<◌, ◌≤◌, ℕ, List, length, slice_index}
use Rattle.cayley_tables.specs.declared.limits.TheConstants.{MOST_ELEMENTS}
use Rattle.green_relations.specs.GreenClasses.{GreenClasses}
use Rattle.green_relations.specs.EggBoxes.{Share}

-- there are n labels, and each is the least number that has it
pub record NameFirsts (n : ℕ) (labels : List ℕ) : Type 0 where
  pub long : length labels ≡ n
  pub below : (i : ℕ) → i < n → slice_index labels i ≤ i
  pub own : (i : ℕ) → i < n → slice_index labels (slice_index labels i) ≡ slice_index labels i

-- The classes of at most `MOST_ELEMENTS` elements: those of R and of L are parts of those of J, and each
-- class of R meets each class of L in the same class of J.
pub record AreClasses (g : GreenClasses) : Type 0 where
  pub few : length g.r ≤ MOST_ELEMENTS
  pub r : NameFirsts (length g.r) g.r
  pub l : NameFirsts (length g.r) g.l
  pub j : NameFirsts (length g.r) g.j
  pub h : length g.h ≡ length g.r
  pub marks : length g.idempotents ≡ length g.r
  pub rows : (i m : ℕ) → i < length g.r → m < length g.r → Share g.r i m → Share g.j i m
  pub columns : (i m : ℕ) → i < length g.r → m < length g.r → Share g.l i m → Share g.j i m
  pub meet : (i m : ℕ) → i < length g.r → m < length g.r → Share g.j i m
      → (z : ℕ) × (z < length g.r) × Share g.r z i × Share g.l z m
