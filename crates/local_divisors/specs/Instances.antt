-- The finite monoids of instances, in flat tables. All products are those of one table: in an
-- instance made by a local divisor, the second factor is exchanged for another one first.
use Rattle.std.specs.Prelude.{◌≡◌, ◌<◌, ◌⊎◌, ◌++◌, ℕ, Bool, true, false, slice_set, List, [], ◌∷◌}
use Rattle.std.specs.Prelude.{length, slice_index, slice_index_or}
use Rattle.language_theory.specs.Automaton.{is_marked}
use Rattle.parallel_table.specs.ProductTables.{ProductTable, cell}
use Rattle.star_free_theory.specs.Instance.{Among, Distinct, AllAmong, value}
use Rattle.star_free_theory.specs.Construction.{pairs, row}

-- a table, and for each element the one that stands for it as a second factor
pub record Multiplication : Type 0 where
  pub table : ProductTable
  pub factors : List ℕ

-- the product of x and y
abbrev pub times : Multiplication → ℕ → ℕ → ℕ
times m x y = cell m.table x (slice_index m.factors y)

-- the table is that of a product of its numbers, and the factors are such numbers
pub record IsMultiplication (m : Multiplication) : Type 0 where
  pub closed : (x y : ℕ) → x < m.table.side → y < m.table.side → cell m.table x y < m.table.side
  pub long : length m.factors ≡ m.table.side
  pub within : (y : ℕ) → y < m.table.side → slice_index m.factors y < m.table.side

-- m s m
abbrev pub middle : Multiplication → ℕ → ℕ → ℕ
middle p m s = times p (times p m s) m

-- m x m for each number x
pub record AreMiddles (p : Multiplication) (m : ℕ) (list : List ℕ) : Type 0 where
  pub long : length list ≡ p.table.side
  pub each : (x : ℕ) → x < p.table.side → slice_index list x ≡ middle p m x

-- for m y the factor of some z of the elements with m z equal to m y
pub record AreLocalFactors (p : Multiplication) (m : ℕ) (elements list : List ℕ) : Type 0 where
  pub long : length list ≡ p.table.side
  pub within : (y : ℕ) → y < p.table.side → slice_index list y < p.table.side
  pub found : (y : ℕ) → Among elements y → (z : ℕ) × Among elements z × (times p m z ≡ times p m y)
      × (slice_index list (times p m y) ≡ slice_index p.factors z)

-- for each number the pairs with that product
pub record AreGroups (p : Multiplication) (rs ts : List ℕ) (groups : List (List (ℕ × ℕ))) : Type 0
  where
    pub long : length groups ≡ p.table.side
    pub each : (u : ℕ) → u < p.table.side → slice_index_or groups u [] ≡ pairs (times p) rs ts u

-- the pairs of r with each t are put before those of their products
pub record IsRowPut (p : Multiplication) (r : ℕ) (ts : List ℕ) (old new : List (List (ℕ × ℕ))) :
    Type 0 where
  pub long : length new ≡ length old
  pub each : (u : ℕ) → u < length old → slice_index_or new u [] ≡ row (times p) r ts u
      ++ slice_index_or old u []

-- what a search for the products of images has found, and its marks
pub record IsSearch (p : Multiplication) (one : ℕ) (letters images found : List ℕ)
    (marks : List Bool) : Type 0 where
  pub long : length marks ≡ p.table.side
  pub first : Among found one
  pub distinct : Distinct found
  pub within : (x : ℕ) → Among found x → x < p.table.side
  pub marked : (x : ℕ) → Among found x → is_marked marks x ≡ true
  pub listed : (x : ℕ) → x < p.table.side → is_marked marks x ≡ true → Among found x
  pub spelled : (x : ℕ) → Among found x
      → (ls : List ℕ) × AllAmong letters ls × (value (times p) one (slice_index images) ls ≡ x)

-- y was marked, or it is marked now and put behind those that were found
abbrev pub IsNoted : ℕ → List ℕ → List Bool → List ℕ → List Bool → Type 0
IsNoted y found marks found' marks' =
    ((is_marked marks y ≡ true) × (found' ≡ found) × (marks' ≡ marks))
    ⊎ ((is_marked marks y ≡ false) × (found' ≡ found ++ y ∷ []) × (marks' ≡ slice_set marks y true))

-- a search that goes on keeps what it found, and has the products of images with x
pub record GoesOn (p : Multiplication) (letters images : List ℕ) (x : ℕ) (old new : List ℕ) : Type 0
  where
    pub keeps : (rest : List ℕ) × (new ≡ old ++ rest)
    pub steps : (a : ℕ) → Among letters a → Among new (times p (slice_index images a) x)

-- the marks are those of the products of letters' images
pub record AreSpanMarks (p : Multiplication) (one : ℕ) (letters images : List ℕ) (marks : List Bool)
    : Type 0 where
  pub long : length marks ≡ p.table.side
  pub spelled : (x : ℕ) → x < p.table.side → is_marked marks x ≡ true
      → (ls : List ℕ) × AllAmong letters ls × (value (times p) one (slice_index images) ls ≡ x)
  pub holds : (ls : List ℕ) → AllAmong letters ls
      → is_marked marks (value (times p) one (slice_index images) ls) ≡ true
