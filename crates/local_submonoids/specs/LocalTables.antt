-- The local submonoids of a finite monoid whose elements are numbers, by its table of products.
use Rattle.std.specs.Prelude.{◌≡◌, ◌<◌, ◌≤◌, ◌⊎◌, ℕ, List, length, slice_index}
use Rattle.parallel_table.specs.ProductTables.{ProductTable, IsTableOf, cell}
use Rattle.syntactic_monoid.specs.SyntacticMonoid.{SyntacticMonoid, IsInSemigroup}
use Rattle.local_submonoids.specs.LocalSubmonoids.{sum_of_squares}
use Rattle.local_submonoids.specs.declared.submonoids.Flaw.{Flaw}
use Rattle.local_submonoids.specs.declared.submonoids.Flaw.TheVariants as flaw

-- the product of two elements is an element
pub record IsClosed (t : ProductTable) : Type 0 where
  pub within : (i j : ℕ) → i < t.side → j < t.side → cell t i j < t.side

-- e s e, an element of the local submonoid of e
abbrev pub local_element : ProductTable → ℕ → ℕ → ℕ
local_element t e s = cell t (cell t e s) e

abbrev pub IsIdempotentElement : ProductTable → ℕ → Type 0
IsIdempotentElement t m = cell t m m ≡ m

-- e s e and e o e commute
abbrev pub CommuteAt : ProductTable → ℕ → ℕ → ℕ → Type 0
CommuteAt t e s o =
    cell t (local_element t e s) (local_element t e o)
    ≡ cell t (local_element t e o) (local_element t e s)

-- s is the least element for which e s e is not idempotent
pub record IsLeastRepeatAt (t : ProductTable) (e s : ℕ) : Type 0 where
  pub within : s < t.side
  pub fails : ¬ IsIdempotentElement t (local_element t e s)
  pub first : (j : ℕ) → j < s → IsIdempotentElement t (local_element t e j)

-- s is the least element for which e s e does not commute with some e o e, and o the least such
pub record IsLeastSwapAt (t : ProductTable) (e s o : ℕ) : Type 0 where
  pub within : s < t.side
  pub other_within : o < t.side
  pub fails : ¬ CommuteAt t e s o
  pub first : (i j : ℕ) → i < s → j < t.side → CommuteAt t e i j
  pub second : (j : ℕ) → j < o → CommuteAt t e s j

-- The listed elements give each element of the local submonoid of e once, each the least that gives
-- it; they rise, and those below n are covered.
pub record AreFirstBelow (t : ProductTable) (e n : ℕ) (firsts : List ℕ) : Type 0 where
  pub within : (i : ℕ) → i < length firsts → slice_index firsts i < n
  pub rise : (i j : ℕ) → i < j → j < length firsts → slice_index firsts i < slice_index firsts j
  pub cover : (s : ℕ) → s < n → (i : ℕ) × (i < length firsts) × (slice_index firsts i ≤ s)
      × (local_element t e s ≡ local_element t e (slice_index firsts i))
  pub apart : (i j : ℕ) → i < j → j < length firsts
      → ¬ (local_element t e (slice_index firsts i) ≡ local_element t e (slice_index firsts j))

-- i and j commute
abbrev pub AreOneProduct : ProductTable → ℕ → ℕ → Type 0
AreOneProduct t i j = cell t i j ≡ cell t j i

-- all the listed elements commute
abbrev pub AllCommute : ProductTable → List ℕ → Type 0
AllCommute t elements = (i j : ℕ) → i < length elements → j < length elements
    → AreOneProduct t (slice_index elements i) (slice_index elements j)

-- i is the first place of an element that does not commute with all that are listed, and j the
-- first place of one with which it does not
pub record IsFirstPair (t : ProductTable) (elements : List ℕ) (i j : ℕ) : Type 0 where
  pub within : i < length elements
  pub other_within : j < length elements
  pub fails : ¬ AreOneProduct t (slice_index elements i) (slice_index elements j)
  pub first : (a b : ℕ) → a < i → b < length elements
      → AreOneProduct t (slice_index elements a) (slice_index elements b)
  pub second : (b : ℕ) → b < j → AreOneProduct t (slice_index elements i) (slice_index elements b)

-- each e s e is idempotent
abbrev pub HasNoRepeat : ProductTable → ℕ → Type 0
HasNoRepeat t e = (s : ℕ) → s < t.side → IsIdempotentElement t (local_element t e s)

-- each e s e and e o e commute
abbrev pub HasNoSwap : ProductTable → ℕ → Type 0
HasNoSwap t e = (s o : ℕ) → s < t.side → o < t.side → CommuteAt t e s o

-- the local submonoid of e is idempotent and commutative
pub record HasNoFlaw (t : ProductTable) (e : ℕ) : Type 0 where
  pub no_repeat : HasNoRepeat t e
  pub no_swap : HasNoSwap t e

-- the first flaw of the local submonoid of e: a swap, where there is no repeat
abbrev pub IsFlawAt : ProductTable → ℕ → Flaw → Type 0
IsFlawAt t e (flaw.Repeat s) = IsLeastRepeatAt t e s
IsFlawAt t e (flaw.Swap s o) = HasNoRepeat t e × IsLeastSwapAt t e s o

-- e is idempotent, and some word of it is not empty
abbrev pub IsIdempotentAt : SyntacticMonoid → ProductTable → ℕ → Type 0
IsIdempotentAt m t e = IsIdempotentElement t e × IsInSemigroup m e

-- the first flaw of all: that of the first such element whose local submonoid has one
pub record IsFirstFlaw (m : SyntacticMonoid) (t : ProductTable) (e : ℕ) (f : Flaw) : Type 0 where
  pub within : e < t.side
  pub idempotent : IsIdempotentAt m t e
  pub flaw : IsFlawAt t e f
  pub first : (j : ℕ) → j < e → IsIdempotentAt m t j → HasNoFlaw t j

-- the table of a monoid shows this flaw as the first of all
abbrev pub IsFlawOf : SyntacticMonoid → ℕ → Flaw → Type 0
IsFlawOf m e f = (t : ProductTable) × IsTableOf m.graphs t × IsFirstFlaw m t e f

-- the size of the local submonoid of e, if e is idempotent and has a nonempty word, and else 0
abbrev pub IsSizeHere : SyntacticMonoid → ProductTable → ℕ → ℕ → Type 0
IsSizeHere m t e n =
    (IsIdempotentAt m t e
    × ((firsts : List ℕ) × AreFirstBelow t e t.side firsts × (length firsts ≡ n)))
    ⊎ (¬ IsIdempotentAt m t e × (n ≡ 0))

-- the sum of the squares of the sizes for the elements below e
pub record IsWorkBelow (m : SyntacticMonoid) (t : ProductTable) (e work : ℕ) : Type 0 where
  pub sizes : List ℕ
  pub long : length sizes ≡ e
  pub each : (i : ℕ) → i < e → IsSizeHere m t i (slice_index sizes i)
  pub sum : sum_of_squares sizes ≡ work
