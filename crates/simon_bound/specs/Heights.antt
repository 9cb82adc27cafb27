-- Heights in a graph without cycles: the height of a node is the number of nodes on a longest path
-- from it. Row c of the flat list `nodes`, from place `starts c` to before place `starts (c + 1)`,
-- has the nodes to which the edges of the node c lead.
use Rattle.std.specs.Prelude.{◌≡◌, ◌<◌, ◌≤◌, ◌+◌, ◌-◌, ◌*◌, ◌⊎◌, ℕ, List, length}
use Rattle.std.specs.Prelude.{slice_index, sum, min}
use Rattle.std.specs.List.{sum_by}
use Rattle.cayley_tables.specs.declared.limits.TheConstants.{MOST_ELEMENTS}
use Rattle.simon_bound.specs.declared.heights.Search.{Search}

-- an edge leads from c to t
pub record Leads (starts nodes : List ℕ) (c t : ℕ) : Type 0 where
  pub place : ℕ
  pub from : slice_index starts c ≤ place
  pub before : place < slice_index starts (c + 1)
  pub to : slice_index nodes place ≡ t

-- a path of one edge or more leads from c to t
pub data Falls (starts nodes : List ℕ) : ℕ → ℕ → Type 0 where
  one : {c t : ℕ} → Leads starts nodes c t → Falls starts nodes c t
  more : {c t : ℕ} (z : ℕ) → Leads starts nodes c z → Falls starts nodes z t
      → Falls starts nodes c t

-- a graph of n nodes, one at least, in which no path leads from a node to itself
pub record IsAcyclic (n : ℕ) (starts nodes : List ℕ) : Type 0 where
  pub some : 0 < n
  pub few : n ≤ MOST_ELEMENTS
  pub long : length starts ≡ n + 1
  pub order : (c : ℕ) → c < n → slice_index starts c ≤ slice_index starts (c + 1)
  pub inside : (c : ℕ) → c < n → slice_index starts (c + 1) ≤ length nodes
  pub within : (c p : ℕ) → c < n → slice_index starts c ≤ p → p < slice_index starts (c + 1)
      → slice_index nodes p < n
  pub none : (c : ℕ) → c < n → ¬ Falls starts nodes c c

-- A node with a height has a greater one than each node that an edge leads to, by one more than one
-- of them where it is not 1. Nodes without a height have 0.
pub record AreHeights (n : ℕ) (starts nodes heights : List ℕ) : Type 0 where
  pub long : length heights ≡ n
  pub few : (c : ℕ) → c < n → slice_index heights c ≤ n
  pub falls : (c t : ℕ) → c < n → 0 < slice_index heights c → Leads starts nodes c t
      → (0 < slice_index heights t) × (slice_index heights t < slice_index heights c)
  pub next : (c : ℕ) → c < n → 1 < slice_index heights c
      → (t : ℕ) × Leads starts nodes c t × (slice_index heights t + 1 ≡ slice_index heights c)

-- the number of nodes that have a height
abbrev pub number_found : List ℕ → ℕ
number_found heights = sum_by (λ h. min h 1) heights

-- t stands right behind c on the path
abbrev pub IsNext : List ℕ → ℕ → ℕ → Type 0
IsNext path c t = (k : ℕ) × (k + 1 < length path) × (slice_index path k ≡ c)
    × (slice_index path (k + 1) ≡ t)

-- The search has nodes on its path, which begins with node 0, that have no height yet. `cursors`
-- has the place of the next edge of each node; the edges before it lead to nodes with a height, or
-- to the next node of the path.
pub record IsSearch (n : ℕ) (starts nodes cursors heights path : List ℕ) : Type 0 where
  pub right : AreHeights n starts nodes heights
  pub found : (c : ℕ) → c < n → slice_index heights c ≤ number_found heights
  pub long : length cursors ≡ n + 1
  pub small : (c : ℕ) → c < n + 1 → slice_index cursors c ≤ length nodes
  pub from : (c : ℕ) → c < n → slice_index starts c ≤ slice_index cursors c
  pub to : (c : ℕ) → c < n → slice_index cursors c ≤ slice_index starts (c + 1)
  pub opened : (k : ℕ) → k < length path
      → (slice_index path k < n) × (slice_index heights (slice_index path k) ≡ 0)
  pub linked : (k : ℕ) → k + 1 < length path
      → Leads starts nodes (slice_index path k) (slice_index path (k + 1))
  pub followed : (c p : ℕ) → c < n → slice_index starts c ≤ p → p < slice_index cursors c
      → (0 < slice_index heights (slice_index nodes p)) ⊎ IsNext path c (slice_index nodes p)
  pub first : 0 < length path → slice_index path 0 ≡ 0
  pub last : length path ≡ 0 → 0 < slice_index heights 0

abbrev pub Holds : ℕ → List ℕ → List ℕ → Search → Type 0
Holds n starts nodes s = IsSearch n starts nodes s.cursors.items s.heights.items s.path.items

-- how much is left to do at most
abbrev pub work : ℕ → List ℕ → Search → ℕ
work n nodes s = 2 * ((n + 1) * length nodes - sum s.cursors.items) + length s.path.items

-- From node 0 on each edge leads to the least node among those with the height that is less by one.
pub record IsDescent (n : ℕ) (starts nodes heights path : List ℕ) : Type 0 where
  pub some : 1 ≤ length path
  pub first : slice_index path 0 ≡ 0
  pub within : (i : ℕ) → i < length path → slice_index path i < n
  pub height : (i : ℕ) → i < length path
      → slice_index heights (slice_index path i) + i ≡ slice_index heights 0
  pub leads : (i : ℕ) → i + 1 < length path
      → Leads starts nodes (slice_index path i) (slice_index path (i + 1))
  pub least : (i t : ℕ) → i + 1 < length path → Leads starts nodes (slice_index path i) t
      → slice_index heights t + (i + 1) ≡ slice_index heights 0 → slice_index path (i + 1) ≤ t

-- h is the greatest height of the first i nodes of a row, or 0 where there are none
pub record IsGreatest (heights row : List ℕ) (i h : ℕ) : Type 0 where
  pub most : (k : ℕ) → k < i → slice_index heights (slice_index row k) ≤ h
  pub reached : 0 < h → (k : ℕ) × (k < i) × (slice_index heights (slice_index row k) ≡ h)

-- t is the least of the first i nodes of a row that have the height h
pub record IsLeastOf (heights row : List ℕ) (i h t : ℕ) : Type 0 where
  pub place : ℕ
  pub within : place < i
  pub at : slice_index row place ≡ t
  pub height : slice_index heights t ≡ h
  pub least : (k : ℕ) → k < i → slice_index heights (slice_index row k) ≡ h → t ≤ slice_index row k
