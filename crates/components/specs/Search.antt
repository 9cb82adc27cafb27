-- What the search keeps true, which holds its path in segments (Gabow 2000: path-based depth-first
-- search). `labels` has the answer of each closed node and n for the others, `places` one more than
-- a seen node's place among the open nodes, `cursors` how many edges of each node were followed,
-- `starts` where each segment of the open nodes begins, and `waiting` the places of the open nodes
-- with edges left.
use Rattle.std.specs.Prelude.{◌≡◌, ℕ, ◌+◌, ◌<◌, ◌≤◌, ◌⊎◌, List, length, slice_index}
use Rattle.components.specs.Components.{Reach, IsLeast}

-- x stands in xs
abbrev pub IsIn : List ℕ → ℕ → Type 0
IsIn xs x = (k : ℕ) × (k < length xs) × (slice_index xs k ≡ x)

-- each edge leads to a node
pub record IsWithin (n d : ℕ) (to : ℕ → ℕ → ℕ) : Type 0 where
  pub within : (x a : ℕ) → x < n → a < d → to x a < n

-- a closed node has its answer, and its edges lead to closed nodes
pub record IsShut (n d : ℕ) (to : ℕ → ℕ → ℕ) (labels : List ℕ) : Type 0 where
  pub long : length labels ≡ n
  pub right : (x : ℕ) → x < n → slice_index labels x < n → IsLeast d to x (slice_index labels x)
  pub shut : (x a : ℕ) → x < n → a < d → slice_index labels x < n → slice_index labels (to x a) < n

-- the open nodes are those that were seen and are not closed, each at its place
pub record IsStack (n : ℕ) (places labels opened : List ℕ) : Type 0 where
  pub long : length places ≡ n
  pub node : (k : ℕ) → k < length opened → slice_index opened k < n
  pub placed : (k : ℕ) → k < length opened → slice_index places (slice_index opened k) ≡ k + 1
  pub unlabelled : (k : ℕ) → k < length opened → n ≤ slice_index labels (slice_index opened k)
  pub seen : (x k : ℕ) → x < n → slice_index places x ≡ k + 1 → n ≤ slice_index labels x
      → k < length opened
  pub same : (x k : ℕ) → x < n → slice_index places x ≡ k + 1 → n ≤ slice_index labels x
      → slice_index opened k ≡ x

-- an open node reaches those above it, and those of its own segment
pub record IsLinked (d : ℕ) (to : ℕ → ℕ → ℕ) (opened starts : List ℕ) : Type 0 where
  pub up : (i j : ℕ) → i ≤ j → j < length opened
      → Reach d to (slice_index opened i) (slice_index opened j)
  pub down : (i j : ℕ) → i ≤ j → j < length opened
      → ((q : ℕ) → q < length starts → i < slice_index starts q → j < slice_index starts q)
      → Reach d to (slice_index opened j) (slice_index opened i)
  pub first : 0 < length starts → slice_index starts 0 ≡ 0
  pub none : length starts ≡ 0 → length opened ≡ 0
  pub below : (q : ℕ) → q < length starts → slice_index starts q < length opened
  pub rise : (q r : ℕ) → q < r → r < length starts → slice_index starts q < slice_index starts r

-- an edge that was followed leads to a closed node, or to no lower segment
pub record IsFollowed (n d : ℕ) (to : ℕ → ℕ → ℕ)
    (cursors places labels opened starts : List ℕ) : Type 0 where
  pub long : length cursors ≡ n
  pub most : (x : ℕ) → x < n → slice_index cursors x ≤ d
  pub fresh : (x : ℕ) → x < n → slice_index places x ≡ 0 → slice_index cursors x ≡ 0
  pub kept : (k a q : ℕ) → k < length opened → a < slice_index cursors (slice_index opened k)
      → q < length starts → slice_index starts q ≤ k
      → n ≤ slice_index labels (to (slice_index opened k) a)
      → slice_index starts q < slice_index places (to (slice_index opened k) a)

-- the open nodes with edges left wait, lowest first
pub record IsWaiting (d : ℕ) (cursors opened waiting : List ℕ) : Type 0 where
  pub left : (k : ℕ) → k < length opened → slice_index cursors (slice_index opened k) < d
      → IsIn waiting k
  pub below : (q : ℕ) → q < length waiting → slice_index waiting q < length opened
  pub rise : (q r : ℕ) → q < r → r < length waiting → slice_index waiting q < slice_index waiting r

pub record IsSearch (n d : ℕ) (to : ℕ → ℕ → ℕ)
    (cursors places labels opened starts waiting : List ℕ) : Type 0 where
  pub shut : IsShut n d to labels
  pub stack : IsStack n places labels opened
  pub linked : IsLinked d to opened starts
  pub followed : IsFollowed n d to cursors places labels opened starts
  pub waits : IsWaiting d cursors opened waiting

-- the listed nodes got the name, and the other labels stayed
pub record IsNamed (nodes : List ℕ) (name : ℕ) (old new : List ℕ) : Type 0 where
  pub long : length new ≡ length old
  pub named : (k : ℕ) → k < length nodes → slice_index new (slice_index nodes k) ≡ name
  pub others : (x : ℕ) → (slice_index new x ≡ slice_index old x)
      ⊎ ((slice_index new x ≡ name) × IsIn nodes x)
