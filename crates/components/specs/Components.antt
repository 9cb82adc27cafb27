-- What the strong components of a graph are (Tarjan 1972). Each node has `degree` edges, and edge a
-- of node x leads to `to x a`.
use Rattle.std.specs.Prelude.{◌≡◌, ℕ, ◌+◌, ◌*◌, ◌<◌, ◌≤◌, List, length, slice_index, All}

-- the node that edge a of node x leads to, where `targets` has the `degree` targets of node 0, then
-- those of node 1, and so on
abbrev pub target : ℕ → List ℕ → ℕ → ℕ → ℕ
target degree targets x a = slice_index targets (x * degree + a)

-- a path of edges leads from x to y, of no edge or more
pub data Reach (degree : ℕ) (to : ℕ → ℕ → ℕ) : ℕ → ℕ → Type 0 where
  here : {x : ℕ} → Reach degree to x x
  step : {x y : ℕ} (a : ℕ) → a < degree → Reach degree to (to x a) y → Reach degree to x y

-- r is the least of the nodes that x reaches and that reach x
pub record IsLeast (degree : ℕ) (to : ℕ → ℕ → ℕ) (x r : ℕ) : Type 0 where
  pub there : Reach degree to x r
  pub back : Reach degree to r x
  pub least : (y : ℕ) → Reach degree to x y → Reach degree to y x → r ≤ y

-- `targets` is the graph of `nodes` nodes, with `degree` edges each
pub record IsGraph (nodes degree : ℕ) (targets : List ℕ) : Type 0 where
  pub long : length targets ≡ nodes * degree
  pub within : All (λ t. t < nodes) targets

-- each node's label is the least node of its strong component
pub record AreComponents (nodes degree : ℕ) (targets labels : List ℕ) : Type 0 where
  pub long : length labels ≡ nodes
  pub least : (x : ℕ) → x < nodes → IsLeast degree (target degree targets) x (slice_index labels x)
