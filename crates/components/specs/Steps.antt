-- What each step of the search does to its lists.
use Rattle.std.specs.Prelude.{◌≡◌, ℕ, ◌+◌, ◌-◌, ◌*◌, ◌<◌, ◌≤◌, List, [], ◌∷◌, ◌++◌, length}
use Rattle.std.specs.Prelude.{slice_index, slice_set, sum}
use Rattle.components.specs.Components.{Reach, target}
use Rattle.components.specs.Search.{IsSearch, IsLinked}
use Rattle.components.specs.declared.Search.{Search}

-- the search keeps true what it must, over a graph
abbrev pub Holds : ℕ → ℕ → List ℕ → Search → Type 0
Holds nodes degree targets s = IsSearch nodes degree (target degree targets) s.cursors.items
    s.places.items s.labels.items s.opened.items s.starts.items s.waiting.items

-- how much is left to do at most
abbrev pub work : ℕ → ℕ → Search → ℕ
work nodes degree s = 3 * (nodes * degree - sum s.cursors.items)
    + (length s.starts.items + length s.waiting.items)

-- the last open node reaches x
abbrev pub LastReaches : ℕ → List ℕ → List ℕ → ℕ → Type 0
LastReaches degree targets opened x = (k : ℕ) → k + 1 ≡ length opened
    → Reach degree (target degree targets) (slice_index opened k) x

-- a node is opened
pub record IsOpened (node : ℕ) (old new : Search) : Type 0 where
  pub cursors : new.cursors.items ≡ old.cursors.items
  pub places : new.places.items ≡ slice_set old.places.items node (length old.opened.items + 1)
  pub labels : new.labels.items ≡ old.labels.items
  pub opened : new.opened.items ≡ old.opened.items ++ node ∷ []
  pub starts : new.starts.items ≡ old.starts.items ++ length old.opened.items ∷ []
  pub waiting : new.waiting.items ≡ old.waiting.items ++ length old.opened.items ∷ []

-- what was seen stays seen, and what was closed stays closed
pub record IsLater (nodes : ℕ) (old new : Search) : Type 0 where
  pub seen : (x : ℕ) → x < nodes → 0 < slice_index old.places.items x
      → 0 < slice_index new.places.items x
  pub closed : (x : ℕ) → x < nodes → slice_index old.labels.items x < nodes
      → slice_index new.labels.items x < nodes

-- the starts above a place are gone
pub record IsJoined (degree : ℕ) (targets opened : List ℕ)
    (place : ℕ) (old new : List ℕ) : Type 0 where
  pub linked : IsLinked degree (target degree targets) opened new
  pub shorter : length new ≤ length old
  pub same : (q : ℕ) → q < length new → slice_index new q ≡ slice_index old q
  pub below : (q : ℕ) → q < length new → slice_index new q ≤ place

-- an edge of the node at a place leads to a node that is now closed, or open and in no lower
-- segment
pub record IsMet (nodes place next : ℕ) (old new : Search) : Type 0 where
  pub cursors : new.cursors.items ≡ old.cursors.items
  pub inside : place < length new.opened.items
  pub same : slice_index new.opened.items place ≡ slice_index old.opened.items place
  pub low : (q : ℕ) → q < length new.starts.items → slice_index new.starts.items q ≤ place
      → nodes ≤ slice_index new.labels.items next
      → slice_index new.starts.items q < slice_index new.places.items next
  pub more : length new.starts.items + length new.waiting.items ≤ length old.starts.items
      + length old.waiting.items + 2
  pub later : IsLater nodes old new
