-- What Hopcroft's splits keep: alike nodes share a class.
use Rattle.std.specs.Prelude.{◌≡◌, ◌<◌, ◌≤◌, ◌+◌, ◌↔◌, ◌⊎◌, ℕ, Bool, List, length, slice_index, All}
use Rattle.std.specs.List.{Contains}
use Rattle.language_theory.specs.Automaton.{is_marked}
use Rattle.std.specs.Prelude.{true}
use Rattle.language_theory.specs.ShortlexGraph.{Graph, target, Alike}
use Rattle.refinement.specs.declared.inverse.Inverse.{Inverse}

-- alike nodes share a class
pub record Respects (g : Graph) (marks : List Bool) (classes : List ℕ) : Type 0 where
  pub alike : (i j : ℕ) → i < g.size → j < g.size → Alike g marks i j
      → slice_index classes i ≡ slice_index classes j

-- a node that is alike to one of the nodes is one of them
pub record IsClosed (g : Graph) (marks : List Bool) (nodes : List ℕ) : Type 0 where
  pub closed : (i j : ℕ) → i < g.size → j < g.size → Alike g marks i j → Contains nodes i
      → Contains nodes j

-- one more than the greatest of the first m nodes that a letter leads to t, or 0
pub record IsGreatest (g : Graph) (a t m h : ℕ) : Type 0 where
  pub within : h ≤ m
  pub sound : (i : ℕ) → i + 1 ≡ h → target g i a ≡ t
  pub complete : (i : ℕ) → i < m → target g i a ≡ t → i < h

-- the chains of the first m nodes
pub record IsInverse (g : Graph) (a m : ℕ) (heads nexts : List ℕ) : Type 0 where
  pub heads_long : length heads ≡ g.size
  pub nexts_long : length nexts ≡ m
  pub heads_at : (t : ℕ) → t < g.size → IsGreatest g a t m (slice_index heads t)
  pub nexts_at : (i : ℕ) → i < m → IsGreatest g a (target g i a) i (slice_index nexts i)

pub record IsInverseOf (g : Graph) (r : Inverse) : Type 0 where
  pub letter : r.letter < g.letters
  pub inverse : IsInverse g r.letter g.size r.heads.items r.nexts.items

-- the sources of t are added
pub record Adds (g : Graph) (a t : ℕ) (old new : List ℕ) : Type 0 where
  pub exact : (i : ℕ) → Contains new i ↔ (Contains old i ⊎ (i < g.size) × (target g i a ≡ t))

-- the nodes from which a letter leads to one of the nodes
pub record AreSources (g : Graph) (a : ℕ) (nodes sources : List ℕ) : Type 0 where
  pub within : All (λ i. i < g.size) sources
  pub exact : (i : ℕ) → Contains sources i ↔ (i < g.size) × Contains nodes (target g i a)

-- for each of the first n nodes the goal of its class
pub record AreGoals (goals classes nodes : List ℕ) (n : ℕ) (found : List ℕ) : Type 0 where
  pub long : length found ≡ n
  pub each : (k : ℕ) → k < n
      → slice_index found k ≡ slice_index goals (slice_index classes (slice_index nodes k))

-- each node of the list goes to the goal of its class, and the others stay
pub record IsMovedBy (size : ℕ) (goals nodes old new : List ℕ) : Type 0 where
  pub each : (i : ℕ) → i < size → Contains nodes i
      × (slice_index new i ≡ slice_index goals (slice_index old i)) ⊎ (¬ Contains nodes i)
      × (slice_index new i ≡ slice_index old i)

pub record IsMoved (size : ℕ) (nodes old new : List ℕ) : Type 0 where
  pub goals : List ℕ
  pub moved : IsMovedBy size goals nodes old new

-- the nodes of a class
pub record AreMembers (size : ℕ) (classes : List ℕ) (class : ℕ) (members : List ℕ) : Type 0 where
  pub within : All (λ i. i < size) members
  pub exact : (i : ℕ) → Contains members i ↔ (i < size) × (slice_index classes i ≡ class)

-- those of the nodes that are in a class
pub record ArePicked (size : ℕ) (classes : List ℕ) (class : ℕ) (nodes picked : List ℕ) : Type 0
  where
    pub within : All (λ i. i < size) picked
    pub exact : (i : ℕ) → Contains picked i ↔ Contains nodes i × (slice_index classes i ≡ class)

-- the marked ones of the first n nodes
pub record AreMarked (marks : List Bool) (n : ℕ) (marked : List ℕ) : Type 0 where
  pub exact : (i : ℕ) → Contains marked i ↔ (i < n) × (is_marked marks i ≡ true)

-- where alike nodes were together they still are, and the splitter does not part them
pub record KeepsTogether (g : Graph) (splitter old new : List ℕ) : Type 0 where
  pub respects : (marks : List Bool) → Respects g marks old → Respects g marks new
  pub closed : (marks : List Bool) → Respects g marks old → IsClosed g marks splitter

-- where alike nodes were together they still are
pub record IsFiner (g : Graph) (old new : List ℕ) : Type 0 where
  pub respects : (marks : List Bool) → Respects g marks old → Respects g marks new
