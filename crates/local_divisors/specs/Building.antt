-- What a step that makes a list of nodes grow comes to.
use Rattle.std.specs.Prelude.{◌≡◌, ◌<◌, ℕ, List, Result, Ok, Err, Option, Some, None, cond, eqb}
use Rattle.std.specs.Prelude.{All, slice_index, slice_index_or, length, drop, []}
use Rattle.star_free_theory.specs.declared.nodes.SfNode.TheVariants as node
use Rattle.star_free_theory.specs.declared.nodes.SfNode.{SfNode}
use Rattle.star_free_theory.specs.Construction.{Outcome, bind, done, depth, nodes, each}
use Rattle.star_free_theory.specs.Construction.{join_finals, or_empty}
use Rattle.local_divisors.specs.declared.faults.SfFault.{SfFault}
use Rattle.local_divisors.specs.declared.faults.SfFault.TheVariants as fault

-- the limit that is met first; want of memory may come at any time
abbrev pub Stops : {A : Type 0} → Outcome A → SfFault → Type 0
Stops o fault.Depth = o ≡ depth
Stops o fault.Nodes = o ≡ nodes
Stops o fault.Memory = Unit {0}

-- what a step answers is what it comes to in the definitions: a value, with the nodes that are
-- there
-- then, or why it stops
abbrev pub Answers : {A : Type 0} → Outcome (List SfNode × A) → List SfNode → Result A SfFault
    → Type 0
Answers o list (Ok a) = o ≡ done (list, a)
Answers o list (Err e) = Stops o e

-- the same for a step that gives a table of numbers
abbrev pub AnswersTable : {V : Type 0} → (V → List ℕ) → Outcome (List SfNode × (ℕ → ℕ))
    → List SfNode → Result V SfFault → Type 0
AnswersTable items o list (Ok v) =
    (E : ℕ → ℕ) × (o ≡ done (list, E))
    × ((p : ℕ) → p < length (items v) → E p ≡ slice_index (items v) p)
AnswersTable items o list (Err e) = Stops o e

-- the same for a step whose value stands in a relation to what it comes to
abbrev pub AnswersAs : {A V : Type 0} → (V → A → Type 0) → Outcome (List SfNode × A) → List SfNode
    → Result V SfFault → Type 0
AnswersAs {A = A} R o list (Ok v) = (a : A) × (o ≡ done (list, a)) × R v a
AnswersAs R o list (Err e) = Stops o e

-- the nodes of elements, joined, or that of no word
abbrev pub joined_finals : Option ℕ → (ℕ → ℕ) → List ℕ → List SfNode → Outcome (List SfNode × ℕ)
joined_finals most E finals xs =
    bind (join_finals most E finals None xs) (λ r. done (r.0, or_empty r.1))

-- where one part says nothing, the other
abbrev pub neutral : SfNode → Option ℕ
neutral (node.Cat i j) = cond (eqb i 2) (Some j) (cond (eqb j 2) (Some i) None)
neutral (node.And i j) = cond (eqb i 1) (Some j) None
neutral _ = None

-- the numbers of each pair are below n and m
pub record ArePairsWithin (n m : ℕ) (ps : List (ℕ × ℕ)) : Type 0 where
  pub within : All (λ p. (p.0 < n) × (p.1 < m)) ps

-- each element has a start and a group, whose pairs have numbers below n and m
pub record CanJoin (n m side : ℕ) (groups : List (List (ℕ × ℕ))) (elements : List ℕ) : Type 0 where
  pub long : length groups ≡ side
  pub elements_within : All (λ u. u < side) elements
  pub pairs : (u : ℕ) → u < side → ArePairsWithin n m (slice_index_or groups u [])

-- Of a loop that gives each of some elements a number: what is left from place i on comes to what
-- all comes to, and the table has the numbers so far.
pub record IsSoFar (f : List SfNode → ℕ → Outcome (List SfNode × ℕ)) (ts : List ℕ) (i : ℕ)
    (start now : List SfNode) (table : List ℕ) : Type 0 where
  pub numbers : ℕ → ℕ
  pub rest : each f (drop i ts) numbers now ≡ each f ts (λ p. 0) start
  pub told : (p : ℕ) → p < length table → numbers p ≡ slice_index table p
