-- The last steps of treating an instance, in flat tables.
use Rattle.std.specs.Prelude.{◌≡◌, ◌<◌, ℕ, List, Option, None, length, slice_index, slice_index_or}
use Rattle.std.specs.Prelude.{All}
use Rattle.star_free_theory.specs.declared.nodes.SfNode.{SfNode}
use Rattle.star_free_theory.specs.Construction.{Outcome, bind, each, join_all, pairs, ends, when}
use Rattle.star_free_theory.specs.Construction.{has}
use Rattle.local_divisors.specs.Instances.{Multiplication, times}

-- from the nodes e of the submonoid's elements, b of the second instance's letters and f of its
-- elements: a node for each product, and then one for each element
abbrev pub finished : Option ℕ → Multiplication → (elements sub div e b f : List ℕ) → List SfNode
    → Outcome (List SfNode × (ℕ → ℕ))
finished most p elements sub div e b f xs =
    bind
    (each (λ ys u. join_all most (slice_index f) (slice_index b) None (pairs (times p) div sub u)
    ys) (ends (times p) div sub elements) (λ p. 0) xs)
    (λ g. each (λ ys u. join_all most (slice_index e) g.1 (when (has sub u) (slice_index e u))
    (pairs (times p) sub (ends (times p) div sub elements) u) ys) elements (λ p. 0) g.0)

-- the elements have places in the tables
pub record CanFinish (side : ℕ) (elements sub div e b f : List ℕ) : Type 0 where
  pub elements_within : All (λ x. x < side) elements
  pub sub_within : All (λ x. x < side) sub
  pub div_within : All (λ x. x < side) div
  pub first_long : length e ≡ side
  pub letters_long : length b ≡ side
  pub second_long : length f ≡ side

-- what a node joins start with: the node of an element of the submonoid
pub record AreStarts (sub e : List ℕ) (starts : List (Option ℕ)) : Type 0 where
  pub long : length starts ≡ length e
  pub each : (u : ℕ) → u < length e → slice_index_or starts u None ≡ when (has sub u)
      (slice_index e u)
