-- The two instances made from one, in flat tables.
use Rattle.std.specs.Prelude.{◌≡◌, ◌<◌, ℕ, List, Option, length, slice_index}
use Rattle.star_free_theory.specs.declared.nodes.SfNode.{SfNode}
use Rattle.star_free_theory.specs.declared.nodes.SfNode.TheVariants as node
use Rattle.star_free_theory.specs.Construction.{Outcome, bind, done, each, take, opened}
use Rattle.star_free_theory.specs.Construction.{is_none_left}
use Rattle.local_divisors.specs.Instances.{Multiplication, AreMiddles, AreLocalFactors}
use Rattle.local_divisors.specs.Tasks.{Flat, IsReady, IsChosen}

-- an instance with more than one element, and what is chosen of it
pub record CanDivide (p : Multiplication) (t : Flat) (letter : ℕ) (others submonoid divisor : List
    ℕ)
    : Type 0 where
  pub ready : IsReady p t
  pub many : ¬ (length t.elements ≡ 1)
  pub chosen : IsChosen p t letter others submonoid divisor

-- the first instance: the other letters, with their submonoid and a universe
abbrev pub first_flat : Flat → List ℕ → List ℕ → ℕ → Flat
first_flat t others submonoid u =
    record {
      elements = submonoid;
      identity = t.identity;
      letters = others;
      images = t.images;
      nodes = t.nodes;
      universe = u;
    }

-- the second instance: a letter for each element of the submonoid, and the local divisor
abbrev pub second_flat : Flat → ℕ → List ℕ → List ℕ → List ℕ → List ℕ → ℕ → Flat
second_flat t letter submonoid divisor middles nodes u =
    record {
      elements = divisor;
      identity = slice_index t.images letter;
      letters = submonoid;
      images = middles;
      nodes = nodes;
      universe = u;
    }

-- the universe of the second instance, and the nodes of its letters: the chosen letter's node
-- before
-- each of those of the submonoid
abbrev pub second_nodes : Option ℕ → Flat → ℕ → List ℕ → List ℕ → List ℕ → List SfNode
    → Outcome (List SfNode × ((ℕ → ℕ) × ℕ))
second_nodes most t letter others submonoid first xs =
    bind (opened most (is_none_left others) xs (slice_index t.nodes letter) t.universe)
    (λ u. bind
    (each (λ ys s. take most ys (node.Cat (slice_index t.nodes letter) (slice_index first s)))
    submonoid (λ s. 0) u.0)
    (λ b. done (b.0, (b.1, u.1))))

-- a table of the letters' nodes, and the universe
pub record AreSecondNodes (p : Multiplication) (nodes : List ℕ) (universe : ℕ) (r : (ℕ → ℕ) × ℕ)
    : Type 0 where
  pub long : length nodes ≡ p.table.side
  pub told : (s : ℕ) → s < length nodes → r.0 s ≡ slice_index nodes s
  pub universe_is : r.1 ≡ universe

-- the second instance and its product, with these nodes and universe
pub record IsSecond (p : Multiplication) (t : Flat) (letter : ℕ) (submonoid divisor nodes : List ℕ)
    (universe : ℕ) (q : Multiplication) (s : Flat) : Type 0 where
  pub factors : List ℕ
  pub middles : List ℕ
  pub factors_are : AreLocalFactors p (slice_index t.images letter) t.elements factors
  pub middles_are : AreMiddles p (slice_index t.images letter) middles
  pub product_is : q ≡ record { table = p.table; factors = factors }
  pub task_is : s ≡ second_flat t letter submonoid divisor middles nodes universe
