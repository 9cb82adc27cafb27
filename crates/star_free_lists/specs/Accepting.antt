-- Which factors of a word are words of the nodes of a list, as a flat table of marks.
use Rattle.std.specs.Prelude.{◌≡◌, ◌<◌, ◌≤◌, ◌+◌, ◌*◌, ◌⊎◌, ◌↔◌, ℕ, Bool, true, List, length, slice_index, slice_range}
use Rattle.language_theory.specs.Automaton.{is_marked}
use Rattle.language_theory.specs.Words.{Over}
use Rattle.star_free_theory.specs.StarFree.{Denotes, NameEarlier, NamesBelow}
use Rattle.star_free_theory.specs.declared.nodes.SfNode.{SfNode}
use Rattle.star_free_theory.specs.declared.nodes.SfNode.TheVariants as node

-- the place of the mark of node n and the factor of a word from a start to an end
abbrev pub mark_place : List ℕ → ℕ → ℕ → ℕ → ℕ
mark_place word n start end = (n * (length word + 1) + start) * (length word + 1) + end

abbrev pub HasMark : List ℕ → List Bool → ℕ → ℕ → ℕ → Type 0
HasMark word marks n start end = is_marked marks (mark_place word n start end) ≡ true

-- each mark tells whether a factor is a word of a node, as far as there are marks
pub record AreMarks (nodes : List SfNode) (word : List ℕ) (marks : List Bool) : Type 0 where
  pub each : (k n start end : ℕ) → Over k word → start ≤ end → end ≤ length word
      → mark_place word n start end < length marks
      → HasMark word marks n start end ↔ Denotes k nodes n (slice_range word start end)

-- a place where a factor is cut into one with a mark of node i and one with a mark of node j
abbrev pub IsCut : List ℕ → List Bool → (i j start end : ℕ) → Type 0
IsCut word marks i j start end = (middle : ℕ) × (start ≤ middle) × (middle ≤ end)
    × HasMark word marks i start middle × HasMark word marks j middle end

-- what the marks of the nodes that a node names tell of a factor
abbrev pub Tells : List ℕ → List Bool → SfNode → (start end : ℕ) → Type 0
Tells word marks node.Empty start end = ⊥
Tells word marks node.Eps start end = start ≡ end
Tells word marks (node.Letter a) start end = (start + 1 ≡ end) × (slice_index word start ≡ a)
Tells word marks (node.Not i) start end = ¬ HasMark word marks i start end
Tells word marks (node.Cat i j) start end = IsCut word marks i j start end
Tells word marks (node.Or i j) start end =
    HasMark word marks i start end ⊎ HasMark word marks j start end
Tells word marks (node.And i j) start end =
    HasMark word marks i start end × HasMark word marks j start end

-- the nodes that a node names have all their marks
pub record CanTell (word : List ℕ) (marks : List Bool) (node : SfNode) (start end : ℕ)
    : Type 0 where
  pub ordered : start ≤ end
  pub within : end ≤ length word
  pub count : ℕ
  pub below : NamesBelow count node
  pub long : mark_place word count 0 0 ≤ length marks

-- the marks from some start on can be put behind these
pub record CanMark (nodes : List SfNode) (word : List ℕ) (marks : List Bool) (n start : ℕ)
    : Type 0 where
  pub earlier : NameEarlier 0 nodes
  pub within : n < length nodes
  pub told : AreMarks nodes word marks
  pub long : length marks ≡ mark_place word n start 0
