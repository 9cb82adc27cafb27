-- Whether a language is star-free: the answer within the limits, and what it tells (Schützenberger
-- 1965).
use Rattle.std.specs.Prelude.{◌≡◌, ℕ, Bool, true, false, List, map, length, Some}
use Rattle.language_theory.specs.Automaton.{is_marked}
use Rattle.language_theory.specs.Congruence.{Syntactic}
use Rattle.language_theory.specs.Languages.{HaveSameWords}
use Rattle.language_theory.specs.ShortlexGraph.{target}
use Rattle.monoid_theory.specs.Powers.{IsAperiodic}
use Rattle.parallel_table.specs.ProductTables.{ProductTable, IsSquare, IsTableOf}
use Rattle.syntactic_monoid.specs.SyntacticMonoid.{SyntacticMonoid}
use Rattle.star_free_theory.specs.StarFree.{Denotes, IsStarFreeList}
use Rattle.star_free_theory.specs.declared.nodes.SfNode.{SfNode}
use Rattle.star_free_theory.specs.Construction.{Outcome, done, depth, nodes, keep, count_from, construction}
use Rattle.star_free_theory.specs.Pruning.{IsPruning}
use Rattle.star_free_lists.specs.SfList.{StarFreeList}
use Rattle.local_divisors.specs.Constructing.{most_depth, algebra_of}
use Rattle.answers.specs.declared.powers.SfAnswer.{SfAnswer}
use Rattle.answers.specs.declared.powers.SfAnswer.TheVariants as answer
use Rattle.star_free.specs.Loops.{IsLoop}

-- the elements of the letters, in order
abbrev pub images_of : SyntacticMonoid → List ℕ
images_of m = map (target m.graphs.right 0) (count_from 0 m.graphs.right.letters)

-- the elements whose words are in the language, in order
abbrev pub finals_of : SyntacticMonoid → List ℕ
finals_of m = keep (is_marked m.accepted) (count_from 0 (length m.graphs.words))

-- Of a syntactic monoid m over k letters, and with at most so many nodes.
module _ (k : ℕ) (m : SyntacticMonoid) (most : ℕ) where
  -- what the local-divisor construction comes to, from the products of the elements
  pub record IsConstructed (o : Outcome (List SfNode × ℕ)) : Type 0 where
    pub table : ProductTable
    pub square : IsSquare table
    pub products : IsTableOf m.graphs table
    pub comes : construction (Some most) most_depth k (algebra_of table (images_of m)) (finals_of m)
        ≡ o

  -- the pruned list of the construction
  pub record IsPrunedList (l : StarFreeList) : Type 0 where
    pub list : List SfNode
    pub root : ℕ
    pub constructed : IsConstructed (done (list, root))
    pub kept : List ℕ
    pub pruned : IsPruning list root kept l.nodes l.root

-- The answer for a language L over k letters with the syntactic monoid m: words whose powers never
-- settle, where some element has a period greater than 1; else that there is no table of products;
-- else the limit that the construction meets first; else its pruned list.
module _ (k : ℕ) (L : List ℕ → Type 0) (m : SyntacticMonoid) (most : ℕ) where
  abbrev pub IsStarFreeAnswer : Bool → SfAnswer → Type 0
  IsStarFreeAnswer has_table (answer.No l) = IsLoop k L l
  IsStarFreeAnswer has_table answer.TableLimit = IsAperiodic k (Syntactic k L) × (has_table ≡ false)
  IsStarFreeAnswer has_table answer.Depth =
      IsAperiodic k (Syntactic k L) × (has_table ≡ true) × IsConstructed k m most depth
  IsStarFreeAnswer has_table answer.Nodes =
      IsAperiodic k (Syntactic k L) × (has_table ≡ true) × IsConstructed k m most nodes
  IsStarFreeAnswer has_table (answer.Yes l) =
      IsAperiodic k (Syntactic k L) × (has_table ≡ true) × IsPrunedList k m most l

-- the language has a star-free list
abbrev pub HasStarFreeList : ℕ → (List ℕ → Type 0) → Type 0
HasStarFreeList k L = (list : List SfNode) × (root : ℕ) × IsStarFreeList list root
    × HaveSameWords k L (Denotes k list root)

-- What an answer tells of the language: a list that denotes it, or that no list does; and of a limit
-- that there is a list all the same.
abbrev pub Tells : ℕ → (List ℕ → Type 0) → SfAnswer → Type 0
Tells k L (answer.Yes l) =
    IsStarFreeList l.nodes l.root × HaveSameWords k L (Denotes k l.nodes l.root)
Tells k L (answer.No l) =
    (list : List SfNode) (root : ℕ) → ¬ HaveSameWords k L (Denotes k list root)
Tells k L answer.TableLimit = HasStarFreeList k L
Tells k L answer.Depth = HasStarFreeList k L
Tells k L answer.Nodes = HasStarFreeList k L
