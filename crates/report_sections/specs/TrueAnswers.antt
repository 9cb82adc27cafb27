-- What the answers of the sections tell of a language, in the words of the field.
use Rattle.std.specs.Prelude.{◌≡◌, ◌<◌, ◌≤◌, ◌+◌, ◌-◌, ◌*◌, ◌++◌, ◌↔◌, ℕ, Bool, true, false, IsTrue, List, [], ◌∷◌, length, Option, Some, None}
use Rattle.language_theory.specs.Words.{power}
use Rattle.language_theory.specs.Congruence.{Syntactic}
use Rattle.language_theory.specs.Languages.{HaveSameWords}
use Rattle.language_theory.specs.Representatives.{AreRepresentatives, HasMoreClasses}
use Rattle.monoid_theory.specs.Green.{IsRTrivial, IsJTrivial}
use Rattle.monoid_theory.specs.Powers.{NeverSettle}
use Rattle.monoid_theory.specs.Presentation.{AreRules}
use Rattle.monoid_theory.specs.Separation.{Separates}
use Rattle.green_relations.specs.Chains.{IsLongestChain}
use Rattle.green_relations.specs.EggBoxes.{box_at, row_at, cell_at}
use Rattle.parallel_table.specs.ProductTables.{ProductTable}
use Rattle.syntactic_monoid.specs.SyntacticMonoid.{SyntacticMonoid, IsSyntacticMonoid}
use Rattle.level_search.specs.Levels.{Suffices, SamePair, IsWide}
use Rattle.subword_theory.specs.ShortSubwords.{SameSubwords}
use Rattle.subword_theory.specs.SubwordRows.{width}
use Rattle.star_free_theory.specs.StarFree.{Denotes, IsStarFreeList}
use Rattle.star_free_theory.specs.declared.nodes.SfNode.{SfNode}
use Rattle.star_free_theory.specs.Construction.{Outcome as Constructed, depth, nodes}
use Rattle.star_free.specs.Answer.{IsConstructed, HasStarFreeList}
use Rattle.answers.specs.declared.powers.SfAnswer.{SfAnswer}
use Rattle.answers.specs.declared.powers.SfAnswer.TheVariants as star_free
use Rattle.answers.specs.declared.subwords.PtAnswer.{PtAnswer}
use Rattle.answers.specs.declared.subwords.PtAnswer.TheVariants as piecewise
use Rattle.answers.specs.declared.subwords.PtWitness.{PtWitness}
use Rattle.answers.specs.declared.commuting.CWitness.{CWitness}
use Rattle.piecewise_testable.specs.Answers.{IsToldApart}
use Rattle.piecewise_testable.specs.Commuting.{IsCommutative}
use Rattle.answers.specs.declared.factors.LtAnswer.{LtAnswer}
use Rattle.answers.specs.declared.factors.LtAnswer.TheVariants as locally
use Rattle.factor_keys.specs.Keys.{SameKey, width as factor_width}
use Rattle.locally_testable.specs.Answer.{IsLeastLevel, HasMuchWork}
use Rattle.locally_testable.specs.Witness.{ShowsNotTestable}
use Rattle.report_sections.specs.Limits.{Limits}
use Rattle.report_sections.specs.RightAnswers.{Presented, Diagram, Bounded, Counted, AreBoxesFor, IsTableWithin, AreCounts}

-- all cells of a box have as many elements as its first one, whose number is printed
abbrev pub HaveOneSize : List (List (List (List ℕ))) → Type 0
HaveOneSize boxes = (b y x v u : ℕ) → b < length boxes
    → y < length (box_at boxes b) → x < length (row_at (box_at boxes b) y)
    → v < length (box_at boxes b) → u < length (row_at (box_at boxes b) v)
    → length (cell_at (row_at (box_at boxes b) y) x)
    ≡ length (cell_at (row_at (box_at boxes b) v) u)

-- Of a language L over k letters.
module _ (k : ℕ) (L : List ℕ → Type 0) where
  -- the elements are the classes of the syntactic congruence, each once by its least word, with both
  -- Cayley graphs, and the rules are those of the congruence
  pub record IsTrueOfMonoid (answer : Presented) : Type 0 where
    pub classes : AreRepresentatives k (Syntactic k L) answer.monoid.graphs.words
    pub graphs : IsSyntacticMonoid k L answer.monoid
    pub presentation : AreRules k (Syntactic k L) answer.monoid.graphs.words answer.rules

  -- the boxes are Green's classes, with cells of the size that is printed, and the idempotents are
  -- marked
  pub record IsTrueOfGreen (answer : Diagram) : Type 0 where
    pub elements : AreRepresentatives k (Syntactic k L) answer.monoid.graphs.words
    pub classes : AreBoxesFor k (Syntactic k L) answer.monoid.graphs.words answer.idempotents
        answer.boxes
    pub sizes : HaveOneSize answer.boxes

  -- the syntactic monoid has more elements than this
  abbrev pub HasMoreElementsThan : ℕ → Type 0
  HasMoreElementsThan n = HasMoreClasses k (Syntactic k L) n

  -- no level below n suffices, of those from the first on
  abbrev pub NoneBelow : (ℕ → List ℕ → List ℕ → Type 0) → (first n : ℕ) → Type 0
  NoneBelow same first n = (m : ℕ) → first ≤ m → m < n → ¬ Suffices k L (same m)

  -- the level is less than that which the longest chain of ideals bounds (Simon 1975)
  abbrev pub IsBelowSimonsLevel : ℕ → Type 0
  IsBelowSimonsLevel n = (words : List (List ℕ)) (chain : List ℕ)
      → AreRepresentatives k (Syntactic k L) words
      → IsLongestChain k (Syntactic k L) words chain → n < 2 * length chain - 1

  -- R-trivial yes, or words that are told apart at every level
  abbrev pub IsTrueOfRows : Option PtWitness → Type 0
  IsTrueOfRows None = IsRTrivial k (Syntactic k L)
  IsTrueOfRows (Some w) = (n : ℕ) → IsToldApart L n w

  -- commutative yes, or two letters and a context in which exactly one of their two orders is in L
  abbrev pub IsTrueOfOrder : Option CWitness → Type 0
  IsTrueOfOrder None = IsCommutative k (Syntactic k L)
  IsTrueOfOrder (Some w) = Separates L (w.a ∷ w.b ∷ []) (w.b ∷ w.a ∷ []) w.u w.v
      × (IsTrue w.first_in ↔ L (w.u ++ ((w.a ∷ w.b ∷ []) ++ w.v)))

  -- Where the monoid is J-trivial, a level suffices; where it is not, none does (Simon 1975).
  abbrev pub IsTrueOfLevel : Bool → ℕ → Type 0
  IsTrueOfLevel true n = IsJTrivial k (Syntactic k L) × Suffices k L (SameSubwords n)
  IsTrueOfLevel false n = (m : ℕ) → ¬ Suffices k L (SameSubwords m)

  -- the words are a chain of ideals, no chain is longer, and of those as long it is the least; the
  -- level that it bounds suffices, or no level does
  pub record IsTrueOfBound (answer : Bounded) : Type 0 where
    pub elements : AreRepresentatives k (Syntactic k L) answer.monoid.graphs.words
    pub longest : IsLongestChain k (Syntactic k L) answer.monoid.graphs.words answer.chain
    pub level : IsTrueOfLevel answer.trivial (2 * length answer.chain - 1)

-- Of the same, within the limits.
module _ (limits : Limits) (k : ℕ) (L : List ℕ → Type 0) where
  -- the products are those of all elements, or there are more elements than the limit
  pub record IsTrueOfTable (table : Option ProductTable) : Type 0 where
    pub words : List (List ℕ)
    pub elements : AreRepresentatives k (Syntactic k L) words
    pub products : IsTableWithin limits.table (Syntactic k L) words table

  -- the local-divisor construction, from the products of the syntactic monoid and with no more nodes
  -- than its limit, meets this limit first
  abbrev pub MeetsFirst : Constructed (List SfNode × ℕ) → Type 0
  MeetsFirst limit = (m : SyntacticMonoid) × IsSyntacticMonoid k L m
      × IsConstructed k m limits.nodes limit

  -- star-free yes has a star-free list that denotes L, no has words whose powers never settle; where a
  -- limit is passed, L has a star-free list all the same
  abbrev pub IsTrueOfPowers : SfAnswer → Type 0
  IsTrueOfPowers (star_free.Yes l) = IsStarFreeList l.nodes l.root
      × HaveSameWords k L (Denotes k l.nodes l.root)
  IsTrueOfPowers (star_free.No l) = NeverSettle L l.u l.x l.v
      × (IsTrue l.first_in ↔ L (l.u ++ (power l.index l.x ++ l.v)))
  IsTrueOfPowers star_free.TableLimit =
      HasMoreElementsThan k L limits.table × HasStarFreeList k L
  IsTrueOfPowers star_free.Depth = MeetsFirst depth × HasStarFreeList k L
  IsTrueOfPowers star_free.Nodes = MeetsFirst nodes × HasStarFreeList k L

  -- piecewise testable yes has the least level that suffices, no has words that are told apart at
  -- every level; a limit is passed at a level, and none below suffices, or none up to the last does
  abbrev pub IsTrueOfSubwords : PtAnswer → Type 0
  IsTrueOfSubwords (piecewise.Yes n) = Suffices k L (SameSubwords n)
      × NoneBelow k L (λ m. SameSubwords m) 0 n
  IsTrueOfSubwords (piecewise.No w) = (n : ℕ) → IsToldApart L n w
  IsTrueOfSubwords (piecewise.Wide n) = IsWide (width k n)
      × NoneBelow k L (λ m. SameSubwords m) 0 n
  IsTrueOfSubwords (piecewise.Pairs n) =
      HasMoreClasses k (SamePair k L (SameSubwords n)) limits.pairs
      × NoneBelow k L (λ m. SameSubwords m) 0 n
  IsTrueOfSubwords (piecewise.NoneTo n) = (n ≡ limits.level)
      × NoneBelow k L (λ m. SameSubwords m) 0 (limits.level + 1)
      × IsBelowSimonsLevel k L limits.level

  -- the same of local testability; and the local work is above its limit
  abbrev pub IsTrueOfFactors : LtAnswer → Type 0
  IsTrueOfFactors (locally.Yes n) = IsLeastLevel k L n
  IsTrueOfFactors (locally.No w) = ShowsNotTestable L w
  IsTrueOfFactors locally.TableLimit = HasMoreElementsThan k L limits.table
  IsTrueOfFactors locally.WorkLimit = (words : List (List ℕ))
      × AreRepresentatives k (Syntactic k L) words × HasMuchWork k L words
  IsTrueOfFactors (locally.Wide n) = IsWide (factor_width k n) × NoneBelow k L SameKey 1 n
  IsTrueOfFactors (locally.Pairs n) =
      HasMoreClasses k (SamePair k L (SameKey n)) limits.pairs × NoneBelow k L SameKey 1 n
  IsTrueOfFactors (locally.NoneTo n) = (n ≡ limits.level)
      × NoneBelow k L SameKey 1 (limits.level + 1)

  -- the counts are those of L, and the answers are true
  pub record IsTrueOfSummary (answer : Counted) : Type 0 where
    pub counted : AreCounts limits k L answer.counts
    pub powers : IsTrueOfPowers answer.answers.star_free
    pub subwords : IsTrueOfSubwords answer.answers.piecewise
    pub factors : IsTrueOfFactors answer.answers.local
    pub rows : IsTrueOfRows k L answer.answers.r_trivial
    pub order : IsTrueOfOrder k L answer.answers.commutative
