-- What the right answers of the sections are, each as exactly as the work that finds it.
use Rattle.std.specs.Prelude.{◌||◌, ◌≡◌, ◌<◌, ◌≤◌, ℕ, Bool, List, Option, Some, None, IfSome, IsTrue, ◌↔◌, length}
use Rattle.language_theory.specs.Words.{word_at}
use Rattle.language_theory.specs.Automaton.{is_marked}
use Rattle.language_theory.specs.Congruence.{Syntactic}
use Rattle.language_theory.specs.Representatives.{AreRepresentatives}
use Rattle.language_theory.specs.Nerode.{MinimalAutomaton, IsMinimal}
use Rattle.monoid_theory.specs.Presentation.{AreRules}
use Rattle.monoid_theory.specs.Products.{IsProduct}
use Rattle.monoid_theory.specs.Green.{IsIdempotent, IsJTrivial}
use Rattle.green_relations.specs.Chains.{IsLongestChain}
use Rattle.green_relations.specs.EggBoxes.{AreEggBoxes}
use Rattle.parallel_table.specs.ProductTables.{ProductTable, cell}
use Rattle.syntactic_monoid.specs.SyntacticMonoid.{SyntacticMonoid, IsSyntacticMonoid}
use Rattle.report_text.specs.declared.summary_section.Counts.{Counts}
use Rattle.report_text.specs.declared.summary_section.Summary.{Summary}
use Rattle.report_text.specs.GreenSection.{marks_below}
use Rattle.report_text.specs.StarFreeSection.{is_star_free_limit}
use Rattle.report_text.specs.PiecewiseSection.{is_piecewise_limit}
use Rattle.report_text.specs.LocalSection.{is_local_limit}
use Rattle.answers.specs.declared.powers.SfAnswer.{SfAnswer}
use Rattle.star_free.specs.Answer.{IsStarFreeAnswer, Tells as TellsStarFree}
use Rattle.answers.specs.declared.factors.LtAnswer.{LtAnswer}
use Rattle.locally_testable.specs.Answer.{IsLocalAnswer, Tells as TellsLocal}
use Rattle.answers.specs.declared.subwords.PtAnswer.{PtAnswer}
use Rattle.answers.specs.declared.subwords.PtWitness.{PtWitness}
use Rattle.piecewise_testable.specs.Answers.{IsPiecewiseAnswer, IsToldApart, IsAlwaysToldApart, IsBoundedBySimon}
use Rattle.piecewise_testable.specs.Witness.{IsRTrivialAnswer}
use Rattle.piecewise_testable.specs.Commuting.{IsCommutativeAnswer}
use Rattle.report_sections.specs.Limits.{Limits}

-- a monoid and rules
pub record Presented : Type 0 where
  pub monoid : SyntacticMonoid
  pub rules : List (List ℕ × ℕ)

-- a monoid, which of its elements are marked, and boxes of rows of cells of elements
pub record Diagram : Type 0 where
  pub monoid : SyntacticMonoid
  pub idempotents : List Bool
  pub boxes : List (List (List (List ℕ)))

-- a monoid, a chain of its elements, and whether it is J-trivial
pub record Bounded : Type 0 where
  pub monoid : SyntacticMonoid
  pub chain : List ℕ
  pub trivial : Bool

-- counts of a language, and five answers
pub record Counted : Type 0 where
  pub counts : Counts
  pub answers : Summary

-- the idempotents among the elements of a congruence, and its egg-box diagram
pub record AreBoxesFor (k : ℕ) (same : List ℕ → List ℕ → Type 0) (words : List (List ℕ))
    (idempotents : List Bool) (boxes : List (List (List (List ℕ)))) : Type 0 where
  pub marks : length idempotents ≡ length words
  pub idempotent : (i : ℕ) → i < length words
      → IsTrue (is_marked idempotents i) ↔ IsIdempotent same (word_at words i)
  pub diagram : AreEggBoxes k same words boxes

-- the table has the products of the classes of a relation that have these representatives
pub record AreProducts (same : List ℕ → List ℕ → Type 0) (words : List (List ℕ))
    (t : ProductTable) : Type 0 where
  pub side : t.side ≡ length words
  pub each : (i j : ℕ) → i < t.side → j < t.side → IsProduct same words i j (cell t i j)

-- a table of all products, or none where there are more elements than the limit
abbrev pub IsTableWithin : ℕ → (List ℕ → List ℕ → Type 0) → List (List ℕ) → Option ProductTable
    → Type 0
IsTableWithin most same words None = most < length words
IsTableWithin most same words (Some t) = (length words ≤ most) × AreProducts same words t

-- What is answered of a language L over k letters.
module _ (k : ℕ) (L : List ℕ → Type 0) where
  -- the syntactic monoid of the language: the classes of the syntactic congruence, each once by its
  -- least word, with both Cayley graphs; and the rules of that congruence
  pub record AnswersMonoid (answer : Presented) : Type 0 where
    pub syntactic : IsSyntacticMonoid k L answer.monoid
    pub presentation : AreRules k (Syntactic k L) answer.monoid.graphs.words answer.rules

  -- the egg-box diagram of the syntactic monoid: the boxes are its classes of J, their rows those of
  -- R, their columns those of L, their cells those of H
  pub record AnswersGreen (answer : Diagram) : Type 0 where
    pub syntactic : IsSyntacticMonoid k L answer.monoid
    pub diagram : AreBoxesFor k (Syntactic k L) answer.monoid.graphs.words answer.idempotents
        answer.boxes

  -- the longest chain of ideals of the syntactic monoid, and whether it is J-trivial
  pub record AnswersBound (answer : Bounded) : Type 0 where
    pub syntactic : IsSyntacticMonoid k L answer.monoid
    pub longest : IsLongestChain k (Syntactic k L) answer.monoid.graphs.words answer.chain
    pub trivial : IsTrue answer.trivial ↔ IsJTrivial k (Syntactic k L)

-- What is answered of it within the limits.
module _ (limits : Limits) (k : ℕ) (L : List ℕ → Type 0) where
  -- a star-free list of the language, words whose powers never settle, or the limit that was met; a
  -- table of products is there where there are no more elements than its limit
  pub record AnswersStarFree (answer : SfAnswer) : Type 0 where
    pub monoid : SyntacticMonoid
    pub syntactic : IsSyntacticMonoid k L monoid
    pub has_table : Bool
    pub table : IsTrue has_table ↔ (length monoid.graphs.words ≤ limits.table)
    pub answered : IsStarFreeAnswer k L monoid limits.nodes has_table answer
    pub tells : TellsStarFree k L answer

  -- the least length of subwords that tells the language, words that are told apart at every length,
  -- or the limit that was met; the last level is none where it is at least Simon's
  pub record AnswersPiecewise (answer : PtAnswer) : Type 0 where
    pub answered : IsPiecewiseAnswer k L limits.pairs limits.level answer
    pub tells : IsAlwaysToldApart L answer
    pub simon : (words : List (List ℕ)) → AreRepresentatives k (Syntactic k L) words
        → IsBoundedBySimon k L words limits.level answer

  -- the least level of factors that tells the language, words that are told apart at every level, or
  -- the limit that was met; a table of products is there where there are no more elements than its
  -- limit
  pub record AnswersLocal (answer : LtAnswer) : Type 0 where
    pub monoid : SyntacticMonoid
    pub syntactic : IsSyntacticMonoid k L monoid
    pub has_table : Bool
    pub table : IsTrue has_table ↔ (length monoid.graphs.words ≤ limits.table)
    pub answered : IsLocalAnswer k L monoid.graphs.words has_table limits.level limits.pairs answer
    pub tells : TellsLocal k L answer

  -- that the syntactic monoid is R-trivial, or words that are told apart at every level
  pub record AnswersRTrivial (answer : Option PtWitness) : Type 0 where
    pub answered : IsRTrivialAnswer k L answer
    pub tells : IfSome answer (λ w. (n : ℕ) → IsToldApart L n w)

  -- all products in the syntactic monoid, or that it has more elements than the limit
  pub record AnswersTable (answer : Option ProductTable) : Type 0 where
    pub monoid : SyntacticMonoid
    pub syntactic : IsSyntacticMonoid k L monoid
    pub products : IsTableWithin limits.table (Syntactic k L) monoid.graphs.words answer

  -- the answers of a summary
  pub record AnswersAll (answers : Summary) : Type 0 where
    pub star_free : AnswersStarFree answers.star_free
    pub piecewise : AnswersPiecewise answers.piecewise
    pub local : AnswersLocal answers.local
    pub r_trivial : AnswersRTrivial answers.r_trivial
    pub commutative : IsCommutativeAnswer k L answers.commutative

  -- the counts of a language: the states of its minimal automaton, the elements of its syntactic
  -- monoid, the rules, the boxes and the idempotents; and the size of the generated file
  pub record AreCounts (counts : Counts) : Type 0 where
    pub generated : counts.size ≡ limits.size
    pub automaton : MinimalAutomaton
    pub minimal : IsMinimal k L automaton
    pub states : counts.states ≡ automaton.graph.size
    pub monoid : SyntacticMonoid
    pub syntactic : IsSyntacticMonoid k L monoid
    pub elements : counts.elements ≡ length monoid.graphs.words
    pub list : List (List ℕ × ℕ)
    pub presentation : AreRules k (Syntactic k L) monoid.graphs.words list
    pub rules : counts.rules ≡ length list
    pub marks : List Bool
    pub diagram : List (List (List (List ℕ)))
    pub egg_boxes : AreBoxesFor k (Syntactic k L) monoid.graphs.words marks diagram
    pub boxes : counts.boxes ≡ length diagram
    pub idempotents : counts.idempotents ≡ marks_below marks (length monoid.graphs.words)

  -- both
  pub record AnswersSummary (answer : Counted) : Type 0 where
    pub counted : AreCounts answer.counts
    pub answered : AnswersAll answer.answers

-- whether one of the answers of a summary is a limit
abbrev pub is_summary_limit : Summary → Bool
is_summary_limit a =
    is_star_free_limit a.star_free || (is_piecewise_limit a.piecewise || is_local_limit a.local)
