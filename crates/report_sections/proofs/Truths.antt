-- Right answers are true in the words of the field.
use Rattle.std.proofs.Common.{◌≡◌, ◌≤◌, ◌↔◌, ℕ, Bool, true, false, IsTrue, List, Option, Some, None, inl, inr, refl, ◌-◌, ◌*◌, sym, ◌∙◌, length, arith}
use Rattle.std.proofs.lemmas.Bool.{cases_lt}
use Rattle.language_theory.specs.Congruence.{Syntactic}
use Rattle.language_theory.proofs.Congruences.{syntactic_congruence}
use Rattle.language_theory.proofs.Representatives.{has_more_classes}
use Rattle.answers.specs.declared.powers.SfAnswer.{SfAnswer}
use Rattle.answers.specs.declared.powers.SfAnswer.TheVariants as star_free
use Rattle.star_free.specs.Answer.{IsStarFreeAnswer, Tells}
use Rattle.syntactic_monoid.specs.SyntacticMonoid.{SyntacticMonoid, IsSyntacticMonoid}
use Rattle.answers.specs.declared.subwords.PtAnswer.{PtAnswer}
use Rattle.answers.specs.declared.subwords.PtAnswer.TheVariants as piecewise
use Rattle.answers.specs.declared.subwords.PtWitness.{PtWitness}
use Rattle.answers.specs.declared.commuting.CWitness.{CWitness}
use Rattle.piecewise_testable.specs.Answers.{IsPiecewiseAnswer}
use Rattle.piecewise_testable.specs.Witness.{IsRTrivialAnswer}
use Rattle.piecewise_testable.specs.Commuting.{IsCommutativeAnswer}
use Rattle.piecewise_testable.proofs.Simon.{bounded_by_simon}
use Rattle.piecewise_testable.proofs.ToldApart.{told_apart}
use Rattle.answers.specs.declared.factors.LtAnswer.{LtAnswer}
use Rattle.answers.specs.declared.factors.LtAnswer.TheVariants as locally
use Rattle.locally_testable.specs.Answer.{IsLocalAnswer, Tells as TellsFactors}
use Rattle.green_relations.proofs.CellSizes.{egg_boxes_have_one_size}
use Rattle.parallel_table.specs.ProductTables.{ProductTable}
use Rattle.report_sections.specs.Limits.{Limits}
use Rattle.report_sections.specs.RightAnswers.{Presented, Diagram, Counted, AnswersMonoid, AnswersGreen, AnswersStarFree, AnswersLocal, AnswersTable, AnswersSummary}
use Rattle.report_sections.specs.TrueAnswers.{HasMoreElementsThan, IsTrueOfMonoid, IsTrueOfGreen, IsTrueOfTable, IsTrueOfPowers, IsTrueOfSubwords, IsBelowSimonsLevel, IsTrueOfFactors, IsTrueOfRows, IsTrueOfOrder, IsTrueOfSummary}

module _ (k : ℕ) (L : List ℕ → Type 0) where
  above_table : (m : SyntacticMonoid) → IsSyntacticMonoid k L m → (has : Bool) (most : ℕ)
      → IsTrue has ↔ (length m.graphs.words ≤ most) → has ≡ false
      → HasMoreElementsThan k L most
  above_table m is has most both none = elim (cases_lt most (length m.graphs.words)) [
    | inl more ↦ has_more_classes k (Syntactic k L) m.graphs.words
        is.graphs.words (syntactic_congruence k L).equivalence most more
    | inr few ↦ let bad : false ≡ true = sym none ∙ both.1 (omega (arith, few)) in cc
  ]

  powers_true : (limits : Limits) (m : SyntacticMonoid) (a : SfAnswer) (has : Bool)
      → IsSyntacticMonoid k L m → IsTrue has ↔ (length m.graphs.words ≤ limits.table)
      → IsStarFreeAnswer k L m limits.nodes has a → Tells k L a
      → IsTrueOfPowers limits k L a
  powers_true limits m (star_free.Yes l) has is table h t = t
  powers_true limits m (star_free.No l) has is table h t = (h.never, h.first)
  powers_true limits m star_free.TableLimit has is table h t =
      (above_table m is has limits.table table h.1, t)
  powers_true limits m star_free.Depth has is table h t = ((m, is, h.2), t)
  powers_true limits m star_free.Nodes has is table h t = ((m, is, h.2), t)

  -- where no level up to the last suffices, the last is below Simon's
  below_simons_level : (limits : Limits) (n : ℕ)
      → IsPiecewiseAnswer k L limits.pairs limits.level (piecewise.NoneTo n)
      → IsBelowSimonsLevel k L limits.level
  below_simons_level limits n h words chain l longest =
      elim (cases_lt limits.level (2 * length chain - 1)) [
        | inl less ↦ less
        | inr high ↦ absurd
            (bounded_by_simon k L words limits.pairs limits.level (piecewise.NoneTo n) l h chain
            longest h.0 high n refl)
      ]

  pub subwords_true : (limits : Limits) (a : PtAnswer)
      → IsPiecewiseAnswer k L limits.pairs limits.level a
      → IsTrueOfSubwords limits k L a
  subwords_true limits (piecewise.Yes n) h =
      (h.1.2, λ m f l. (h.1.0.before m f l).fails)
  subwords_true limits (piecewise.No w) h = λ n. told_apart k L w h.witness n
  subwords_true limits (piecewise.Wide n) h = (h.1.1, λ m f l. (h.1.0.before m f l).fails)
  subwords_true limits (piecewise.Pairs n) h =
      (h.1.1.many, λ m f l. (h.1.0.before m f l).fails)
  subwords_true limits (piecewise.NoneTo n) h = (
    h.1.0,
    λ m f l. (h.1.1 m f l).fails,
    below_simons_level limits n h,
  )

  factors_true : (limits : Limits) (m : SyntacticMonoid) (a : LtAnswer) (has : Bool)
      → IsSyntacticMonoid k L m → IsTrue has ↔ (length m.graphs.words ≤ limits.table)
      → IsLocalAnswer k L m.graphs.words has limits.level limits.pairs a
      → TellsFactors k L a → IsTrueOfFactors limits k L a
  factors_true limits m (locally.Yes n) has is table h t = t
  factors_true limits m (locally.No w) has is table h t = t
  factors_true limits m locally.TableLimit has is table h t =
      above_table m is has limits.table table h
  factors_true limits m locally.WorkLimit has is table h t =
      (m.graphs.words, is.graphs.words, h.1)
  factors_true limits m (locally.Wide n) has is table h t =
      (h.1.search.1, λ i f l. (h.1.search.0.before i f l).fails)
  factors_true limits m (locally.Pairs n) has is table h t =
      (h.1.search.1.many, λ i f l. (h.1.search.0.before i f l).fails)
  factors_true limits m (locally.NoneTo n) has is table h t =
      (h.1.search.0, λ i f l. (h.1.search.1 i f l).fails)

  pub rows_true : (a : Option PtWitness) → IsRTrivialAnswer k L a
      → IsTrueOfRows k L a
  rows_true None h = h
  rows_true (Some w) h = λ n. told_apart k L w h.1 n

  pub order_true : (a : Option CWitness) → IsCommutativeAnswer k L a
      → IsTrueOfOrder k L a
  order_true None h = h
  order_true (Some w) h = (h.context.behind.holds, h.first_in)

  pub star_free_true : (limits : Limits) (a : SfAnswer) → AnswersStarFree limits k L a
      → IsTrueOfPowers limits k L a
  star_free_true limits a h =
      powers_true limits h.monoid a h.has_table h.syntactic h.table h.answered h.tells

  pub local_true : (limits : Limits) (a : LtAnswer) → AnswersLocal limits k L a
      → IsTrueOfFactors limits k L a
  local_true limits a h =
      factors_true limits h.monoid a h.has_table h.syntactic h.table h.answered h.tells

  pub monoid_true : (a : Presented) → AnswersMonoid k L a → IsTrueOfMonoid k L a
  monoid_true a h = record {
    classes = h.syntactic.graphs.words;
    graphs = h.syntactic;
    presentation = h.presentation;
  }

  pub green_true : (a : Diagram) → AnswersGreen k L a → IsTrueOfGreen k L a
  green_true a h = record {
    elements = h.syntactic.graphs.words;
    classes = h.diagram;
    sizes = egg_boxes_have_one_size k (Syntactic k L) a.monoid.graphs.words
        (syntactic_congruence k L) h.syntactic.graphs.words a.boxes h.diagram.diagram;
  }

  pub table_true : (limits : Limits) (t : Option ProductTable) → AnswersTable limits k L t
      → IsTrueOfTable limits k L t
  table_true limits t h = record {
    words = h.monoid.graphs.words;
    elements = h.syntactic.graphs.words;
    products = h.products;
  }

  pub summary_true : (limits : Limits) (a : Counted) → AnswersSummary limits k L a
      → IsTrueOfSummary limits k L a
  summary_true limits a h = record {
    counted = h.counted;
    powers = star_free_true limits a.answers.star_free h.answered.star_free;
    subwords = subwords_true limits a.answers.piecewise h.answered.piecewise.answered;
    factors = local_true limits a.answers.local h.answered.local;
    rows = rows_true a.answers.r_trivial h.answered.r_trivial.answered;
    order = order_true a.answers.commutative h.answered.commutative;
  }
