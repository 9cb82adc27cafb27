-- What is answered of the syntactic monoid of a language is answered of the language.
use Rattle.std.proofs.Common.{◌≡◌, ℕ, List, Option, Some, None, sym, subst}
use Rattle.std.specs.Prelude.{is_some, option_map, IfSome}
use Rattle.language_theory.specs.Languages.{HaveSameWords}
use Rattle.language_theory.specs.Nerode.{MinimalAutomaton, IsMinimal, accepted}
use Rattle.language_theory.specs.ShortlexGraph.{SameNode}
use Rattle.language_theory.proofs.Congruences.{other_direction}
use Rattle.language_theory.proofs.Minimal.{agreeing_minimal}
use Rattle.syntactic_monoid.specs.SyntacticMonoid.{SyntacticMonoid, recognised, IsSyntacticMonoid}
use Rattle.syntactic_monoid.proofs.OneMonoid.{same_words, monoid_of_agreeing}
use Rattle.cayley_tables.specs.CayleyGraphs.{CayleyGraphs}
use Rattle.green_relations.specs.GreenClasses.{GreenClasses}
use Rattle.parallel_table.specs.ProductTables.{ProductTable, IsTableOf}
use Rattle.answers.specs.declared.factors.LtAnswer.{LtAnswer}
use Rattle.locally_testable.specs.Answer.{IsLocalAnswer}
use Rattle.locally_testable.proofs.Agreeing.{local_answer_again}
use Rattle.locally_testable.proofs.Telling.{answer_tells}
use Rattle.answers.specs.declared.subwords.PtAnswer.{PtAnswer}
use Rattle.answers.specs.declared.subwords.PtWitness.{PtWitness}
use Rattle.answers.specs.declared.subwords.Side.TheVariants.{Right}
use Rattle.answers.specs.declared.commuting.CWitness.{CWitness}
use Rattle.piecewise_testable.specs.Answers.{IsPiecewiseAnswer}
use Rattle.piecewise_testable.specs.Witness.{IsRTrivialAnswer}
use Rattle.piecewise_testable.specs.Commuting.{IsCommutativeAnswer}
use Rattle.piecewise_testable.proofs.Agreeing.{answer_on_agrees, commutative_answer_agrees}
use Rattle.piecewise_testable.proofs.Answering.{piecewise_answer_agrees, always_apart}
use Rattle.piecewise_testable.proofs.Simon.{bounded_by_simon}
use Rattle.piecewise_testable.proofs.ToldApart.{found_apart}
use Rattle.answers.specs.declared.powers.SfAnswer.{SfAnswer}
use Rattle.star_free.specs.Answer.{IsStarFreeAnswer, Tells}
use Rattle.star_free.proofs.OneList.{answer_in_both, tells_in_both}
use Rattle.report_sections.specs.Limits.{Limits}
use Rattle.report_sections.specs.RightAnswers.{IsTableWithin, AnswersStarFree, AnswersPiecewise, AnswersLocal, AnswersRTrivial}
use Rattle.report_sections.specs.Answers.{Values, HasGreen, HasTable, AreGreensOf}
use Rattle.report_sections.proofs.Tables.{table_within}

module _ (k : ℕ) (L : List ℕ → Type 0) (m : SyntacticMonoid) (is : IsSyntacticMonoid k L m) where
  -- what is true of the language that the monoid recognises, and goes along with words, is true of L
  of_recognised : (P : ℕ → (List ℕ → Type 0) → Type 0)
      → (HaveSameWords k (recognised m) L → P k (recognised m) → P k L)
      → P m.graphs.right.letters (recognised m) → P k L
  of_recognised P along h =
      along (record { both = is.accepts })
      (subst (λ (n : ℕ). P n (recognised m)) is.graphs.right.letters h)

  -- the minimal automaton of the language is that of what its monoid recognises
  pub minimal_of_recognised : (d : MinimalAutomaton) → IsMinimal k L d
      → IsMinimal m.graphs.right.letters (recognised m) d
  minimal_of_recognised d h =
      subst (λ (n : ℕ). IsMinimal n (recognised m) d) (sym is.graphs.right.letters)
      (agreeing_minimal k L (recognised m) d (same_words k L m is) h)

  pub star_free_answers : {T : Type 0} (value : T → ProductTable) (t : Option T) (limits : Limits)
      (a : SfAnswer)
      → IsTableWithin limits.table (SameNode m.graphs.right) m.graphs.words (option_map value t)
      → IsStarFreeAnswer m.graphs.right.letters (recognised m) m limits.nodes (is_some t) a
      → Tells m.graphs.right.letters (recognised m) a → AnswersStarFree limits k L a
  star_free_answers value t limits a table h tells = record {
    monoid = m;
    syntactic = is;
    has_table = is_some t;
    table = table_within limits.table (SameNode m.graphs.right) m.graphs.words value t table;
    answered = of_recognised (λ n M. IsStarFreeAnswer n M m limits.nodes (is_some t) a)
        (λ same. answer_in_both k (recognised m) L same m limits.nodes (is_some t) a) h;
    tells = of_recognised (λ n M. Tells n M a)
        (λ same. tells_in_both k (recognised m) L same a) tells;
  }

  pub piecewise_answers : (limits : Limits) (a : PtAnswer)
      → IsPiecewiseAnswer m.graphs.right.letters (recognised m) limits.pairs limits.level a
      → AnswersPiecewise limits k L a
  piecewise_answers limits a h =
      let found = of_recognised (λ n M. IsPiecewiseAnswer n M limits.pairs limits.level a)
      (λ same. piecewise_answer_agrees k (recognised m) L same limits.pairs limits.level a) h in
      record {
        answered = found;
        tells = always_apart k L limits.pairs limits.level a found;
        simon = λ words l. bounded_by_simon k L words limits.pairs limits.level a l found;
      }

  pub r_trivial_answers : (limits : Limits) (a : Option PtWitness)
      → IsRTrivialAnswer m.graphs.right.letters (recognised m) a → AnswersRTrivial limits k L a
  r_trivial_answers limits a h =
      let found = of_recognised (λ n M. IsRTrivialAnswer n M a)
      (λ same. answer_on_agrees k (recognised m) L same Right a) h in
      record { answered = found; tells = found_apart Right k L a found }

  pub commutative_answers : (a : Option CWitness)
      → IsCommutativeAnswer m.graphs.right.letters (recognised m) a → IsCommutativeAnswer k L a
  commutative_answers a h =
      of_recognised (λ n M. IsCommutativeAnswer n M a)
      (λ same. commutative_answer_agrees k (recognised m) L same a) h

module _ (k : ℕ) (L : List ℕ → Type 0) (d : MinimalAutomaton) (h : IsMinimal k L d) where
  -- a minimal automaton of the language accepts its words
  pub accepted_words : HaveSameWords k (accepted d) L
  accepted_words = record { both = h.final }

  monoid_of_same : (m : SyntacticMonoid) → IsSyntacticMonoid k L m
      → IsSyntacticMonoid k (accepted d) m
  monoid_of_same m is =
      monoid_of_agreeing k L (accepted d) m
      (record { both = λ w o. other_direction (h.final w o) }) is

  -- the syntactic monoid of the language is that of what its minimal automaton accepts
  pub monoid_of_accepted : (m : SyntacticMonoid) → IsSyntacticMonoid k L m
      → IsSyntacticMonoid d.graph.letters (accepted d) m
  monoid_of_accepted m is =
      subst (λ (n : ℕ). IsSyntacticMonoid n (accepted d) m) (sym h.classes.letters)
      (monoid_of_same m is)

  pub local_answers : {T : Type 0} (value : T → ProductTable) (t : Option T) (limits : Limits)
      (m : SyntacticMonoid) (a : LtAnswer) → IsSyntacticMonoid k L m
      → IsTableWithin limits.table (SameNode m.graphs.right) m.graphs.words (option_map value t)
      → IsLocalAnswer d.graph.letters (accepted d) m.graphs.words (is_some t) limits.level
      limits.pairs a
      → AnswersLocal limits k L a
  local_answers value t limits m a is table x =
      let found = local_answer_again k (accepted d) L accepted_words m.graphs.words
      (monoid_of_same m is).graphs.words (is_some t) limits.level limits.pairs a
      (subst (λ (n : ℕ). IsLocalAnswer n (accepted d) m.graphs.words (is_some t) limits.level
      limits.pairs a) h.classes.letters x) in
      record {
        monoid = m;
        syntactic = is;
        has_table = is_some t;
        table = table_within limits.table (SameNode m.graphs.right) m.graphs.words value t table;
        answered = found;
        tells = answer_tells k L m.graphs.words is.graphs.words (is_some t) limits.level limits.pairs
            a found;
      }

-- a table that is there has all products of the monoid's graphs
pub table_is_filled : (most : ℕ) (c : CayleyGraphs) (t : Option ProductTable)
    → IsTableWithin most (SameNode c.right) c.words t → IfSome t (IsTableOf c)
table_is_filled most c None h = tt
table_is_filled most c (Some t) h = record { side = h.1.side; each = h.1.each }

-- the table that a section needs is that of the monoid that is there
pub table_there : (v : Values) → HasTable v → (m : SyntacticMonoid) → v.monoid ≡ Some m
    → IsTableWithin v.limits.table (SameNode m.graphs.right) m.graphs.words v.table
table_there v h m there =
    let held = h.there in
    let same : h.monoid ≡ m = cc in
    let P : SyntacticMonoid → Type 0 = λ x.
    IsTableWithin v.limits.table (SameNode x.graphs.right) x.graphs.words v.table in
    subst P same h.table

-- and so are Green's classes
pub greens_there : (v : Values) → HasGreen v → (m : SyntacticMonoid) (g : GreenClasses)
    → v.monoid ≡ Some m → v.green ≡ Some g → AreGreensOf m.graphs g
greens_there v h m g there found =
    let held = h.there in
    let made = h.classes.1 in
    let monoid : h.monoid ≡ m = cc in
    let classes : h.classes.0 ≡ g = cc in
    subst (λ (x : SyntacticMonoid). AreGreensOf x.graphs g) monoid
    (subst (AreGreensOf h.monoid.graphs) classes h.classes.2)
