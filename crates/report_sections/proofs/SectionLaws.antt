-- The table of sections: a section says one thing of a language, and what it says is true.
use Rattle.std.proofs.Common.{◌≡◌, ℕ, Bool, true, false, List, [], ◌∷◌, Option, refl, sym, ap, ◌∙◌, subst, length}
use Rattle.language_theory.specs.Congruence.{Syntactic}
use Rattle.language_theory.specs.Nerode.{MinimalAutomaton}
use Rattle.language_theory.proofs.Minimal.{one_minimal}
use Rattle.parallel_table.specs.ProductTables.{ProductTable}
use Rattle.syntactic_monoid.specs.SyntacticMonoid.{SyntacticMonoid}
use Rattle.syntactic_monoid.proofs.OneMonoid.{monoids_are_one}
use Rattle.report_text.specs.GreenSection.{marks_below}
use Rattle.report_text.specs.declared.summary_section.Counts.{Counts}
use Rattle.report_text.specs.declared.summary_section.Summary.{Summary}
use Rattle.answers.specs.declared.powers.SfAnswer.{SfAnswer}
use Rattle.answers.specs.declared.factors.LtAnswer.{LtAnswer}
use Rattle.answers.specs.declared.subwords.PtAnswer.{PtAnswer}
use Rattle.answers.specs.declared.subwords.PtWitness.{PtWitness}
use Rattle.answers.specs.declared.commuting.CWitness.{CWitness}
use Rattle.piecewise_testable.proofs.OneAnswer.{one_piecewise_answer, one_r_trivial_answer, one_commutative_answer}
use Rattle.command_line.specs.declared.commands.Command.{Command}
use Rattle.command_line.specs.declared.commands.Command.TheVariants as command
use Rattle.report_sections.specs.Limits.{Limits}
use Rattle.report_sections.specs.RightAnswers.{Presented, Diagram, Bounded, Counted, AnswersMonoid, AnswersGreen, AnswersBound, AnswersStarFree, AnswersPiecewise, AnswersLocal, AnswersRTrivial, AnswersTable, AnswersAll, AnswersSummary, AreCounts, AreBoxesFor, IsTableWithin}
use Rattle.report_sections.specs.Sections.{Said, Telling, TellsAnswer, TellsTruth, TellsWhere, is_section, telling_of, joined, IsSection, AreSections, AreSaid}
use Rattle.report_sections.proofs.Bounds.{one_bounded, bound_true}
use Rattle.report_sections.proofs.Rules.{rules_are_one_too}
use Rattle.report_sections.proofs.Locals.{one_answer_of_tables}
use Rattle.report_sections.proofs.StarFreeLists.{one_answer_of_lists}
use Rattle.report_sections.proofs.Tables.{one_section_text, one_limit}
use Rattle.report_sections.proofs.Truths.{monoid_true, green_true, star_free_true, subwords_true, local_true, rows_true, order_true, table_true, summary_true}
use Rattle.report_sections.proofs.Diagrams.{one_list_of_marks, one_list_of_boxes}

-- all right answers have one text, and all or none are limits
pub record SayOne (t : Telling) (a b : t.Answer) : Type 0 where
  pub text : t.text a ≡ t.text b
  pub limited : t.limited a ≡ t.limited b

-- The laws of a section: its right answers say one thing, and they mean what they are to mean.
pub record HasLaws (t : Telling) : Type 0 where
  pub one : (a b : t.Answer) → t.IsRight a → t.IsRight b → SayOne t a b
  pub holds : (a : t.Answer) → t.IsRight a → t.Meaning a

-- where there is one right answer, one thing is said
say_one : (t : Telling) → ((a b : t.Answer) → t.IsRight a → t.IsRight b → a ≡ b)
    → (a b : t.Answer) → t.IsRight a → t.IsRight b → SayOne t a b
say_one t one a b h k =
    record { text = ap t.text (one a b h k); limited = ap t.limited (one a b h k) }

abbrev presented_with : SyntacticMonoid → List (List ℕ × ℕ) → Presented
presented_with m rules = record { monoid = m; rules = rules }

abbrev diagram_with : SyntacticMonoid → List Bool → List (List (List (List ℕ))) → Diagram
diagram_with m idempotents boxes =
    record { monoid = m; idempotents = idempotents; boxes = boxes }

abbrev counted_with : Counts → Summary → Counted
counted_with counts answers = record { counts = counts; answers = answers }

module _ (k : ℕ) (L : List ℕ → Type 0) where
  one_presented : (a b : Presented) → AnswersMonoid k L a → AnswersMonoid k L b → a ≡ b
  one_presented a b h g =
      let monoid = monoids_are_one k L a.monoid b.monoid h.syntactic g.syntactic in
      let rules = rules_are_one_too k L a.monoid b.monoid a.rules b.rules monoid
      h.presentation g.presentation in
      same_presented a.monoid b.monoid a.rules b.rules monoid rules
    where
      same_presented : (m n : SyntacticMonoid) (p q : List (List ℕ × ℕ)) → m ≡ n → p ≡ q
          → presented_with m p ≡ presented_with n q
      same_presented m n p q e f = cc (e, f)

  one_diagram : (a b : Diagram) → AnswersGreen k L a → AnswersGreen k L b → a ≡ b
  one_diagram a b h g =
      let monoid = monoids_are_one k L a.monoid b.monoid h.syntactic g.syntactic in
      let P : SyntacticMonoid → Type 0 = λ m.
      AreBoxesFor k (Syntactic k L) m.graphs.words a.idempotents a.boxes in
      let diagram = subst P monoid h.diagram in
      let words = b.monoid.graphs.words in
      let marks = one_list_of_marks k (Syntactic k L) words a.idempotents b.idempotents a.boxes
      b.boxes diagram g.diagram in
      let boxes = one_list_of_boxes k (Syntactic k L) words a.idempotents b.idempotents a.boxes
      b.boxes diagram g.diagram in
      same_diagram a.monoid b.monoid a.idempotents b.idempotents a.boxes b.boxes monoid marks boxes
    where
      same_diagram : (m n : SyntacticMonoid) (p q : List Bool) (r s : List (List (List (List ℕ))))
          → m ≡ n → p ≡ q → r ≡ s → diagram_with m p r ≡ diagram_with n q s
      same_diagram m n p q r s e f d = cc (e, f, d)

abbrev answers_with : SfAnswer → PtAnswer → LtAnswer → Option PtWitness → Option CWitness → Summary
answers_with s p l r c =
    record { star_free = s; piecewise = p; local = l; r_trivial = r; commutative = c }

module _ (limits : Limits) (k : ℕ) (L : List ℕ → Type 0) where
  one_star_free : (a b : SfAnswer) → AnswersStarFree limits k L a → AnswersStarFree limits k L b
      → a ≡ b
  one_star_free a b h g =
      one_answer_of_lists k L h.monoid g.monoid
      (monoids_are_one k L h.monoid g.monoid h.syntactic g.syntactic) h.syntactic h.has_table
      g.has_table limits.table h.table g.table limits.nodes a b h.answered g.answered

  one_piecewise : (a b : PtAnswer) → AnswersPiecewise limits k L a → AnswersPiecewise limits k L b
      → a ≡ b
  one_piecewise a b h g =
      one_piecewise_answer k L limits.pairs limits.level a b h.answered g.answered

  one_local : (a b : LtAnswer) → AnswersLocal limits k L a → AnswersLocal limits k L b → a ≡ b
  one_local a b h g =
      one_answer_of_tables k L h.monoid g.monoid
      (monoids_are_one k L h.monoid g.monoid h.syntactic g.syntactic) h.syntactic h.has_table
      g.has_table limits.table h.table g.table limits.level limits.pairs a b h.answered g.answered

  one_r_trivial : (a b : Option PtWitness) → AnswersRTrivial limits k L a
      → AnswersRTrivial limits k L b → a ≡ b
  one_r_trivial a b h g = one_r_trivial_answer k L a b h.answered g.answered

  one_summary_answers : (a b : Summary) → AnswersAll limits k L a → AnswersAll limits k L b → a ≡ b
  one_summary_answers a b h g =
      same_answers a.star_free b.star_free a.piecewise b.piecewise a.local b.local a.r_trivial
      b.r_trivial a.commutative b.commutative
      (one_star_free a.star_free b.star_free h.star_free g.star_free)
      (one_piecewise a.piecewise b.piecewise h.piecewise g.piecewise)
      (one_local a.local b.local h.local g.local)
      (one_r_trivial a.r_trivial b.r_trivial h.r_trivial g.r_trivial)
      (one_commutative_answer k L a.commutative b.commutative h.commutative g.commutative)
    where
      same_answers : (s t : SfAnswer) (p q : PtAnswer) (l m : LtAnswer) (r u : Option PtWitness)
          (c d : Option CWitness) → s ≡ t → p ≡ q → l ≡ m → r ≡ u → c ≡ d
          → answers_with s p l r c ≡ answers_with t q m u d
      same_answers s t p q l m r u c d e f g h i = cc (e, f, g, h, i)

abbrev counts_with : ℕ → ℕ → ℕ → ℕ → ℕ → ℕ → Counts
counts_with size states elements rules boxes idempotents = record {
  size = size;
  states = states;
  elements = elements;
  rules = rules;
  boxes = boxes;
  idempotents = idempotents;
}

-- the counts of a language are one
one_counts : (limits : Limits) (k : ℕ) (L : List ℕ → Type 0) (c d : Counts)
    → AreCounts limits k L c → AreCounts limits k L d → c ≡ d
one_counts limits k L c d h g =
    let automaton = one_minimal k L h.automaton g.automaton h.minimal g.minimal in
    let monoid = monoids_are_one k L h.monoid g.monoid h.syntactic g.syntactic in
    let list = rules_are_one_too k L h.monoid g.monoid h.list g.list monoid
    h.presentation g.presentation in
    let P : SyntacticMonoid → Type 0 = λ m.
    AreBoxesFor k (Syntactic k L) m.graphs.words h.marks h.diagram in
    let diagram = subst P monoid h.egg_boxes in
    let marks = one_list_of_marks k (Syntactic k L) g.monoid.graphs.words
    h.marks g.marks h.diagram g.diagram diagram g.egg_boxes in
    let boxes = one_list_of_boxes k (Syntactic k L) g.monoid.graphs.words
    h.marks g.marks h.diagram g.diagram diagram g.egg_boxes in
    same_counts c.size c.states c.elements c.rules c.boxes c.idempotents d.size d.states d.elements
    d.rules d.boxes d.idempotents (h.generated ∙ sym g.generated)
    (h.states ∙ ap (λ (m : MinimalAutomaton). m.graph.size) automaton ∙ sym g.states)
    (h.elements ∙ ap (λ (m : SyntacticMonoid). length m.graphs.words) monoid ∙ sym g.elements)
    (h.rules ∙ ap (λ (r : List (List ℕ × ℕ)). length r) list ∙ sym g.rules)
    (h.boxes ∙ ap (λ (b : List (List (List (List ℕ)))). length b) boxes ∙ sym g.boxes)
    (h.idempotents
    ∙ ap (λ (m : SyntacticMonoid). marks_below h.marks (length m.graphs.words)) monoid
    ∙ ap (λ (b : List Bool). marks_below b (length g.monoid.graphs.words)) marks
    ∙ sym g.idempotents)
  where
    same_counts : (a b c d e f g h i j k l : ℕ) → a ≡ g → b ≡ h → c ≡ i → d ≡ j → e ≡ k → f ≡ l
        → counts_with a b c d e f ≡ counts_with g h i j k l
    same_counts a b c d e f g h i j k l p q r s t u = cc (p, q, r, s, t, u)

one_summary : (limits : Limits) (k : ℕ) (L : List ℕ → Type 0) (a b : Counted)
    → AnswersSummary limits k L a → AnswersSummary limits k L b → a ≡ b
one_summary limits k L a b h g =
    same_counted a.counts b.counts a.answers b.answers
    (one_counts limits k L a.counts b.counts h.counted g.counted)
    (one_summary_answers limits k L a.answers b.answers h.answered g.answered)
  where
    same_counted : (c d : Counts) (s t : Summary) → c ≡ d → s ≡ t
        → counted_with c s ≡ counted_with d t
    same_counted c d s t e f = cc (e, f)

-- a table has one text, and so has its limit
one_table : (limits : Limits) (signs : List ℕ) (L : List ℕ → Type 0) (s t : Option ProductTable)
    → AnswersTable limits (length signs) L s → AnswersTable limits (length signs) L t
    → SayOne (telling_of command.Table limits signs L) s t
one_table limits signs L s t h g =
    let same = Syntactic (length signs) L in
    let words = g.monoid.graphs.words in
    let P : SyntacticMonoid → Type 0 = λ m. IsTableWithin limits.table same m.graphs.words s in
    let monoid = monoids_are_one (length signs) L h.monoid g.monoid h.syntactic g.syntactic in
    let products = subst P monoid h.products in
    record {
      text = one_section_text same words limits.table s t products g.products;
      limited = one_limit same words limits.table s t products g.products;
    }

-- the table of laws
laws_of : (section : Command) (limits : Limits) (signs : List ℕ) (L : List ℕ → Type 0)
    → HasLaws (telling_of section limits signs L)
laws_of command.Automaton limits signs L = record {
  one = say_one (telling_of command.Automaton limits signs L) (one_minimal (length signs) L);
  holds = λ a h. h;
}
laws_of command.Monoid limits signs L = record {
  one = say_one (telling_of command.Monoid limits signs L) (one_presented (length signs) L);
  holds = monoid_true (length signs) L;
}
laws_of command.Green limits signs L = record {
  one = say_one (telling_of command.Green limits signs L) (one_diagram (length signs) L);
  holds = green_true (length signs) L;
}
laws_of command.StarFree limits signs L = record {
  one = say_one (telling_of command.StarFree limits signs L)
      (one_star_free limits (length signs) L);
  holds = star_free_true (length signs) L limits;
}
laws_of command.Piecewise limits signs L = record {
  one = say_one (telling_of command.Piecewise limits signs L)
      (one_piecewise limits (length signs) L);
  holds = λ a h. subwords_true (length signs) L limits a h.answered;
}
laws_of command.Local limits signs L = record {
  one = say_one (telling_of command.Local limits signs L) (one_local limits (length signs) L);
  holds = local_true (length signs) L limits;
}
laws_of command.RTrivial limits signs L = record {
  one = say_one (telling_of command.RTrivial limits signs L)
      (one_r_trivial limits (length signs) L);
  holds = λ a h. rows_true (length signs) L a h.answered;
}
laws_of command.Commutative limits signs L = record {
  one = say_one (telling_of command.Commutative limits signs L)
      (one_commutative_answer (length signs) L);
  holds = order_true (length signs) L;
}
laws_of command.Bound limits signs L = record {
  one = say_one (telling_of command.Bound limits signs L) (one_bounded (length signs) L);
  holds = bound_true (length signs) L;
}
laws_of command.Table limits signs L =
    record { one = one_table limits signs L; holds = table_true (length signs) L limits }
laws_of command.Generate limits signs L = record {
  one = say_one (telling_of command.Generate limits signs L) (one_summary limits (length signs) L);
  holds = summary_true (length signs) L limits;
}
laws_of command.Report limits signs L = record { one = λ a b h k. absurd h; holds = λ a h. h }

same_said : (p q : Said) → p.text ≡ q.text → p.limited ≡ q.limited → p ≡ q
same_said p q h k =
    ap (λ t. let x : Said = record { text = t; limited = p.limited } in x) h
    ∙ ap (λ b. let x : Said = record { text = q.text; limited = b } in x) k

tells : (is : Bool) (t : Telling) (said : Said) → TellsWhere is t said → TellsAnswer t said
tells true t said h = h
tells false t said h = absurd h

-- a section says one thing
one_section : (s : Command) (limits : Limits) (signs : List ℕ) (L : List ℕ → Type 0) (p q : Said)
    → IsSection s limits signs L p → IsSection s limits signs L q → p ≡ q
one_section s limits signs L p q h k =
    let t = telling_of s limits signs L in
    let a = tells (is_section s) t p h in
    let b = tells (is_section s) t q k in
    let one = (laws_of s limits signs L).one a.answer b.answer a.right b.right in
    same_said p q (a.text ∙ one.text ∙ sym b.text) (a.limited ∙ one.limited ∙ sym b.limited)

-- what a section says is what its answer means
pub section_true : (s : Command) (limits : Limits) (signs : List ℕ) (L : List ℕ → Type 0)
    (said : Said) → IsSection s limits signs L said
    → TellsTruth (telling_of s limits signs L) said.text
section_true s limits signs L said h =
    let a = tells (is_section s) (telling_of s limits signs L) said h in
    record {
      answer = a.answer;
      holds = (laws_of s limits signs L).holds a.answer a.right;
      text = a.text;
    }

all_sections : (sections : List Command) (limits : Limits) (signs : List ℕ) (L : List ℕ → Type 0)
    (p q : List Said)
    → AreSections sections limits signs L p → AreSections sections limits signs L q → p ≡ q
all_sections [] limits signs L [] [] h k = refl
all_sections [] limits signs L [] (y ∷ ys) h k = absurd k
all_sections [] limits signs L (x ∷ xs) q h k = absurd h
all_sections (s ∷ ss) limits signs L [] q h k = absurd h
all_sections (s ∷ ss) limits signs L (x ∷ xs) [] h k = absurd k
all_sections (s ∷ ss) limits signs L (x ∷ xs) (y ∷ ys) h k =
    ap (λ z. z ∷ xs) (one_section s limits signs L x y h.0 k.0)
    ∙ ap (λ zs. y ∷ zs) (all_sections ss limits signs L xs ys h.1 k.1)

pub one_said : (sections : List Command) (limits : Limits) (signs : List ℕ) (L : List ℕ → Type 0)
    (p q : Said) → AreSaid sections limits signs L p → AreSaid sections limits signs L q → p ≡ q
one_said sections limits signs L p q (xs, h, e) (ys, k, f) = e
    ∙ ap joined (all_sections sections limits signs L xs ys h k) ∙ sym f
