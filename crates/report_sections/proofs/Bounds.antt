-- The longest chain of a language's syntactic monoid, and the level that it bounds.
use Rattle.std.proofs.Common.{◌≡◌, ◌↔◌, ◌-◌, ◌*◌, ℕ, Bool, true, false, IsTrue, List, length, refl, subst}
use Rattle.language_theory.specs.Congruence.{Syntactic, Agree}
use Rattle.language_theory.specs.Representatives.{AreRepresentatives}
use Rattle.language_theory.specs.ShortlexGraph.{SameNode}
use Rattle.language_theory.proofs.Congruences.{syntactic_congruence, agree_turned}
use Rattle.monoid_theory.specs.Green.{IsJTrivial}
use Rattle.monoid_theory.proofs.Agreeing.{j_agrees}
use Rattle.cayley_tables.proofs.AgreeingGraphs.{graphs_agree}
use Rattle.green_relations.specs.Chains.{IsLongestChain}
use Rattle.green_relations.proofs.ChainLaws.{one_longest_chain, longest_chain_agrees}
use Rattle.syntactic_monoid.specs.SyntacticMonoid.{SyntacticMonoid, IsSyntacticMonoid}
use Rattle.syntactic_monoid.proofs.OneMonoid.{monoids_are_one}
use Rattle.piecewise_testable.proofs.Simon.{simons_level_suffices}
use Rattle.piecewise_testable.proofs.SufficientLevels.{a_sufficient_level_makes_it_j_trivial}
use Rattle.report_sections.specs.RightAnswers.{Bounded, AnswersBound}
use Rattle.report_sections.specs.TrueAnswers.{IsTrueOfLevel, IsTrueOfBound}

abbrev pub bounded_with : SyntacticMonoid → List ℕ → Bool → Bounded
bounded_with m chain trivial = record { monoid = m; chain = chain; trivial = trivial }

-- two marks of one truth are equal
one_mark : (a b : Bool) (P : Type 0) → IsTrue a ↔ P → IsTrue b ↔ P → a ≡ b
one_mark true true P h g = refl
one_mark true false P h g = let bad : false ≡ true = g.1 (h.0 refl) in cc
one_mark false true P h g = let bad : false ≡ true = h.1 (g.0 refl) in cc
one_mark false false P h g = refl

-- relations that agree on words over k letters are J-trivial together
j_trivial_agrees : (k : ℕ) (same alike : List ℕ → List ℕ → Type 0) → Agree k same alike
    → IsJTrivial k same → IsJTrivial k alike
j_trivial_agrees k same alike a h =
    record {
      one = λ s t os ot q.
          (a.both s t os ot).0 (h.one s t os ot (((j_agrees k same alike a).both s t os ot).1 q));
    }

module _ (k : ℕ) (L : List ℕ → Type 0) where
  pub one_bounded : (a b : Bounded) → AnswersBound k L a → AnswersBound k L b → a ≡ b
  one_bounded a b h g =
      let monoid = monoids_are_one k L a.monoid b.monoid h.syntactic g.syntactic in
      let P : SyntacticMonoid → Type 0 = λ m.
      IsLongestChain k (Syntactic k L) m.graphs.words a.chain in
      let chain = one_longest_chain k (Syntactic k L) b.monoid.graphs.words a.chain b.chain
      (subst P monoid h.longest) g.longest in
      let trivial = one_mark a.trivial b.trivial (IsJTrivial k (Syntactic k L)) h.trivial g.trivial
      in
      same_bounded a.monoid b.monoid a.chain b.chain a.trivial b.trivial monoid chain trivial
    where
      same_bounded : (m n : SyntacticMonoid) (c d : List ℕ) (p q : Bool) → m ≡ n → c ≡ d → p ≡ q
          → bounded_with m c p ≡ bounded_with n d q
      same_bounded m n c d p q e f x = cc (e, f, x)

  -- a chain bounds a level where the monoid is J-trivial, and no level suffices where it is not
  level_true : (words : List (List ℕ)) (chain : List ℕ) (trivial : Bool)
      → AreRepresentatives k (Syntactic k L) words → IsLongestChain k (Syntactic k L) words chain
      → IsTrue trivial ↔ IsJTrivial k (Syntactic k L)
      → IsTrueOfLevel k L trivial (2 * length chain - 1)
  level_true words chain true reps longest both =
      (both.0 refl, simons_level_suffices k L words chain reps longest (both.0 refl))
  level_true words chain false reps longest both = λ m suffices.
      let bad : false ≡ true =
      both.1 (a_sufficient_level_makes_it_j_trivial k m L words reps suffices) in cc

  pub bound_true : (a : Bounded) → AnswersBound k L a → IsTrueOfBound k L a
  bound_true a h = record {
    elements = h.syntactic.graphs.words;
    longest = h.longest;
    level = level_true a.monoid.graphs.words a.chain a.trivial h.syntactic.graphs.words h.longest
        h.trivial;
  }

  -- what is found in the graphs of the syntactic monoid is right of the language
  pub bound_of_monoid : (m : SyntacticMonoid) → IsSyntacticMonoid k L m
      → (chain : List ℕ) (trivial : Bool)
      → IsLongestChain m.graphs.right.letters (SameNode m.graphs.right) m.graphs.words chain
      → IsTrue trivial ↔ IsJTrivial m.graphs.right.letters (SameNode m.graphs.right)
      → AnswersBound k L (bounded_with m chain trivial)
  bound_of_monoid m is chain trivial longest both =
      let same = SameNode m.graphs.right in
      let agree = graphs_agree k (Syntactic k L) (syntactic_congruence k L) m.graphs is.graphs in
      let own = subst (λ (n : ℕ). IsLongestChain n same m.graphs.words chain)
      is.graphs.right.letters longest in
      let marked = subst (λ (n : ℕ). IsTrue trivial ↔ IsJTrivial n same) is.graphs.right.letters
      both in
      record {
        syntactic = is;
        longest = longest_chain_agrees k m.graphs.words is.graphs.words.over same (Syntactic k L)
            chain agree own;
        trivial = (
          λ t. j_trivial_agrees k same (Syntactic k L) agree (marked.0 t),
          λ j. marked.1
              (j_trivial_agrees k (Syntactic k L) same (agree_turned k same (Syntactic k L) agree)
              j),
        );
      }
