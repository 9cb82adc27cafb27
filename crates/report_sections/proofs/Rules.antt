-- The letters and the rules of a language's syntactic monoid.
use Rattle.std.proofs.Common.{◌≡◌, ℕ, List, subst}
use Rattle.language_theory.specs.Congruence.{Syntactic}
use Rattle.language_theory.specs.ShortlexGraph.{SameNode}
use Rattle.language_theory.proofs.Congruences.{syntactic_congruence}
use Rattle.monoid_theory.specs.Presentation.{AreRules}
use Rattle.monoid_theory.proofs.Agreeing.{agreeing_rules}
use Rattle.monoid_theory.proofs.Rewriting.{rules_are_one}
use Rattle.cayley_tables.proofs.AgreeingGraphs.{graphs_agree}
use Rattle.syntactic_monoid.specs.SyntacticMonoid.{SyntacticMonoid, IsSyntacticMonoid}

module _ (k : ℕ) (L : List ℕ → Type 0) where
  -- the letters of the syntactic monoid of L are those of L
  pub letters_of_monoid : (m : SyntacticMonoid) → IsSyntacticMonoid k L m
      → m.graphs.right.letters ≡ k
  letters_of_monoid m is = is.graphs.right.letters

  -- the rules of its graphs are those of the syntactic congruence
  pub rules_of_monoid : (m : SyntacticMonoid) (rules : List (List ℕ × ℕ)) → IsSyntacticMonoid k L m
      → AreRules m.graphs.right.letters (SameNode m.graphs.right) m.graphs.words rules
      → AreRules k (Syntactic k L) m.graphs.words rules
  rules_of_monoid m rules is are =
      agreeing_rules k (SameNode m.graphs.right) (Syntactic k L)
      (graphs_agree k (Syntactic k L) (syntactic_congruence k L) m.graphs is.graphs)
      m.graphs.words is.graphs.words.over rules
      (subst (λ (n : ℕ). AreRules n (SameNode m.graphs.right) m.graphs.words rules)
      (letters_of_monoid m is) are)

  -- a language has one monoid and one list of rules
  pub rules_are_one_too : (m n : SyntacticMonoid) (p q : List (List ℕ × ℕ)) → m ≡ n
      → AreRules k (Syntactic k L) m.graphs.words p → AreRules k (Syntactic k L) n.graphs.words q
      → p ≡ q
  rules_are_one_too m n p q same h g =
      rules_are_one k (Syntactic k L) n.graphs.words p q
      (subst (λ (x : SyntacticMonoid). AreRules k (Syntactic k L) x.graphs.words p) same h) g
