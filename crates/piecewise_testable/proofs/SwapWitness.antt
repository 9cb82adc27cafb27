-- The witness of letters that do not commute, in the words of the language.
use Rattle.std.proofs.Common.{◌≡◌, ℕ, ◌<◌, List, [], ◌∷◌, length, ap, subst, ◌∙◌, arith}
use Rattle.language_theory.specs.Words.{Over, word_at}
use Rattle.language_theory.specs.Congruence.{Syntactic}
use Rattle.language_theory.specs.ShortlexGraph.{node, SameNode}
use Rattle.language_theory.proofs.Congruences.{both_directions}
use Rattle.cayley_tables.specs.CayleyGraphs.{CayleyGraphs}
use Rattle.syntactic_monoid.specs.SyntacticMonoid.{SyntacticMonoid, recognised, IsSyntactic}
use Rattle.piecewise_testable.specs.declared.parting.Parting.{Parting}
use Rattle.piecewise_testable.specs.Sides.{IsLeastLetter}
use Rattle.piecewise_testable.specs.Commuting.{IsCommutative, Commute, HasSwap, IsCommutativeWitness}
use Rattle.piecewise_testable.specs.Partings.{IsParting}
use Rattle.piecewise_testable.proofs.Between.{syntactic_graphs}
use Rattle.piecewise_testable.proofs.Commutation.{commutative_by_letters}
use Rattle.piecewise_testable.proofs.Agreeing.{first_agrees, second_agrees, commutative_agrees, separation_of_both}
use Rattle.piecewise_testable.proofs.RoundWitness.{element_agrees}

module _ (m : SyntacticMonoid) (h : IsSyntactic m) where
  -- where letters commute in equal graphs, the monoid is commutative
  pub commutative_in : (c : CayleyGraphs) → c ≡ m.graphs
      → ((a b : ℕ) → a < c.right.letters → b < c.right.letters → Commute (SameNode c.right) a b)
      → IsCommutative m.graphs.right.letters
      (Syntactic m.graphs.right.letters (recognised m))
  commutative_in c e f =
      commutative_agrees m.graphs.right.letters (SameNode m.graphs.right)
      (Syntactic m.graphs.right.letters (recognised m)) (element_agrees m h)
      ((commutative_by_letters m.graphs.right.letters (SameNode m.graphs.right)
      (syntactic_graphs m h).congruence).1
      (subst (λ (g : CayleyGraphs). (a b : ℕ) → a < g.right.letters → b < g.right.letters
      → Commute (SameNode g.right) a b) e f))

  -- the word of the element of a word is congruent to it
  word_of_element : (c : CayleyGraphs) → c ≡ m.graphs → (w : List ℕ) (i : ℕ)
      → Over m.graphs.right.letters w → i < length m.graphs.words → i ≡ node c.right w
      → Syntactic m.graphs.right.letters (recognised m) (word_at m.graphs.words i) w
  word_of_element c e w i ow hi f =
      let s = (syntactic_graphs m h).shortlex in
      let l = s.long in
      ((element_agrees m h).both (word_at m.graphs.words i) w (s.least.over i hi) ow).0
      (s.leads i (omega arith) ∙ (f ∙ ap (λ (g : CayleyGraphs). node g.right w) e))

  -- the least letters that do not commute in equal graphs, and the parting of their elements
  pub record IsSwap (c : CayleyGraphs) (a b i j : ℕ) (p : Parting) : Type 0 where
    pub first : IsLeastLetter c.right.letters (HasSwap c.right.letters (SameNode c.right)) a
    pub second : IsLeastLetter c.right.letters (λ d. ¬ Commute (SameNode c.right) a d) b
    pub one : i ≡ node c.right (a ∷ b ∷ [])
    pub other : j ≡ node c.right (b ∷ a ∷ [])
    pub parting : IsParting m.graphs.right.letters (recognised m) (word_at m.graphs.words i)
        (word_at m.graphs.words j) p

  pub witness_of_swap : (c : CayleyGraphs) → c ≡ m.graphs → (a b i j : ℕ) (p : Parting)
      → i < length c.words → j < length c.words → IsSwap c a b i j p
      → IsCommutativeWitness m.graphs.right.letters (recognised m)
      (record { a = a; b = b; u = p.u; v = p.v; first_in = p.first_in })
  witness_of_swap c e a b i j p hi hj s = record {
    first = first_agrees m.graphs.right.letters (SameNode m.graphs.right)
        (Syntactic m.graphs.right.letters (recognised m)) (element_agrees m h) a first;
    second = second_agrees m.graphs.right.letters (SameNode m.graphs.right)
        (Syntactic m.graphs.right.letters (recognised m)) (element_agrees m h) a b first.within
        second;
    context = separation_of_both m.graphs.right.letters (recognised m)
        (word_at m.graphs.words i) (word_at m.graphs.words j) (a ∷ b ∷ []) (b ∷ a ∷ []) p.u p.v
        one other s.parting.context;
    first_in = both_directions s.parting.first_in
        (one p.u p.v s.parting.context.before.over s.parting.context.behind.over);
  }
    where
      first : IsLeastLetter m.graphs.right.letters
          (HasSwap m.graphs.right.letters (SameNode m.graphs.right)) a
      first =
          subst (λ (g : CayleyGraphs).
          IsLeastLetter g.right.letters (HasSwap g.right.letters (SameNode g.right)) a) e s.first

      second : IsLeastLetter m.graphs.right.letters (λ d. ¬ Commute (SameNode m.graphs.right) a d) b
      second =
          subst (λ (g : CayleyGraphs).
          IsLeastLetter g.right.letters (λ d. ¬ Commute (SameNode g.right) a d) b) e s.second

      within : (n : ℕ) → n < length c.words → n < length m.graphs.words
      within n l = subst (λ (g : CayleyGraphs). n < length g.words) e l

      one : Syntactic m.graphs.right.letters (recognised m) (word_at m.graphs.words i)
          (a ∷ b ∷ [])
      one =
          word_of_element c e (a ∷ b ∷ []) i (first.within, (second.within, tt)) (within i hi)
          s.one

      other : Syntactic m.graphs.right.letters (recognised m) (word_at m.graphs.words j)
          (b ∷ a ∷ [])
      other =
          word_of_element c e (b ∷ a ∷ []) j (second.within, (first.within, tt)) (within j hj)
          s.other
