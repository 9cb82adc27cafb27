-- The witness of a round, in the words of the language.
use Rattle.std.proofs.Common.{◌≡◌, ℕ, List, [], ◌∷◌, sym, subst}
use Rattle.language_theory.specs.Words.{word_at}
use Rattle.language_theory.specs.Congruence.{Syntactic, Agree}
use Rattle.language_theory.specs.ShortlexGraph.{SameNode}
use Rattle.language_theory.proofs.Congruences.{syntactic_congruence}
use Rattle.cayley_tables.specs.CayleyGraphs.{CayleyGraphs}
use Rattle.cayley_tables.proofs.AgreeingGraphs.{graphs_agree}
use Rattle.syntactic_monoid.specs.SyntacticMonoid.{SyntacticMonoid, recognised, IsSyntactic}
use Rattle.answers.specs.declared.subwords.Side.{Side}
use Rattle.piecewise_testable.specs.declared.rounds.Round.{Round}
use Rattle.piecewise_testable.specs.declared.parting.Parting.{Parting}
use Rattle.piecewise_testable.specs.Sides.{beside, IsTrivialOn}
use Rattle.piecewise_testable.specs.Witness.{IsWitness}
use Rattle.piecewise_testable.specs.Rounds.{IsRoundOf}
use Rattle.piecewise_testable.specs.Partings.{IsParting}
use Rattle.piecewise_testable.proofs.BothSides.{over_beside}
use Rattle.piecewise_testable.proofs.Agreeing.{trivial_agrees, round_agrees, separation_of_congruent}

module _ (m : SyntacticMonoid) (h : IsSyntactic m) where
  -- words of one element are congruent
  pub element_agrees : Agree m.graphs.right.letters (SameNode m.graphs.right)
      (Syntactic m.graphs.right.letters (recognised m))
  element_agrees = graphs_agree m.graphs.right.letters
      (Syntactic m.graphs.right.letters (recognised m))
      (syntactic_congruence m.graphs.right.letters (recognised m)) m.graphs h.monoid.graphs

  pub trivial_in : (side : Side) (c : CayleyGraphs) → c ≡ m.graphs
      → IsTrivialOn side c.right.letters (SameNode c.right)
      → IsTrivialOn side m.graphs.right.letters (Syntactic m.graphs.right.letters (recognised m))
  trivial_in side c e t =
      trivial_agrees m.graphs.right.letters (SameNode m.graphs.right)
      (Syntactic m.graphs.right.letters (recognised m)) element_agrees side
      (subst (λ (g : CayleyGraphs). IsTrivialOn side g.right.letters (SameNode g.right)) e t)

  module _ (side : Side) (r : Round)
      (round : IsRoundOf side m.graphs.right.letters (SameNode m.graphs.right) m.graphs.words r)
      (p : Parting)
      (parting : IsParting m.graphs.right.letters (recognised m)
      (word_at m.graphs.words r.element) (word_at m.graphs.words r.moved) p) where
    -- the least words themselves
    least_witness : IsWitness m.graphs.right.letters (recognised m)
        (record {
          side = side;
          u = p.u;
          s = word_at m.graphs.words r.element;
          letter = r.letter;
          y = word_at m.graphs.words r.back;
          v = p.v;
          first_in = p.first_in;
        })
    least_witness = record {
      round = round_agrees m.graphs.right.letters (SameNode m.graphs.right)
          (Syntactic m.graphs.right.letters (recognised m)) element_agrees side
          (word_at m.graphs.words r.element) r.letter (word_at m.graphs.words r.back) round.round;
      context = separation_of_congruent m.graphs.right.letters (recognised m)
          (word_at m.graphs.words r.element) (word_at m.graphs.words r.moved)
          (beside side (word_at m.graphs.words r.element) (r.letter ∷ [])) p.u p.v
          ((element_agrees.both (word_at m.graphs.words r.moved)
          (beside side (word_at m.graphs.words r.element) (r.letter ∷ []))
          (h.monoid.graphs.words.over r.moved round.moved.within)
          (over_beside side m.graphs.right.letters (word_at m.graphs.words r.element)
          (r.letter ∷ []) (h.monoid.graphs.words.over r.element round.element)
          (round.round.letter.within, tt))).0 round.moved.related)
          parting.context;
      first_in = parting.first_in;
    }

    pub witness_of_round : (s y : List ℕ) → s ≡ word_at m.graphs.words r.element
        → y ≡ word_at m.graphs.words r.back
        → IsWitness m.graphs.right.letters (recognised m)
        (record {
          side = side;
          u = p.u;
          s = s;
          letter = r.letter;
          y = y;
          v = p.v;
          first_in = p.first_in;
        })
    witness_of_round s y e f =
        subst (λ (x : List ℕ). IsWitness m.graphs.right.letters (recognised m)
        (record {
          side = side;
          u = p.u;
          s = x;
          letter = r.letter;
          y = y;
          v = p.v;
          first_in = p.first_in;
        })) (sym e)
        (subst (λ (z : List ℕ). IsWitness m.graphs.right.letters (recognised m)
        (record {
          side = side;
          u = p.u;
          s = word_at m.graphs.words r.element;
          letter = r.letter;
          y = z;
          v = p.v;
          first_in = p.first_in;
        })) (sym f) least_witness)

  -- the round of equal graphs
  pub round_in : (side : Side) (c : CayleyGraphs) → c ≡ m.graphs → (r : Round)
      → IsRoundOf side c.right.letters (SameNode c.right) c.words r
      → IsRoundOf side m.graphs.right.letters (SameNode m.graphs.right) m.graphs.words r
  round_in side c e r h =
      subst (λ (g : CayleyGraphs). IsRoundOf side g.right.letters (SameNode g.right) g.words r) e h
