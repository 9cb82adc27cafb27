-- The egg-box diagram of a language's syntactic monoid.
use Rattle.std.proofs.Common.{◌≡◌, ℕ, Bool, List, subst}
use Rattle.language_theory.specs.Congruence.{Syntactic}
use Rattle.language_theory.specs.ShortlexGraph.{SameNode}
use Rattle.language_theory.proofs.Congruences.{syntactic_congruence}
use Rattle.monoid_theory.specs.Green.{IsIdempotent}
use Rattle.cayley_tables.proofs.AgreeingGraphs.{graphs_agree}
use Rattle.green_relations.specs.GreenClasses.{GreenClasses, AreGreens}
use Rattle.green_relations.specs.EggBoxes.{AreBoxesOf}
use Rattle.green_relations.proofs.AgreeingClasses.{greens_agree}
use Rattle.green_relations.proofs.EggBoxLaws.{egg_boxes}
use Rattle.green_relations.proofs.OneDiagram.{one_egg_box_list, one_mark_list}
use Rattle.syntactic_monoid.specs.SyntacticMonoid.{SyntacticMonoid, IsSyntacticMonoid}
use Rattle.report_sections.specs.RightAnswers.{AreBoxesFor}

module _ (k : ℕ) (L : List ℕ → Type 0) (m : SyntacticMonoid) (is : IsSyntacticMonoid k L m) where
  -- Green's classes in the graphs of the syntactic monoid are those of the syntactic congruence
  greens_of_monoid : (g : GreenClasses)
      → AreGreens m.graphs.right.letters (SameNode m.graphs.right) m.graphs.words g
      → AreGreens k (Syntactic k L) m.graphs.words g
  greens_of_monoid g h =
      greens_agree k m.graphs.words is.graphs.words.over (SameNode m.graphs.right) (Syntactic k L) g
      (graphs_agree k (Syntactic k L) (syntactic_congruence k L) m.graphs is.graphs)
      (subst (λ (n : ℕ). AreGreens n (SameNode m.graphs.right) m.graphs.words g)
      is.graphs.right.letters h)

  -- and their boxes are its egg-box diagram
  pub boxes_of_monoid : (g : GreenClasses) (boxes : List (List (List (List ℕ))))
      → AreGreens m.graphs.right.letters (SameNode m.graphs.right) m.graphs.words g
      → AreBoxesOf g boxes
      → AreBoxesFor k (Syntactic k L) m.graphs.words g.idempotents boxes
  boxes_of_monoid g boxes h own =
      let greens = greens_of_monoid g h in
      record {
        marks = greens.marks;
        idempotent = greens.idempotent;
        diagram = egg_boxes k (Syntactic k L) m.graphs.words g boxes (syntactic_congruence k L)
            is.graphs.words greens own;
      }

module _ (k : ℕ) (same : List ℕ → List ℕ → Type 0) (words : List (List ℕ)) (marks others : List Bool)
    (boxes more : List (List (List (List ℕ)))) (h : AreBoxesFor k same words marks boxes)
    (g : AreBoxesFor k same words others more) where
  pub one_list_of_marks : marks ≡ others
  one_list_of_marks = one_mark_list words (IsIdempotent same) marks others h.marks g.marks
      h.idempotent g.idempotent

  pub one_list_of_boxes : boxes ≡ more
  one_list_of_boxes = one_egg_box_list k same words boxes more h.diagram g.diagram
