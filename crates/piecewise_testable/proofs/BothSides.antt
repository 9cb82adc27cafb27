-- What holds on either side: classes are those of an equivalence, and words put beside related
-- words are related.
use Rattle.std.proofs.Common.{ℕ, List}
use Rattle.language_theory.specs.Words.{Over}
use Rattle.language_theory.specs.Congruence.{IsEquivalence, IsCongruence, Agree}
use Rattle.language_theory.proofs.Shortlex.{over_append}
use Rattle.language_theory.proofs.Congruences.{right_congruence}
use Rattle.monoid_theory.proofs.Ideals.{r_equivalence, l_equivalence, h_of_related}
use Rattle.monoid_theory.proofs.Agreeing.{r_agrees, l_agrees}
use Rattle.green_relations.specs.GreenClasses.{GreenClasses, AreLeastMates, AreGreens}
use Rattle.answers.specs.declared.subwords.Side.{Side}
use Rattle.answers.specs.declared.subwords.Side.TheVariants.{Right, Left}
use Rattle.piecewise_testable.specs.Sides.{beside, IsMate}
use Rattle.piecewise_testable.specs.Rounds.{labels_on}

pub over_beside : (side : Side) (k : ℕ) (s x : List ℕ) → Over k s → Over k x
    → Over k (beside side s x)
over_beside Right k s x o p = over_append k s x o p
over_beside Left k s x o p = over_append k x s p o

module _ (k : ℕ) (same : List ℕ → List ℕ → Type 0) (q : IsCongruence k same) where
  pub mate_equivalence : (side : Side) → IsEquivalence k (IsMate side k same)
  mate_equivalence Right = r_equivalence k same (right_congruence k same q)
  mate_equivalence Left = l_equivalence k same q

  -- related words are in one class
  pub mate_of_related : (side : Side) (s t : List ℕ) → Over k s → Over k t → same s t
      → IsMate side k same s t
  mate_of_related Right s t os ot h = (h_of_related k same q.equivalence s t os ot h).0
  mate_of_related Left s t os ot h = (h_of_related k same q.equivalence s t os ot h).1

  -- a word put beside related words
  pub beside_related : (side : Side) (s t x : List ℕ) → Over k s → Over k t → Over k x → same s t
      → same (beside side s x) (beside side t x)
  beside_related Right s t x os ot ox h = q.right s t x os ot ox h
  beside_related Left s t x os ot ox h = q.left s t x os ot ox h

  -- related words put beside a word
  pub related_beside : (side : Side) (s x y : List ℕ) → Over k s → Over k x → Over k y → same x y
      → same (beside side s x) (beside side s y)
  related_beside Right s x y os ox oy h = q.left x y s ox oy os h
  related_beside Left s x y os ox oy h = q.right x y s ox oy os h

-- the labels of the classes on a side
pub mates_on : (side : Side) (k : ℕ) (same : List ℕ → List ℕ → Type 0) (words : List (List ℕ))
    (g : GreenClasses) → AreGreens k same words g
    → AreLeastMates (IsMate side k same) words (labels_on side g)
mates_on Right k same words g h = h.r
mates_on Left k same words g h = h.l

pub mates_agree_on : (side : Side) (k : ℕ) (same other : List ℕ → List ℕ → Type 0)
    → Agree k same other → Agree k (IsMate side k same) (IsMate side k other)
mates_agree_on Right k same other a = r_agrees k same other a
mates_agree_on Left k same other a = l_agrees k same other a
