-- Rounds by the numbers of the elements.
use Rattle.std.specs.Prelude.{◌<◌, ℕ, List, [], ◌∷◌, length}
use Rattle.language_theory.specs.Words.{word_at}
use Rattle.language_theory.specs.Representatives.{IsPlaceOf}
use Rattle.green_relations.specs.GreenClasses.{GreenClasses}
use Rattle.answers.specs.declared.subwords.Side.{Side}
use Rattle.answers.specs.declared.subwords.Side.TheVariants.{Right, Left}
use Rattle.piecewise_testable.specs.declared.rounds.Round.{Round}
use Rattle.piecewise_testable.specs.Sides.{beside, IsRound}

-- for each element the least element of its class on a side
abbrev pub labels_on : Side → GreenClasses → List ℕ
labels_on Right g = g.r
labels_on Left g = g.l

-- the numbers are those of a round
pub record IsRoundOf (side : Side) (k : ℕ) (same : List ℕ → List ℕ → Type 0)
    (words : List (List ℕ)) (r : Round) : Type 0 where
  pub element : r.element < length words
  pub back : r.back < length words
  pub moved : IsPlaceOf same words (beside side (word_at words r.element) (r.letter ∷ [])) r.moved
  pub round : IsRound side k same (word_at words r.element) r.letter (word_at words r.back)
