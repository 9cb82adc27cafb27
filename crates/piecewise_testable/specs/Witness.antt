-- Words that no level of short subwords tells apart, of a language whose monoid is not R-trivial,
-- or not L-trivial. Which words stand for all, the least ones, is this project's choice.
use Rattle.std.specs.Prelude.{◌≡◌, ◌++◌, ◌↔◌, ℕ, IsTrue, List, [], ◌∷◌, Option, Some, None}
use Rattle.language_theory.specs.Words.{power}
use Rattle.language_theory.specs.Languages.{ExactlyOne}
use Rattle.language_theory.specs.Congruence.{Syntactic}
use Rattle.monoid_theory.specs.Separation.{IsSeparation}
use Rattle.subword_theory.specs.ShortSubwords.{SameSubwords}
use Rattle.answers.specs.declared.subwords.Side.{Side}
use Rattle.answers.specs.declared.subwords.Side.TheVariants.{Right}
use Rattle.answers.specs.declared.subwords.PtWitness.{PtWitness}
use Rattle.piecewise_testable.specs.Sides.{beside, IsTrivialOn, IsRound}

-- the least words that go round on a side, the least context that separates s from s with the
-- letter beside it, and whether u s v is in the language
pub record IsWitness (k : ℕ) (L : List ℕ → Type 0) (w : PtWitness) : Type 0 where
  pub round : IsRound w.side k (Syntactic k L) w.s w.letter w.y
  pub context : IsSeparation k L w.s (beside w.side w.s (w.letter ∷ [])) w.u w.v
  pub first_in : IsTrue w.first_in ↔ L (w.u ++ (w.s ++ w.v))

-- s with (a y)^n behind it, or with (y a)^n before it
abbrev pub pumped : ℕ → PtWitness → List ℕ
pumped n w = beside w.side w.s (power n (beside w.side (w.letter ∷ []) w.y))

-- the two words of a witness for n: u s (a y)^n v and u s (a y)^n a v on the right,
-- u (y a)^n s v and u a (y a)^n s v on the left
abbrev pub first_word : ℕ → PtWitness → List ℕ
first_word n w = w.u ++ (pumped n w ++ w.v)

abbrev pub second_word : ℕ → PtWitness → List ℕ
second_word n w = w.u ++ (beside w.side (pumped n w) (w.letter ∷ []) ++ w.v)

-- exactly one of the words is in L, and they have the same subwords of length at most n
pub record AreToldApart (L : List ℕ → Type 0) (n : ℕ) (s t : List ℕ) : Type 0 where
  pub subwords : SameSubwords n s t
  pub one : ExactlyOne (L s) (L t)

-- there is a witness on this side, or the monoid is trivial on it
abbrev pub IsAnswerOn : Side → ℕ → (List ℕ → Type 0) → Option PtWitness → Type 0
IsAnswerOn side k L None = IsTrivialOn side k (Syntactic k L)
IsAnswerOn side k L (Some w) = (w.side ≡ side) × IsWitness k L w

-- the monoid of L is R-trivial, or w shows that it is not
abbrev pub IsRTrivialAnswer : ℕ → (List ℕ → Type 0) → Option PtWitness → Type 0
IsRTrivialAnswer k L answer = IsAnswerOn Right k L answer
