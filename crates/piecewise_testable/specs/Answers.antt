-- What is answered of a language's short subwords: the least level that suffices (Simon 1975:
-- piecewise testable events), or words that no level tells apart. To limit the levels and their
-- pairs is this project's choice.
use Rattle.std.specs.Prelude.{◌≢◌, ◌≤◌, ◌↔◌, ◌-◌, ◌*◌, ⊤, ℕ, IsTrue, List, length}
use Rattle.language_theory.specs.Congruence.{Syntactic}
use Rattle.monoid_theory.specs.Green.{IsRTrivial, IsJTrivial}
use Rattle.green_relations.specs.Chains.{IsLongestChain}
use Rattle.level_search.specs.declared.level.Level.{Level}
use Rattle.level_search.specs.declared.level.Level.TheVariants as level
use Rattle.level_search.specs.Levels.{IsAnswer}
use Rattle.subword_theory.specs.ShortSubwords.{SameSubwords}
use Rattle.subword_theory.specs.SubwordRows.{width}
use Rattle.answers.specs.declared.subwords.Side.{Side}
use Rattle.answers.specs.declared.subwords.Side.TheVariants.{Right, Left}
use Rattle.answers.specs.declared.subwords.PtWitness.{PtWitness}
use Rattle.answers.specs.declared.subwords.PtAnswer.{PtAnswer}
use Rattle.answers.specs.declared.subwords.PtAnswer.TheVariants as answer
use Rattle.piecewise_testable.specs.Witness.{IsWitness, AreToldApart, first_word, second_word}

-- the answer of a search through the levels of short subwords, from level 0 to the last one, in
-- which each level may have `most` pairs
abbrev pub IsLevel : ℕ → (List ℕ → Type 0) → ℕ → ℕ → Level → Type 0
IsLevel k L most last a = IsAnswer k L (width k) (λ n. SameSubwords n) most 0 last a

-- the monoid is J-trivial, and so the search answers
abbrev pub IsTrivialAnswer : ℕ → (List ℕ → Type 0) → ℕ → ℕ → Level → Type 0
IsTrivialAnswer k L most last a = IsJTrivial k (Syntactic k L) × IsLevel k L most last a

-- a witness stands on the left only where the monoid is R-trivial, so that there is none on the
-- right
abbrev pub IsFirstSide : Side → ℕ → (List ℕ → List ℕ → Type 0) → Type 0
IsFirstSide Right k same = ⊤
IsFirstSide Left k same = IsRTrivial k same

-- the monoid is not J-trivial, and w shows it
pub record IsRefusal (k : ℕ) (L : List ℕ → Type 0) (w : PtWitness) : Type 0 where
  pub not_trivial : ¬ IsJTrivial k (Syntactic k L)
  pub side : IsFirstSide w.side k (Syntactic k L)
  pub witness : IsWitness k L w

-- No with a witness where the monoid of L is not J-trivial, and else the answer of the search
abbrev pub IsPiecewiseAnswer : ℕ → (List ℕ → Type 0) → ℕ → ℕ → PtAnswer → Type 0
IsPiecewiseAnswer k L most last (answer.No w) = IsRefusal k L w
IsPiecewiseAnswer k L most last (answer.Yes n) = IsTrivialAnswer k L most last (level.Yes n)
IsPiecewiseAnswer k L most last (answer.Wide n) = IsTrivialAnswer k L most last (level.Wide n)
IsPiecewiseAnswer k L most last (answer.Pairs n) = IsTrivialAnswer k L most last (level.Pairs n)
IsPiecewiseAnswer k L most last (answer.NoneTo n) = IsTrivialAnswer k L most last (level.NoneTo n)

-- Where the monoid is J-trivial and n is the number of elements of its longest chain of ideals, level
-- 2 n - 1 suffices (Simon 1975): a search that goes up to it does not answer that none does.
abbrev pub IsBoundedBySimon : ℕ → (List ℕ → Type 0) → List (List ℕ) → ℕ → PtAnswer → Type 0
IsBoundedBySimon k L words last a =
    (chain : List ℕ) → IsLongestChain k (Syntactic k L) words chain → IsJTrivial k (Syntactic k L)
    → 2 * length chain - 1 ≤ last → (n : ℕ) → a ≢ answer.NoneTo n

-- what a search answers, as an answer
abbrev pub answer_of : Level → PtAnswer
answer_of (level.Yes n) = answer.Yes n
answer_of (level.Wide n) = answer.Wide n
answer_of (level.Pairs n) = answer.Pairs n
answer_of (level.NoneTo n) = answer.NoneTo n

-- the two words of a witness for n are told apart, and `first_in` says which one is in L
pub record IsToldApart (L : List ℕ → Type 0) (n : ℕ) (w : PtWitness) : Type 0 where
  pub apart : AreToldApart L n (first_word n w) (second_word n w)
  pub first_in : IsTrue w.first_in ↔ L (first_word n w)

-- a witness, if the answer has one, is told apart at every level
abbrev pub IsAlwaysToldApart : (List ℕ → Type 0) → PtAnswer → Type 0
IsAlwaysToldApart L (answer.No w) = (n : ℕ) → IsToldApart L n w
IsAlwaysToldApart L (answer.Yes n) = ⊤
IsAlwaysToldApart L (answer.Wide n) = ⊤
IsAlwaysToldApart L (answer.Pairs n) = ⊤
IsAlwaysToldApart L (answer.NoneTo n) = ⊤
