-- The texts of the sections `piecewise` and `rtrivial`.
use Rattle.std.specs.Prelude.{◌<◌, ◌++◌, ⊤, ℕ, Bool, true, false, List, [], codes, Option, Some, None}
use Rattle.language_theory.specs.Words.{Over}
use Rattle.answers.specs.declared.subwords.Side.{Side}
use Rattle.answers.specs.declared.subwords.Side.TheVariants as side
use Rattle.answers.specs.declared.subwords.PtWitness.{PtWitness}
use Rattle.answers.specs.declared.subwords.PtAnswer.{PtAnswer}
use Rattle.answers.specs.declared.subwords.PtAnswer.TheVariants as answer
use Rattle.report_buffer.specs.Texts.{letter_text, number_line, word_line, first_line}

-- the words of a witness are over k letters
pub record IsWitnessOver (k : ℕ) (w : PtWitness) : Type 0 where
  pub first : Over k w.u
  pub element : Over k w.s
  pub within : w.letter < k
  pub back : Over k w.y
  pub last : Over k w.v

abbrev pub IsPiecewiseOver : ℕ → PtAnswer → Type 0
IsPiecewiseOver k (answer.Yes n) = ⊤
IsPiecewiseOver k (answer.No w) = IsWitnessOver k w
IsPiecewiseOver k (answer.Wide n) = ⊤
IsPiecewiseOver k (answer.Pairs n) = ⊤
IsPiecewiseOver k (answer.NoneTo n) = ⊤

abbrev pub IsRTrivialOver : ℕ → Option PtWitness → Type 0
IsRTrivialOver k None = ⊤
IsRTrivialOver k (Some w) = IsWitnessOver k w

abbrev pub side_text : Side → List ℕ
side_text side.Right = codes "right"
side_text side.Left = codes "left"

abbrev pub letter_line : List ℕ → ℕ → List ℕ
letter_line signs a = codes "letter " ++ letter_text signs a ++ codes "\n"

-- the words of a witness, each in a line
abbrev pub witness_text : List ℕ → PtWitness → List ℕ
witness_text signs w =
    word_line signs (codes "u") w.u ++ word_line signs (codes "s") w.s
    ++ letter_line signs w.letter
    ++ word_line signs (codes "y") w.y ++ word_line signs (codes "v") w.v ++ first_line w.first_in

abbrev pub no_head : PtWitness → List ℕ
no_head w = codes "piecewise no " ++ side_text w.side ++ codes "\n"

-- the first line of `piecewise`: the answer, with the least level that suffices or the limit that was
-- met
abbrev pub piecewise_head : PtAnswer → List ℕ
piecewise_head (answer.Yes n) = number_line (codes "piecewise yes") n
piecewise_head (answer.No w) = no_head w
piecewise_head (answer.Wide n) = number_line (codes "piecewise limit width") n
piecewise_head (answer.Pairs n) = number_line (codes "piecewise limit pairs") n
piecewise_head (answer.NoneTo n) = number_line (codes "piecewise limit level") n

-- the lines behind the first one: words that no level tells apart
abbrev pub piecewise_body : List ℕ → PtAnswer → List ℕ
piecewise_body signs (answer.Yes n) = []
piecewise_body signs (answer.No w) = witness_text signs w
piecewise_body signs (answer.Wide n) = []
piecewise_body signs (answer.Pairs n) = []
piecewise_body signs (answer.NoneTo n) = []

-- the section `piecewise`: the answer, and what shows it
abbrev pub piecewise_text : List ℕ → PtAnswer → List ℕ
piecewise_text signs a = piecewise_head a ++ piecewise_body signs a

-- whether the answer is a limit
abbrev pub is_piecewise_limit : PtAnswer → Bool
is_piecewise_limit (answer.Yes n) = false
is_piecewise_limit (answer.No w) = false
is_piecewise_limit (answer.Wide n) = true
is_piecewise_limit (answer.Pairs n) = true
is_piecewise_limit (answer.NoneTo n) = true

-- the first line of `rtrivial`: the answer
abbrev pub r_trivial_head : Option PtWitness → List ℕ
r_trivial_head None = codes "rtrivial yes\n"
r_trivial_head (Some w) = codes "rtrivial no\n"

-- the lines behind the first one: words that show that the monoid is not R-trivial
abbrev pub r_trivial_body : List ℕ → Option PtWitness → List ℕ
r_trivial_body signs None = []
r_trivial_body signs (Some w) = witness_text signs w

-- the section `rtrivial`: the answer, and what shows it
abbrev pub r_trivial_text : List ℕ → Option PtWitness → List ℕ
r_trivial_text signs a = r_trivial_head a ++ r_trivial_body signs a
