-- The text of the section `commutative`.
use Rattle.std.specs.Prelude.{◌<◌, ◌++◌, ⊤, ℕ, List, [], codes, Option, Some, None}
use Rattle.language_theory.specs.Words.{Over}
use Rattle.answers.specs.declared.commuting.CWitness.{CWitness}
use Rattle.report_buffer.specs.Texts.{letter_text, word_line, first_line}

-- the letters and the words of a witness are over k letters
pub record IsSwapOver (k : ℕ) (w : CWitness) : Type 0 where
  pub first : w.a < k
  pub second : w.b < k
  pub before : Over k w.u
  pub behind : Over k w.v

abbrev pub IsCommutativeOver : ℕ → Option CWitness → Type 0
IsCommutativeOver k None = ⊤
IsCommutativeOver k (Some w) = IsSwapOver k w

abbrev pub pair_text : List ℕ → ℕ → ℕ → List ℕ
pair_text signs a b = letter_text signs a ++ codes " " ++ letter_text signs b

abbrev pub letters_line : List ℕ → ℕ → ℕ → List ℕ
letters_line signs a b = codes "letters " ++ pair_text signs a b ++ codes "\n"

abbrev pub swap_text : List ℕ → CWitness → List ℕ
swap_text signs w =
    letters_line signs w.a w.b ++ word_line signs (codes "u") w.u
    ++ word_line signs (codes "v") w.v ++ first_line w.first_in

-- the first line: the answer
abbrev pub commutative_head : Option CWitness → List ℕ
commutative_head None = codes "commutative yes\n"
commutative_head (Some w) = codes "commutative no\n"

-- the lines behind the first one: two letters that do not commute, with a context that shows it
abbrev pub commutative_body : List ℕ → Option CWitness → List ℕ
commutative_body signs None = []
commutative_body signs (Some w) = swap_text signs w

-- the section: the answer, and what shows it
abbrev pub commutative_text : List ℕ → Option CWitness → List ℕ
commutative_text signs a = commutative_head a ++ commutative_body signs a
