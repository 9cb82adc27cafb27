-- The text of the section `local`.
use Rattle.std.specs.Prelude.{◌++◌, ⊤, ℕ, Bool, true, false, List, [], codes}
use Rattle.language_theory.specs.Words.{Over}
use Rattle.answers.specs.declared.factors.TheConstants.{MOST_WORK}
use Rattle.answers.specs.declared.factors.LtKind.{LtKind}
use Rattle.answers.specs.declared.factors.LtKind.TheVariants as kind
use Rattle.answers.specs.declared.factors.LtWitness.{LtWitness}
use Rattle.answers.specs.declared.factors.LtAnswer.{LtAnswer}
use Rattle.answers.specs.declared.factors.LtAnswer.TheVariants as answer
use Rattle.report_buffer.specs.Texts.{number_line, word_line, first_line}

-- the words of a witness are over k letters
pub record IsLocalWitnessOver (k : ℕ) (w : LtWitness) : Type 0 where
  pub first : Over k w.u
  pub wall : Over k w.x
  pub one : Over k w.y
  pub other : Over k w.z
  pub last : Over k w.v

abbrev pub IsLocalOver : ℕ → LtAnswer → Type 0
IsLocalOver k (answer.Yes n) = ⊤
IsLocalOver k (answer.No w) = IsLocalWitnessOver k w
IsLocalOver k answer.TableLimit = ⊤
IsLocalOver k answer.WorkLimit = ⊤
IsLocalOver k (answer.Wide n) = ⊤
IsLocalOver k (answer.Pairs n) = ⊤
IsLocalOver k (answer.NoneTo n) = ⊤

abbrev pub kind_text : LtKind → List ℕ
kind_text kind.Repeat = codes "local no repeat\n"
kind_text kind.Swap = codes "local no swap\n"

-- the second word that a swap exchanges with the first one; a repeat has none
abbrev pub other_line : List ℕ → LtKind → List ℕ → List ℕ
other_line signs kind.Repeat z = []
other_line signs kind.Swap z = word_line signs (codes "z") z

abbrev pub local_witness_text : List ℕ → LtWitness → List ℕ
local_witness_text signs w =
    word_line signs (codes "u") w.u ++ word_line signs (codes "x") w.x
    ++ word_line signs (codes "y") w.y ++ other_line signs w.kind w.z
    ++ word_line signs (codes "v") w.v ++ first_line w.first_in

-- the first line: the answer, with the least level that suffices, what fails, or the limit that was
-- met, where `side` is that of the table
abbrev pub local_head : ℕ → LtAnswer → List ℕ
local_head side (answer.Yes n) = number_line (codes "local yes") n
local_head side (answer.No w) = kind_text w.kind
local_head side answer.TableLimit = number_line (codes "local limit table") side
local_head side answer.WorkLimit = number_line (codes "local limit work") MOST_WORK
local_head side (answer.Wide n) = number_line (codes "local limit width") n
local_head side (answer.Pairs n) = number_line (codes "local limit pairs") n
local_head side (answer.NoneTo n) = number_line (codes "local limit level") n

-- the lines behind the first one: words that no level tells apart
abbrev pub local_body : List ℕ → LtAnswer → List ℕ
local_body signs (answer.Yes n) = []
local_body signs (answer.No w) = local_witness_text signs w
local_body signs answer.TableLimit = []
local_body signs answer.WorkLimit = []
local_body signs (answer.Wide n) = []
local_body signs (answer.Pairs n) = []
local_body signs (answer.NoneTo n) = []

-- the section: the answer, and what shows it
abbrev pub local_text : List ℕ → ℕ → LtAnswer → List ℕ
local_text signs side a = local_head side a ++ local_body signs a

-- whether the answer is a limit
abbrev pub is_local_limit : LtAnswer → Bool
is_local_limit (answer.Yes n) = false
is_local_limit (answer.No w) = false
is_local_limit answer.TableLimit = true
is_local_limit answer.WorkLimit = true
is_local_limit (answer.Wide n) = true
is_local_limit (answer.Pairs n) = true
is_local_limit (answer.NoneTo n) = true
