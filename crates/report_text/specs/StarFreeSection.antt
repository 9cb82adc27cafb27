-- The text of the section `starfree`.
use Rattle.std.specs.Prelude.{◌++◌, ⊤, ℕ, Bool, true, false, List, [], codes, length}
use Rattle.std.specs.Fmt.{decimal}
use Rattle.language_theory.specs.Words.{Over}
use Rattle.star_free_theory.specs.declared.nodes.SfNode.{SfNode}
use Rattle.star_free_theory.specs.declared.nodes.SfNode.TheVariants as node
use Rattle.star_free_theory.specs.Pruning.{node_at}
use Rattle.star_free_lists.specs.SfList.{StarFreeList, AreLettersBelow}
use Rattle.answers.specs.declared.powers.Loop.{Loop}
use Rattle.answers.specs.declared.powers.SfAnswer.{SfAnswer}
use Rattle.answers.specs.declared.powers.SfAnswer.TheVariants as answer
use Rattle.report_buffer.specs.Texts.{texts_below, letter_text, number_line, word_line, first_line}

-- the words that never settle are over k letters
pub record IsLoopOver (k : ℕ) (l : Loop) : Type 0 where
  pub first : Over k l.u
  pub powers : Over k l.x
  pub last : Over k l.v

abbrev pub IsStarFreeOver : ℕ → SfAnswer → Type 0
IsStarFreeOver k (answer.Yes l) = AreLettersBelow k l.nodes
IsStarFreeOver k (answer.No l) = IsLoopOver k l
IsStarFreeOver k answer.TableLimit = ⊤
IsStarFreeOver k answer.Depth = ⊤
IsStarFreeOver k answer.Nodes = ⊤

-- the name of a connective, and the numbers of the two nodes that it joins
abbrev pub pair_text : List ℕ → ℕ → ℕ → List ℕ
pair_text name i j = name ++ codes " " ++ decimal i ++ codes " " ++ decimal j

abbrev pub node_text : List ℕ → SfNode → List ℕ
node_text signs node.Empty = codes "none"
node_text signs node.Eps = codes "eps"
node_text signs (node.Letter a) = codes "letter " ++ letter_text signs a
node_text signs (node.Not i) = codes "not " ++ decimal i
node_text signs (node.Cat i j) = pair_text (codes "cat") i j
node_text signs (node.Or i j) = pair_text (codes "or") i j
node_text signs (node.And i j) = pair_text (codes "and") i j

-- the line of the node with the number n
abbrev pub node_line : List ℕ → StarFreeList → ℕ → List ℕ
node_line signs l n = decimal n ++ codes " " ++ node_text signs (node_at l.nodes n) ++ codes "\n"

abbrev pub list_head : StarFreeList → List ℕ
list_head l = number_line (codes "nodes") (length l.nodes)

-- the number of nodes, and a line for each
abbrev pub nodes_text : List ℕ → StarFreeList → List ℕ
nodes_text signs l = list_head l ++ texts_below (node_line signs l) (length l.nodes)

abbrev pub list_text : List ℕ → StarFreeList → List ℕ
list_text signs l = nodes_text signs l ++ number_line (codes "root") l.root

-- the words that never settle, and the numbers that tell of their powers
abbrev pub loop_words : List ℕ → Loop → List ℕ
loop_words signs l =
    word_line signs (codes "u") l.u ++ word_line signs (codes "x") l.x
    ++ word_line signs (codes "v") l.v

abbrev pub loop_numbers : Loop → List ℕ
loop_numbers l =
    number_line (codes "index") l.index ++ number_line (codes "period") l.period
    ++ first_line l.first_in

abbrev pub loop_text : List ℕ → Loop → List ℕ
loop_text signs l = loop_words signs l ++ loop_numbers l

-- the first line: the answer, with the limit that was met, where `side` is that of the table and
-- `most` that of the nodes
abbrev pub star_free_head : ℕ → ℕ → SfAnswer → List ℕ
star_free_head side most (answer.Yes l) = codes "starfree yes\n"
star_free_head side most (answer.No l) = codes "starfree no\n"
star_free_head side most answer.TableLimit = number_line (codes "starfree limit table") side
star_free_head side most answer.Depth = codes "starfree limit depth 400\n"
star_free_head side most answer.Nodes = number_line (codes "starfree limit nodes") most

-- the lines behind the first one: a star-free list of the language, or words that never settle
abbrev pub star_free_body : List ℕ → SfAnswer → List ℕ
star_free_body signs (answer.Yes l) = list_text signs l
star_free_body signs (answer.No l) = loop_text signs l
star_free_body signs answer.TableLimit = []
star_free_body signs answer.Depth = []
star_free_body signs answer.Nodes = []

-- the section: the answer, and what shows it
abbrev pub star_free_text : List ℕ → ℕ → ℕ → SfAnswer → List ℕ
star_free_text signs side most a = star_free_head side most a ++ star_free_body signs a

-- whether the answer is a limit
abbrev pub is_star_free_limit : SfAnswer → Bool
is_star_free_limit (answer.Yes l) = false
is_star_free_limit (answer.No l) = false
is_star_free_limit answer.TableLimit = true
is_star_free_limit answer.Depth = true
is_star_free_limit answer.Nodes = true
