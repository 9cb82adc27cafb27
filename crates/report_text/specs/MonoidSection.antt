-- The text of the section `monoid`.
use Rattle.std.specs.Prelude.{ℕ, List, ◌++◌, codes, length}
use Rattle.std.specs.Fmt.{decimal}
use Rattle.language_theory.specs.Words.{word_at}
use Rattle.language_theory.specs.Automaton.{is_marked}
use Rattle.language_theory.specs.ShortlexGraph.{target}
use Rattle.monoid_theory.specs.Presentation.{rule_at}
use Rattle.syntactic_monoid.specs.SyntacticMonoid.{SyntacticMonoid}
use Rattle.report_buffer.specs.Texts.{texts_below, numbers_below, word_text, membership_text, number_line}

-- the number of elements
abbrev pub elements_head : SyntacticMonoid → List ℕ
elements_head m = codes "monoid\nelements " ++ decimal (length m.graphs.words) ++ codes "\n"

-- a number, the least word, whether it is in the language, the element followed by each letter, and
-- each letter followed by the element
abbrev pub element_text : List ℕ → SyntacticMonoid → ℕ → List ℕ
element_text signs m i =
    decimal i ++ codes " " ++ word_text signs (word_at m.graphs.words i) ++ codes " "
    ++ membership_text (is_marked m.accepted i)
    ++ codes " right" ++ numbers_below (target m.graphs.right i) m.graphs.right.letters
    ++ codes " left" ++ numbers_below (target m.graphs.left i) m.graphs.right.letters
    ++ codes "\n"

-- the elements
abbrev pub elements_text : List ℕ → SyntacticMonoid → List ℕ
elements_text signs m =
    elements_head m ++ texts_below (element_text signs m) (length m.graphs.words)

-- the number of rules
abbrev pub rules_head : List (List ℕ × ℕ) → List ℕ
rules_head rules = number_line (codes "rules") (length rules)

-- the left side of a rule, and the least word of its right side
abbrev pub rule_text : List ℕ → List (List ℕ) → List (List ℕ × ℕ) → ℕ → List ℕ
rule_text signs words rules n =
    word_text signs (rule_at rules n).0 ++ codes " "
    ++ word_text signs (word_at words (rule_at rules n).1) ++ codes "\n"

-- the rules
abbrev pub rules_text : List ℕ → List (List ℕ) → List (List ℕ × ℕ) → List ℕ
rules_text signs words rules =
    rules_head rules ++ texts_below (rule_text signs words rules) (length rules)

-- the section: the elements, and the rules
abbrev pub monoid_text : List ℕ → SyntacticMonoid → List (List ℕ × ℕ) → List ℕ
monoid_text signs m rules = elements_text signs m ++ rules_text signs m.graphs.words rules
