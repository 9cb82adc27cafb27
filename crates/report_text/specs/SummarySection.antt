-- The text of the section `summary`.
use Rattle.std.specs.Prelude.{ℕ, List, ◌++◌, codes}
use Rattle.report_buffer.specs.Texts.{number_line}
use Rattle.report_text.specs.StarFreeSection.{star_free_head}
use Rattle.report_text.specs.PiecewiseSection.{piecewise_head, r_trivial_head}
use Rattle.report_text.specs.LocalSection.{local_head}
use Rattle.report_text.specs.CommutativeSection.{commutative_head}
use Rattle.report_text.specs.declared.summary_section.Counts.{Counts}
use Rattle.report_text.specs.declared.summary_section.Summary.{Summary}

-- the size of the generated file, and what is counted of its language
abbrev pub counts_text : Counts → List ℕ
counts_text n =
    number_line (codes "generate") n.size ++ number_line (codes "states") n.states
    ++ number_line (codes "elements") n.elements ++ number_line (codes "rules") n.rules
    ++ number_line (codes "boxes") n.boxes ++ number_line (codes "idempotents") n.idempotents

-- the first lines of the sections `starfree`, `piecewise`, `local`, `rtrivial` and `commutative`,
-- where `side` and `most` are the limits of the table and of the nodes
abbrev pub heads_text : ℕ → ℕ → Summary → List ℕ
heads_text side most a =
    star_free_head side most a.star_free ++ piecewise_head a.piecewise ++ local_head side a.local
    ++ r_trivial_head a.r_trivial ++ commutative_head a.commutative

-- the section: the counts, and the first line of each answer
abbrev pub summary_text : Counts → ℕ → ℕ → Summary → List ℕ
summary_text counts side most answers = counts_text counts ++ heads_text side most answers
