use Rattle.std.proofs.Common.{◌≡◌, ◌++◌}
use Rattle.language_theory.specs.ShortlexGraph.{target}
use Rattle.report_buffer.specs.Texts.{numbers_below}
use Rattle.report_text.proofs.monoid_section.push_right_targets.Given as goal

-- the targets for the letters before this one stand behind the text that was there
abbrev pub invariant-loop-letter : goal.invariant-loop-letter
invariant-loop-letter l =
    l.text.items ≡ l.fn.text.items ++ numbers_below (target l.cayley.right l.element) l.letter
