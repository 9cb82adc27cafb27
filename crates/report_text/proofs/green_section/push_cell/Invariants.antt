use Rattle.std.proofs.Common.{◌≡◌, ◌++◌, slice_index}
use Rattle.std.specs.Prelude.{codes}
use Rattle.report_buffer.specs.Texts.{separated}
use Rattle.report_text.specs.GreenSection.{marked, member_text}
use Rattle.report_text.proofs.green_section.push_cell.Given as goal

-- the elements before this one stand behind the text that was there
abbrev pub invariant-loop-place : goal.invariant-loop-place
invariant-loop-place l =
    l.text.items ≡ l.fn.text.items ++ separated (codes " ")
    (λ n. member_text l.alphabet (marked l.cayley.words l.green.idempotents)
    (slice_index l.cell n)) l.place
