use Rattle.std.proofs.Common.{◌≡◌, ◌++◌, ap, ◌∙◌, length, slice_index, arith}
use Rattle.std.specs.Prelude.{codes}
use Rattle.report_buffer.specs.Texts.{separated}
use Rattle.report_text.specs.GreenSection.{marked, member_text}
use Rattle.report_buffer.proofs.Separated.{separated_next}
use Rattle.report_text.proofs.green_section.push_cell.Goals as goal

pub loop-place-preserved : goal.loop-place-preserved
loop-place-preserved c =
    let m = marked c.args.cayley.now.words c.args.green.now.idempotents in
    separated_next (codes " ")
    (λ n. member_text c.args.alphabet.now m (slice_index c.args.cell.now n)) c.loop-place.place
    c.args.text.now.items c.loop-place.text.items _ _ c.loop-place.invariant
    c.in_ok-push_gap.ensures c.in_ok-push_member.ensures

pub returns : goal.returns
returns c =
    let m = marked c.args.cayley.now.words c.args.green.now.idempotents in
    let end : c.loop-place.place ≡ length c.args.cell.now =
    omega (arith, c.loop-place-test.false, c.loop-place.auto.place-end) in
    c.loop-place.invariant
    ∙ ap (λ n. c.args.text.now.items ++ separated (codes " ")
    (λ i. member_text c.args.alphabet.now m (slice_index c.args.cell.now i)) n) end
