use Rattle.std.proofs.Common.{◌≡◌, ℕ, ◌+◌, ◌++◌, drop, length, take, ap, sym, subst, ◌∙◌, arith}
use Rattle.std.proofs.Math.Seq.{take-append_seam}
use Rattle.automata.specs.Closures.{GoThrough}
use Rattle.automata.proofs.ClosedRows.{AreClosedBelow, near_closed, through_next, all_closed}
use Rattle.automata.proofs.closures.closures.Goals as goal

pub loop-middle-init : goal.loop-middle-init
loop-middle-init c = near_closed c.args.nfa.now c.in_ok-rows.rows.items c.in_ok-rows.ensures

pub loop-middle-preserved : goal.loop-middle-preserved
loop-middle-preserved c =
    let rows = c.loop-middle.rows in
    let new = c.go_through.new.rows in
    let through : GoThrough rows.items new c.loop-middle.middle =
    subst (λ old. GoThrough old new c.loop-middle.middle) c.as_mut_slice.ensures.value
    c.in_ok-go_through.ensures in
    let same : take rows.len (new ++ drop (length new) rows.items) ≡ new =
    ap (λ (n : ℕ). take n (new ++ drop (length new) rows.items)) (rows.ok.0 ∙ sym through.long)
    ∙ take-append_seam new (drop (length new) rows.items) in
    subst (AreClosedBelow c.args.nfa.now (c.loop-middle.middle + 1)) (sym same)
    (through_next c.args.nfa.now c.loop-middle.middle rows.items new
    (omega (arith, c.loop-middle-test.true, c.states-middle-end.ensures.states))
    c.loop-middle.invariant through)

pub returns : goal.returns
returns c = all_closed c.args.nfa.now c.loop-middle.middle c.loop-middle.rows.items
    (omega (arith, c.loop-middle-test.false, c.states-middle-end.ensures.states))
    c.loop-middle.invariant
