use Rattle.std.proofs.Common.{[], drop, sym, subst, ◌∙◌, get_or, ◌-◌}
use Rattle.std.proofs.Math.Seq.{drop-length}
use Rattle.automata.specs.StepsBack.{AreAccepting}
use Rattle.automata.proofs.StepsBack.{accepting_before, accepting_finals, accepting_next}
use Rattle.automata.proofs.accepting.accepting.Goals as goal

pub loop-place-init : goal.loop-place-init
loop-place-init c =
    let m = c.args.nfa.now in
    rw (drop-length c.args.word.now)
    (subst (AreAccepting m []) (sym (c.in_ok-marks.ensures ∙ c.finals.ensures.finals))
    (accepting_finals m c.requires c.finals.ensures.automaton))

pub loop-place-preserved : goal.loop-place-preserved
loop-place-preserved c =
    let m = c.args.nfa.now in
    let word = c.args.word.now in
    let place = c.loop-place.place in
    accepting_next m word place c.in_ok-marks-2.marks c.loop-place-test.true c.loop-place.auto.place
    (accepting_before m (drop place word) (get_or word (place - 1) 0) c.loop-place.marks
    c.in_ok-marks-2.marks c.requires c.loop-place.invariant c.in_ok-marks-2.ensures)
