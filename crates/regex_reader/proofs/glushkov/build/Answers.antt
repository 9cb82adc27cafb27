use Rattle.std.proofs.Common.{◌+◌, ◌&&◌, ◌==◌, length, refl, ap, subst, ◌∙◌}
use Rattle.language_theory.specs.Automaton.{Automaton}
use Rattle.automata.specs.Nfa.{with_initial}
use Rattle.expression_theory.specs.FirstLast.{has}
use Rattle.regex_reader.specs.Growth.{HasFinals, HasGrown, IsEarlyStep}
use Rattle.regex_reader.proofs.Built.{built_from}
use Rattle.regex_reader.proofs.glushkov.build.Goals as goal

pub returns : goal.returns
returns c =
    let last : HasFinals c.set_final_if.new.nfa c.set_finals.new.nfa (has c.args.part.now.last) =
    subst (λ xs. HasFinals c.set_final_if.new.nfa c.set_finals.new.nfa (has xs)) c.last.ensures
    c.set_finals.ensures in
    let empty : HasFinals c.set_initial.new.self c.set_final_if.new.nfa
    (λ p. c.args.part.now.has_empty && (0 == p)) =
    subst (λ b. HasFinals c.set_initial.new.self c.set_final_if.new.nfa (λ p. b && (0 == p)))
    c.has_empty.ensures c.set_final_if.ensures in
    let early : HasGrown c.set_finals.new.nfa c.add_letters.new.nfa
    (IsEarlyStep c.args.marks.now c.args.positions.now c.args.letters) = c.in_ok-add_letters.ensures in
    built_from (length c.args.positions.now + 1) c.args.letters c.args.part.now.has_empty
    c.args.part.now.last c.args.marks.now c.args.positions.now
    c.set_initial.new.self c.set_final_if.new.nfa c.set_finals.new.nfa c.add_letters.new.nfa
    (c.set_initial.ensures ∙ ap (λ (m : Automaton). with_initial m 0) c.in_ok-nfa.ensures.bare)
    empty last early refl c.requires.letters c.states-size.ensures.sized
    c.states-size.ensures.ordered
