use Rattle.std.proofs.Common.{◌≡◌, Bool, List, IsTrue, ap, subst}
use Rattle.language_theory.specs.Automaton.{is_marked}
use Rattle.language_theory.specs.ShortlexGraph.{node}
use Rattle.language_theory.specs.Nerode.{IsMinimal}
use Rattle.subset_minimal.specs.Subsets.{Subsets}
use Rattle.subset_minimal.proofs.MarkedGraphs.{searched_minimal}
use Rattle.subset_minimal.proofs.subset_construction.minimal_by_steps.Goals as goal

pub returns-clause-minimal : goal.returns-clause-minimal
returns-clause-minimal c =
    let begun = ap (λ (s : Subsets). s.automaton) c.in_ok-subsets.ensures.subsets in
    let marks : c.as_slice.result.now ≡ c.in_ok-marks.marks.items = c.as_slice.ensures.value in
    let minimal : IsMinimal c.in_ok-graph.graph.letters
    (λ w. IsTrue (is_marked c.in_ok-marks.marks.items (node c.in_ok-graph.graph w)))
    c.in_ok-dfa.dfa = subst (λ (row : List Bool).
    IsMinimal c.in_ok-graph.graph.letters
    (λ w. IsTrue (is_marked row (node c.in_ok-graph.graph w))) c.in_ok-dfa.dfa) marks
    c.in_ok-dfa.ensures.minimal in
    searched_minimal c.args.nfa.now c.in_ok-subsets.subsets c.explore.new.states c.in_ok-graph.graph
    c.in_ok-marks.marks.items c.in_ok-dfa.dfa begun c.in_ok-graph.ensures.later
    c.in_ok-graph.ensures.sound c.in_ok-marks.ensures c.in_ok-graph.ensures.graph.1.letters
    c.in_ok-graph.ensures.numbers minimal
