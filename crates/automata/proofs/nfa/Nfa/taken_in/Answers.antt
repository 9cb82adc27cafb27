use Rattle.std.proofs.Common.{◌≡◌, List, Bool, ap, subst, sym, ◌∙◌}
use Rattle.language_theory.specs.Automaton.{Automaton}
use Rattle.automata.specs.Closures.{IsClosed, AreClosed}
use Rattle.automata.proofs.ClosedRows.{made_taken_in}
use Rattle.automata.proofs.nfa.Nfa.taken_in.Goals as goal

pub returns : goal.returns
returns c =
    let s = c.self.inside in
    let closures = c.in_ok-closures.closures.items in
    let initial : c.in_ok-begin.begin ≡ s.initial.items = c.in_ok-begin.ensures
    ∙ c.initials.ensures.initial ∙ sym (ap (λ (m : Automaton). m.initial) c.self.view_is) in
    let first : IsClosed closures s.initial.items c.in_ok-initial.initial.items =
    subst (λ (new : List Bool). IsClosed closures s.initial.items new) (sym c.in_ok-initial.ensures)
    (subst (λ (set : List Bool). IsClosed closures set c.in_ok-reached.reached) initial
    (subst (λ (rows : List (List Bool)). IsClosed rows c.in_ok-begin.begin c.in_ok-reached.reached)
    c.as_slice.ensures.value c.in_ok-reached.ensures)) in
    let rows : AreClosed closures s.rows.items c.in_ok-rows.rows.items =
    subst (λ (old : List (List Bool)). AreClosed closures old c.in_ok-rows.rows.items)
    c.as_slice-2.ensures.value
    (subst (λ (xs : List (List Bool)). AreClosed xs c.as_slice-2.result.now c.in_ok-rows.rows.items)
    c.as_slice-3.ensures.value c.in_ok-rows.ensures) in
    made_taken_in c.args.self.now s.letters s.initial.items s.finals.items
    c.in_ok-initial.initial.items s.rows.items s.moves.items closures c.in_ok-rows.rows.items
    c.self.view_is c.self.invariant.0 c.self.invariant.1 c.in_ok-closures.ensures first rows
