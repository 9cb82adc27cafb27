use Rattle.std.proofs.Common.{◌<◌, ◌==◌, ◌∙◌, [], length, get_or, set, ap, subst, sym, ℕ}
use Rattle.std.proofs.lemmas.List.{get_or_read}
use Rattle.language_theory.specs.Automaton.{Automaton, has_step}
use Rattle.automata.proofs.Steps.{adding_a_step}
use Rattle.automata.proofs.Rows.{HasSteps, row_changed, row_within, changed_sized}
use Rattle.automata.proofs.nfa.Nfa.add_step.Goals as goal

changed : (c : goal.In_ok-insert)
    → HasSteps c.args.self.now c.self.inside.letters c.self.inside.initial.items
    c.self.inside.finals.items (set c.self.inside.rows.items c.place-place.result c.insert.new.row)
    c.self.inside.moves.items
    c.args.from c.args.letter (λ (q : ℕ). c.args.to == q)
changed c =
    let s = c.self.inside in
    let m = c.args.self.now in
    let within = row_within m s.letters s.initial.items s.finals.items s.rows.items s.moves.items
    c.args.from c.args.letter c.self.view_is c.self.invariant.1 c.requires.from c.requires.letter in
    let read = get_or_read s.rows.items _ _
    (subst (λ i. i < length s.rows.items) (sym c.place-place.ensures) within)
    c.index_mut.ensures.value [] ∙ ap (λ i. get_or s.rows.items i []) c.place-place.ensures in
    subst (λ i. HasSteps m s.letters s.initial.items s.finals.items
    (set s.rows.items i c.insert.new.row) s.moves.items c.args.from c.args.letter (λ (q : ℕ). c.args.to == q))
    (sym c.place-place.ensures)
    (row_changed m s.letters s.initial.items s.finals.items s.rows.items s.moves.items c.args.from c.args.letter
    c.index_mut.result.now c.insert.new.row (λ (q : ℕ). c.args.to == q) c.self.view_is
    c.self.invariant.1 c.requires.from c.requires.letter read
    (rw (← c.states-states.ensures.states) c.in_ok-insert.ensures.ok))

pub invariant_of-self-2 : goal.invariant_of-self-2
invariant_of-self-2 c =
    let s = c.self.inside in (
      changed_sized s.letters s.initial.items s.finals.items s.rows.items s.moves.items _ s.moves.items
          c.self.invariant.0,
      (changed c).are_rows,
      c.self.invariant.2,
    )

pub returns-clause-ok : goal.returns-clause-ok
returns-clause-ok c = (changed c).same

pub returns-clause-steps : goal.returns-clause-steps
returns-clause-steps c = λ p a q.
    ap (λ (m : Automaton). has_step m p a q) (changed c).same
    ∙ adding_a_step c.args.self.now c.args.from c.args.letter c.args.to p a q
    c.states-states.ensures.sized.automaton c.requires.from c.requires.letter c.requires.to
