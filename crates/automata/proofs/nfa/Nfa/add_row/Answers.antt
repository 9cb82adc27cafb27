use Rattle.std.proofs.Common.{◌<◌, ◌∙◌, [], length, get_or, set, ap, subst, sym, ℕ}
use Rattle.std.proofs.lemmas.List.{get_or_read}
use Rattle.language_theory.specs.Automaton.{Automaton, IsAutomaton, has_step, is_marked}
use Rattle.number_set.specs.Marks.{HasGained}
use Rattle.automata.proofs.Steps.{adding_steps}
use Rattle.automata.proofs.Rows.{HasSteps, row_changed, row_within, changed_sized, marked_within}
use Rattle.automata.proofs.nfa.Nfa.add_row.Goals as goal

changed : (c : goal.After-self-1)
    → HasSteps c.args.self.now c.self.inside.letters c.self.inside.initial.items
    c.self.inside.finals.items (set c.self.inside.rows.items c.place-place.result c.unite.new.row)
    c.self.inside.moves.items
    c.args.from c.args.letter (is_marked c.args.to)
changed c =
    let s = c.self.inside in
    let m = c.args.self.now in
    let within = row_within m s.letters s.initial.items s.finals.items s.rows.items s.moves.items
    c.args.from c.args.letter c.self.view_is c.self.invariant.1 c.requires.from c.requires.letter in
    let read = get_or_read s.rows.items _ _
    (subst (λ i. i < length s.rows.items) (sym c.place-place.ensures) within)
    c.index_mut.ensures.value [] ∙ ap (λ i. get_or s.rows.items i []) c.place-place.ensures in
    subst (λ i. HasSteps m s.letters s.initial.items s.finals.items
    (set s.rows.items i c.unite.new.row) s.moves.items c.args.from c.args.letter (is_marked c.args.to))
    (sym c.place-place.ensures)
    (row_changed m s.letters s.initial.items s.finals.items s.rows.items s.moves.items c.args.from c.args.letter
    c.index_mut.result.now c.unite.new.row (is_marked c.args.to) c.self.view_is
    c.self.invariant.1 c.requires.from c.requires.letter read
    (subst (λ (n : ℕ). HasGained c.index_mut.result.now c.unite.new.row n (is_marked c.args.to))
    c.requires.long c.unite.ensures))

pub invariant_of-self : goal.invariant_of-self
invariant_of-self c =
    let s = c.self.inside in (
      changed_sized s.letters s.initial.items s.finals.items s.rows.items s.moves.items _ s.moves.items
          c.self.invariant.0,
      (changed c).are_rows,
      c.self.invariant.2,
    )

pub returns-clause-row : goal.returns-clause-row
returns-clause-row c = (changed c).same

pub returns-clause-steps : goal.returns-clause-steps
returns-clause-steps c = λ p a q.
    ap (λ (m : Automaton). has_step m p a q) (changed c).same
    ∙ adding_steps c.args.self.now c.args.from c.args.letter (is_marked c.args.to) p a q
    (subst IsAutomaton c.self.view_is c.self.invariant.0.automaton)
    c.requires.from c.requires.letter
    (λ y h. subst (λ (n : ℕ). y < n) c.requires.long (marked_within c.args.to y h))
