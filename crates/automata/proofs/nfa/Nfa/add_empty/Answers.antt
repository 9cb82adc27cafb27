use Rattle.std.proofs.Common.{◌≡◌, ℕ, ap, subst, sym, ◌∙◌}
use Rattle.language_theory.specs.Automaton.{Automaton, has_move}
use Rattle.automata.specs.Nfa.{AreMoves, of_rows, with_move}
use Rattle.automata.proofs.Steps.{adding_a_move}
use Rattle.automata.proofs.Rows.{changed_sized}
use Rattle.automata.proofs.Moves.{move_added}
use Rattle.automata.proofs.nfa.Nfa.add_empty.Goals as goal

pub invariant_of-self-2 : goal.invariant_of-self-2
invariant_of-self-2 c =
    let s = c.self.inside in (
      changed_sized s.letters s.initial.items s.finals.items s.rows.items s.moves.items
          s.rows.items _ c.self.invariant.0,
      c.self.invariant.1,
      subst (λ (n : ℕ). AreMoves n c.add_move.new.moves.items)
          (c.states-states.ensures.states ∙ sym (ap (λ (m : Automaton). m.states) c.self.view_is))
          c.in_ok-add_move.ensures.ok.moves,
    )

added : (c : goal.In_ok-add_move)
    → of_rows c.self.inside.letters c.self.inside.initial.items c.self.inside.finals.items
    c.self.inside.rows.items c.add_move.new.moves.items
    ≡ with_move c.args.self.now c.args.from c.args.to
added c =
    let s = c.self.inside in
    move_added c.args.self.now s.letters s.initial.items s.finals.items s.rows.items s.moves.items
    c.self.view_is c.add_move.new.moves.items c.states-states.result c.args.from c.args.to
    c.states-states.ensures.states c.in_ok-add_move.ensures.ok

pub returns-clause-ok : goal.returns-clause-ok
returns-clause-ok c = added c

pub returns-clause-moves : goal.returns-clause-moves
returns-clause-moves c = λ p q.
    ap (λ (m : Automaton). has_move m p q) (added c)
    ∙ adding_a_move c.args.self.now c.args.from c.args.to p q
    c.states-states.ensures.sized.automaton c.requires.from c.requires.to
