use Rattle.std.proofs.Common.{◌≡◌, ◌≢◌, ℕ, List, Bool, true, false, length, replicate, set, ap, subst, sym, ◌∙◌}
use Rattle.automata.specs.Nfa.{AreNear}
use Rattle.automata.proofs.Moves.{none_by_test, some_by_test, near_alone, near_more, move_row_read}
use Rattle.automata.proofs.nfa.Nfa.near.Goals as goal
use Rattle.automata.proofs.nfa.Nfa.near.Goals.{then-not-is_empty, else-not-is_empty}

pub returns : goal.returns
returns c =
    let s = c.self.inside in
    let m = c.args.self.now in
    let base : c.insert.new.self ≡ set (replicate m.states false) c.args.state true =
    c.insert.ensures
    ∙ ap (λ (marks : List Bool). set marks c.args.state true)
    (c.in_ok-set.ensures ∙ ap (λ (n : ℕ). replicate n false) c.states.ensures.states) in
    elim c.if-not-is_empty.branch [
      | then-not-is_empty w ↦
          let some : length s.moves.items ≢ 0 = some_by_test s.moves.len s.moves.items
          c.is_empty.result s.moves.ok.0 w.if-not-is_empty.true c.is_empty.ensures in
          subst (AreNear m c.args.state) (sym w.set-is)
          (near_more m s.letters s.initial.items s.finals.items s.rows.items s.moves.items
          c.self.view_is c.self.invariant.2 c.args.state c.requires c.insert.new.self
          w.index.result.now _ base
          (move_row_read m s.letters s.initial.items s.finals.items s.rows.items s.moves.items
          c.self.view_is c.self.invariant.2 some c.args.state c.requires w.index.result.now
          w.index.ensures)
          w.union_with.ensures)
      | else-not-is_empty w ↦
          subst (AreNear m c.args.state) (sym w.set-is)
          (near_alone m s.letters s.initial.items s.finals.items s.rows.items s.moves.items
          c.self.view_is c.self.invariant.2
          (none_by_test s.moves.len s.moves.items c.is_empty.result s.moves.ok.0
          w.if-not-is_empty.false c.is_empty.ensures) c.args.state c.requires _ base)
    ]
