use Rattle.std.proofs.Common.{◌≡◌, true, false}
use Rattle.std.proofs.lemmas.Bool.{not-true, not-false}
use Rattle.automata.proofs.Moves.{none_by_test, some_by_test, no_moves_kept, some_moves_kept}
use Rattle.automata.proofs.nfa.Nfa.has_moves.Goals as goal

pub returns-clause-some : goal.returns-clause-some
returns-clause-some c = λ t.
    let s = c.self.inside in
    let b : c.is_empty.result ≡ false = not-true c.is_empty.result t in
    some_moves_kept c.args.self.now s.letters s.initial.items s.finals.items s.rows.items
    s.moves.items c.self.view_is c.self.invariant.2
    (some_by_test s.moves.len s.moves.items c.is_empty.result s.moves.ok.0 b c.is_empty.ensures)

pub returns-clause-none : goal.returns-clause-none
returns-clause-none c = λ t.
    let s = c.self.inside in
    let b : c.is_empty.result ≡ true = not-false c.is_empty.result t in
    no_moves_kept c.args.self.now s.letters s.initial.items s.finals.items s.rows.items
    s.moves.items c.self.view_is
    (none_by_test s.moves.len s.moves.items c.is_empty.result s.moves.ok.0 b c.is_empty.ensures)
