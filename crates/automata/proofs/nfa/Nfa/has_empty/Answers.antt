use Rattle.std.proofs.Common.{◌≢◌, length, ap, ◌∙◌, sym, Bool, List, arith}
use Rattle.language_theory.specs.Automaton.{is_marked}
use Rattle.automata.proofs.Moves.{none_by_test, some_by_test, no_move_kept, move_kept, move_row_read}
use Rattle.automata.proofs.Rows.{unmarked_past}
use Rattle.automata.proofs.nfa.Nfa.has_empty.Goals as goal

pub returns-then-is_empty : goal.returns-then-is_empty
returns-then-is_empty c =
    let s = c.self.inside in
    sym (no_move_kept c.args.self.now s.letters s.initial.items s.finals.items s.rows.items
    s.moves.items c.self.view_is c.self.invariant.2
    (none_by_test s.moves.len s.moves.items c.is_empty.result s.moves.ok.0 c.if-is_empty.true
    c.is_empty.ensures) c.args.from c.args.to)

pub returns-then-to-size : goal.returns-then-to-size
returns-then-to-size c =
    let s = c.self.inside in
    let some : length s.moves.items ≢ 0 = some_by_test s.moves.len s.moves.items c.is_empty.result
    s.moves.ok.0 c.if-is_empty.false c.is_empty.ensures in
    sym (move_kept c.args.self.now s.letters s.initial.items s.finals.items s.rows.items
    s.moves.items c.self.view_is c.self.invariant.2 c.args.from c.args.to
    ∙ sym (ap (λ (row : List Bool). is_marked row c.args.to)
    (move_row_read c.args.self.now s.letters s.initial.items s.finals.items s.rows.items
    s.moves.items c.self.view_is c.self.invariant.2 some c.args.from c.requires.from
    c.index-row.result.now c.index-row.ensures))
    ∙ unmarked_past c.index-row.result.now c.args.to
    (omega (arith, c.if-to-size.true, c.size.ensures)))

pub returns : goal.returns
returns c =
    let s = c.self.inside in
    let some : length s.moves.items ≢ 0 = some_by_test s.moves.len s.moves.items c.is_empty.result
    s.moves.ok.0 c.if-is_empty.false c.is_empty.ensures in
    c.contains.ensures
    ∙ ap (λ (row : List Bool). is_marked row c.args.to)
    (move_row_read c.args.self.now s.letters s.initial.items s.finals.items s.rows.items
    s.moves.items c.self.view_is c.self.invariant.2 some c.args.from c.requires.from
    c.index-row.result.now c.index-row.ensures)
    ∙ sym (move_kept c.args.self.now s.letters s.initial.items s.finals.items s.rows.items
    s.moves.items c.self.view_is c.self.invariant.2 c.args.from c.args.to)
