use Rattle.std.proofs.Common.{◌<◌, List, [], Bool, length, ap, arith}
use Rattle.std.proofs.lemmas.List.{get_or_read, length-replicate}
use Rattle.automata.proofs.Moves.{none_by_test, some_by_test, first_move, next_move, rows_of_moves}
use Rattle.automata.proofs.nfa.add_move.Goals as goal

pub returns-then-is_empty-clause-ok : goal.returns-then-is_empty-clause-ok
returns-then-is_empty-clause-ok c =
    let v = c.args.moves.now in
    let rows = c.in_ok-rows.rows.items in
    let within : c.args.from < length rows = omega (
      arith,
      c.requires.from,
      ap (λ (xs : List (List Bool)). length xs) c.in_ok-rows.ensures,
      length-replicate {A = List Bool} c.args.states [],
    ) in
    first_move c.args.states v.items rows c.args.from c.args.to c.index_mut.result.now
    c.insert.new.row
    (none_by_test v.len v.items c.is_empty.result v.ok.0 c.if-is_empty.true c.is_empty.ensures)
    c.in_ok-rows.ensures c.requires.from
    (get_or_read rows c.args.from c.index_mut.result.now within c.index_mut.ensures.value [])
    c.in_ok-insert.ensures.ok

pub returns-clause-ok : goal.returns-clause-ok
returns-clause-ok c =
    let v = c.args.moves.now in
    let some = some_by_test v.len v.items c.is_empty.result v.ok.0 c.if-is_empty.false
    c.is_empty.ensures in
    let within : c.args.from < length v.items = omega (
      arith,
      c.requires.from,
      rows_of_moves c.args.states v.items c.requires.moves some,
    ) in
    next_move c.args.states v.items c.args.from c.args.to c.index_mut-2.result.now
    c.insert-2.new.row some c.requires.moves c.requires.from
    (get_or_read v.items c.args.from c.index_mut-2.result.now within c.index_mut-2.ensures.value [])
    c.in_ok-insert-2.ensures.ok
