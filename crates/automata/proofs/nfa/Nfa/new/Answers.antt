use Rattle.std.proofs.Common.{◌≡◌, rules, false, replicate}
use Rattle.automata.proofs.Rows.{AreBare, rows_made}
use Rattle.automata.proofs.nfa.Nfa.new.Goals as goal

made : (c : goal.In_ok-rows)
    → AreBare c.args.states c.args.letters c.in_ok-initial.initial.items
    c.in_ok-finals.finals.items c.in_ok-rows.rows.items c.new-moves.result.items
made c =
    let initial : c.in_ok-initial.initial.items ≡ replicate c.args.states false = search rules in
    let finals : c.in_ok-finals.finals.items ≡ replicate c.args.states false = search rules in
    rows_made c.args.states c.args.letters c.in_ok-initial.initial.items
    c.in_ok-finals.finals.items c.in_ok-rows.rows.items c.new-moves.result.items initial finals
    c.in_ok-rows.ensures c.new-moves.ensures.items
    c.requires.some_states c.requires.few_states c.requires.some_letters c.requires.few_letters

pub invariant_of-result : goal.invariant_of-result
invariant_of-result c = ((made c).sized, (made c).are_rows, (made c).are_moves)

pub returns-clause-bare : goal.returns-clause-bare
returns-clause-bare c = (made c).same

pub returns-clause-sized : goal.returns-clause-sized
returns-clause-sized c = (made c).sized
