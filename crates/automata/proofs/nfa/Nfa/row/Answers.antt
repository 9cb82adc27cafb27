use Rattle.std.proofs.Common.{length, get_or, ap, ◌∙◌, ◌<◌, [], subst, sym}
use Rattle.std.proofs.lemmas.List.{get_or_read}
use Rattle.automata.proofs.Rows.{row_read, row_within}
use Rattle.automata.proofs.nfa.Nfa.row.Goals as goal

pub returns : goal.returns
returns c =
    let s = c.self.inside in
    let within = row_within c.args.self.now s.letters s.initial.items s.finals.items s.rows.items s.moves.items
    c.args.state c.args.letter c.self.view_is c.self.invariant.1 c.requires.state
    c.requires.letter in
    row_read c.args.self.now s.letters s.initial.items s.finals.items s.rows.items s.moves.items c.args.state
    c.args.letter c.index.result.now c.self.view_is c.self.invariant.1 c.requires.state
    c.requires.letter
    (get_or_read s.rows.items _ _
    (subst (λ i. i < length s.rows.items) (sym c.place.ensures) within) c.index.ensures []
    ∙ ap (λ i. get_or s.rows.items i []) c.place.ensures)
