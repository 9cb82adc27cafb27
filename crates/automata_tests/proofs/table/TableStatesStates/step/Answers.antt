use Rattle.std.proofs.Common.{ℕ, ap, sym, ◌∙◌, nat_eq}
use Rattle.std.proofs.lemmas.Bool.Decides.{Decides-eqb}
use Rattle.automata_tests.specs.Table.{image}
use Rattle.exploration.proofs.Interning.{insert_counts}
use Rattle.automata_tests.proofs.Tables.{table_seen, table_keeps, table_next, table_reaches, table_within}
use Rattle.automata_tests.proofs.table.TableStatesStates.step.Goals as goal

pub target-to-requires-clause-state : goal.target-to-requires-clause-state
target-to-requires-clause-state c = rw c.state-from.ensures
    (table_within c.args.self.now c.args.state c.requires.sound c.requires.state)

pub returns-in_err-number-clause-kept : goal.returns-in_err-number-clause-kept
returns-in_err-number-clause-kept c =
    rw c.in_err-number.ensures.err (record { kept = λ w n o e. e })

pub returns-clause-sound : goal.returns-clause-sound
returns-clause-sound c =
    let t = c.args.self.now in
    let r = table_reaches t c.args.state c.args.letter c.requires.sound c.requires.state
    c.requires.letter in
    let to = c.target-to.ensures ∙ ap (λ (p : ℕ). image t p c.args.letter) c.state-from.ensures in
    rw c.in_ok-number.ensures.seen
    (table_seen t r.0 c.target-to.result r.1 (r.2 ∙ sym to) c.requires.sound)

pub returns-clause-kept : goal.returns-clause-kept
returns-clause-kept c =
    rw c.in_ok-number.ensures.seen (table_keeps c.args.self.now c.target-to.result)

pub returns-clause-next : goal.returns-clause-next
returns-clause-next c =
    let t = c.args.self.now in
    let to = c.target-to.ensures ∙ ap (λ (p : ℕ). image t p c.args.letter) c.state-from.ensures in
    rw (c.in_ok-number.ensures.seen, c.in_ok-number.ensures.number)
    (table_next t c.args.state c.args.letter c.target-to.result to)

pub returns-clause-counted : goal.returns-clause-counted
returns-clause-counted c =
    rw (c.in_ok-number.ensures.seen, c.in_ok-number.ensures.number)
    (insert_counts nat_eq Decides-eqb c.args.self.now.seen c.target-to.result)
