use Rattle.std.proofs.Common.{ap, length, List, Bool, ◌∙◌, arith}
use Rattle.piecewise_testable.proofs.SeenRows.{seen_long}
use Rattle.piecewise_testable.proofs.subwords.Subwords.next.Goals as goal

pub next_row-requires-clause-narrow : goal.next_row-requires-clause-narrow
next_row-requires-clause-narrow c =
    let e = ap (λ (row : List Bool). length row) c.row.ensures
    ∙ seen_long c.args.self.now c.args.number c.requires.sound c.requires.number in
    let n = c.requires.sound.narrow in
    omega arith
