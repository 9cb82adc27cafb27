use Rattle.std.proofs.Common.{◌+◌, ◌*◌, refl, arith}
use Rattle.cayley_tables.specs.Tables.{right_graph}
use Rattle.cayley_tables.proofs.Linking.{link_skip, link_letter, link_longer}
use Rattle.cayley_tables.proofs.making.link.Goals as goal

pub returns-then-target-len-clause-linking : goal.returns-then-target-len-clause-linking
returns-then-target-len-clause-linking c =
    link_skip (right_graph c.args.size c.args.letters c.args.right.now)
    (c.args.element * c.args.letters + c.args.letter) c.args.links.now c.requires.linking
    c.args.element c.args.letter refl c.requires.element c.requires.letter c.requires.linked
    (λ e. omega (arith, c.len.ensures, c.if-target-len.true))

pub returns-then-element-eq0-clause-linking : goal.returns-then-element-eq0-clause-linking
returns-then-element-eq0-clause-linking c =
    rw c.in_ok-push.ensures.ok
    (link_letter (right_graph c.args.size c.args.letters c.args.right.now)
    (c.args.element * c.args.letters + c.args.letter) c.args.links.now c.requires.linking
    c.args.element c.args.letter refl c.requires.element c.requires.letter c.requires.linked
    (omega (arith, c.len.ensures, c.if-target-len.false)) c.if-element-eq0.true)

pub returns-clause-linking : goal.returns-clause-linking
returns-clause-linking c =
    rw (c.in_ok-push-2.ensures.ok, c.suffix.ensures, c.first-first.ensures)
    (link_longer (right_graph c.args.size c.args.letters c.args.right.now)
    (c.args.element * c.args.letters + c.args.letter) c.args.links.now c.requires.linking
    c.args.element c.args.letter refl c.requires.element c.requires.letter c.requires.linked
    (omega (arith, c.len.ensures, c.if-target-len.false)) (omega (arith, c.if-element-eq0.false)))
