use Rattle.std.proofs.Common.{◌≡◌, ℕ, ◌+◌, ◌*◌, refl, subst, arith}
use Rattle.cayley_tables.specs.Tables.{IsLinking, right_graph}
use Rattle.cayley_tables.proofs.Linking.{row_is_linked}
use Rattle.cayley_tables.proofs.making.link_row.Goals as goal

pub loop-letter-init : goal.loop-letter-init
loop-letter-init c =
    let g = right_graph c.args.size c.args.letters c.args.right.now in
    let place : c.args.element * c.args.letters ≡ c.args.element * c.args.letters + 0 =
    omega arith in (
      row_is_linked g
          (c.args.element * c.args.letters) c.args.links.now c.requires.linking c.args.element refl
          c.requires.element,
      subst
          (λ (n : ℕ). IsLinking g n c.args.links.now) place c.requires.linking,
    )

pub loop-letter-preserved : goal.loop-letter-preserved
loop-letter-preserved c =
    let g = right_graph c.args.size c.args.letters c.args.right.now in
    let place : c.args.element * c.args.letters + c.loop-letter.letter + 1
    ≡ c.args.element * c.args.letters + (c.loop-letter.letter + 1) = omega arith in (
      c.in_ok-link.ensures.linked,
      subst
          (λ (n : ℕ). IsLinking g n c.link.new.links) place c.in_ok-link.ensures.linking,
    )
