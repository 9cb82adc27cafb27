use Rattle.std.proofs.Common.{◌≡◌, ◌∙◌, ◌<◌, ℕ, List, Some, length, get_or, slice_index, replicate}
use Rattle.std.proofs.Common.{refl, ap, arith}
use Rattle.std.proofs.lemmas.Grind.{common_steps}
use Rattle.std.proofs.lemmas.List.{length-set, length-replicate}
use Rattle.star_free_theory.specs.declared.nodes.SfNode.TheVariants as node
use Rattle.star_free_theory.specs.Construction.{take}
use Rattle.local_divisors.proofs.Steps.{so_far_none, so_far_more, so_far_stops, so_far_done}
use Rattle.local_divisors.proofs.treating.behind.Goals as goal

pub loop-letter-init : goal.loop-letter-init
loop-letter-init c =
    let e : c.in_ok-table.table.items ≡ replicate (length c.args.nodes.now) 0 =
    grind (arith, common_steps) in (
      ap (λ (zs : List ℕ). length zs) e ∙ length-replicate (length c.args.nodes.now) 0,
      so_far_none
          (λ ys t. take (Some c.args.most) ys (node.Cat c.args.before (slice_index c.args.nodes.now
          t))) c.args.letters.now c.args.list.now c.in_ok-table.table.items
          (length c.args.nodes.now)
          e,
    )

pub returns-in_err-number-clause-table : goal.returns-in_err-number-clause-table
returns-in_err-number-clause-table c =
    so_far_stops (λ ys t. take (Some c.args.most) ys (node.Cat c.args.before
    (slice_index c.args.nodes.now t))) c.args.letters.now c.args.list.now
    c.loop-letter.letter-index c.loop-letter.list c.loop-letter.table.items
    c.loop-letter.invariant.1 (λ v. v.items) (get_or c.args.letters.now
    c.loop-letter.letter-index 0) _ c.in_err-number.field-0.0 _
    c.loop-letter-test.true refl c.in_err-number.ensures c.from_residual-in_err-number.ensures.1

pub loop-letter-preserved : goal.loop-letter-preserved
loop-letter-preserved c =
    let t : ℕ = get_or c.args.letters.now c.loop-letter.letter-index 0 in
    let n = c.in_ok-number.number in
    let l : t < length c.loop-letter.table.items = grind (arith, common_steps) in (
      length-set c.loop-letter.table.items t n ∙ c.loop-letter.invariant.0,
      so_far_more (λ ys t. take (Some c.args.most) ys (node.Cat c.args.before
          (slice_index c.args.nodes.now t))) c.args.letters.now c.args.list.now
          c.loop-letter.letter-index c.loop-letter.list c.loop-letter.table.items
          c.loop-letter.invariant.1 t c.take.new.self n c.loop-letter-test.true refl l
          c.in_ok-number.ensures,
    )

pub returns : goal.returns
returns c = record {
  table = so_far_done (λ ys t. take (Some c.args.most) ys (node.Cat c.args.before
      (slice_index c.args.nodes.now t))) c.args.letters.now c.args.list.now
      c.loop-letter.letter-index c.loop-letter.list c.loop-letter.table.items
      c.loop-letter.invariant.1 c.loop-letter-test.false;
  long = c.loop-letter.invariant.0;
}
