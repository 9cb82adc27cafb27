use Rattle.std.proofs.Common.{Err, ◌≡◌, ◌∙◌, ◌<◌, ℕ, List, Some, None, [], length, get_or}
use Rattle.std.proofs.Common.{slice_index, slice_index_or, replicate, refl, sym, ap}
use Rattle.std.proofs.Common.{subst, arith}
use Rattle.std.proofs.lemmas.Grind.{common_steps}
use Rattle.std.proofs.lemmas.List.{length-set, length-replicate}
use Rattle.star_free_theory.specs.Construction.{join_all, done}
use Rattle.local_divisors.specs.Building.{Answers, ArePairsWithin}
use Rattle.local_divisors.proofs.Steps.{so_far_none, so_far_more, so_far_stops, so_far_done}
use Rattle.local_divisors.proofs.treating.join_groups.Goals as goal

pub loop-element-init : goal.loop-element-init
loop-element-init c =
    let e : c.in_ok-table.table.items ≡ replicate (length c.args.starts.now) 0 =
    grind (arith, common_steps) in (
      ap (λ (zs : List ℕ). length zs) e ∙ length-replicate (length c.args.starts.now) 0,
      so_far_none
          (λ ys u. join_all (Some c.args.most) (slice_index c.args.first.now)
          (slice_index c.args.second.now) (slice_index_or c.args.starts.now u None)
          (slice_index_or c.args.groups.now u []) ys) c.args.elements.now
          c.args.list.now c.in_ok-table.table.items (length c.args.starts.now) e,
    )

pub returns-in_err-number-clause-table : goal.returns-in_err-number-clause-table
returns-in_err-number-clause-table c =
    let e : c.pairs-pairs.result ≡ slice_index_or c.args.groups.now
    (get_or c.args.elements.now c.loop-element.element-index 0) [] = grind (arith, common_steps)
    in
    so_far_stops (λ ys u. join_all (Some c.args.most) (slice_index c.args.first.now)
    (slice_index c.args.second.now) (slice_index_or c.args.starts.now u None)
    (slice_index_or c.args.groups.now u []) ys) c.args.elements.now
    c.args.list.now c.loop-element.element-index c.loop-element.list c.loop-element.table.items
    c.loop-element.invariant.1 (λ v. v.items) (get_or c.args.elements.now
    c.loop-element.element-index 0) _ c.in_err-number.field-0.0 _
    c.loop-element-test.true refl
    (subst (λ (qs : List (ℕ × ℕ)). Answers (join_all (Some c.args.most)
    (slice_index c.args.first.now) (slice_index c.args.second.now)
    (slice_index_or c.args.starts.now (get_or c.args.elements.now c.loop-element.element-index
    0) None) qs c.loop-element.list) c.join_all.new.self (Err c.in_err-number.field-0.0)) e
    c.in_err-number.ensures) c.from_residual-in_err-number.ensures.1

pub loop-element-preserved : goal.loop-element-preserved
loop-element-preserved c =
    let e : c.pairs-pairs.result ≡ slice_index_or c.args.groups.now
    (get_or c.args.elements.now c.loop-element.element-index 0) [] = grind (arith, common_steps)
    in
    let t : ℕ = get_or c.args.elements.now c.loop-element.element-index 0 in
    let n = c.in_ok-number.number in
    let l : t < length c.loop-element.table.items = grind (arith, common_steps) in (
      length-set c.loop-element.table.items t n ∙ c.loop-element.invariant.0,
      so_far_more (λ ys u. join_all (Some c.args.most) (slice_index c.args.first.now)
          (slice_index c.args.second.now) (slice_index_or c.args.starts.now u None)
          (slice_index_or c.args.groups.now u []) ys) c.args.elements.now
          c.args.list.now c.loop-element.element-index c.loop-element.list
          c.loop-element.table.items c.loop-element.invariant.1 t c.join_all.new.self n
          c.loop-element-test.true refl l (subst (λ (qs : List (ℕ × ℕ)). join_all (Some c.args.most)
          (slice_index c.args.first.now) (slice_index c.args.second.now)
          (slice_index_or c.args.starts.now t None) qs c.loop-element.list
          ≡ done (c.join_all.new.self, n)) e c.in_ok-number.ensures),
    )

pub returns : goal.returns
returns c = record {
  table = so_far_done (λ ys u. join_all (Some c.args.most) (slice_index c.args.first.now)
      (slice_index c.args.second.now) (slice_index_or c.args.starts.now u None)
      (slice_index_or c.args.groups.now u []) ys) c.args.elements.now
      c.args.list.now c.loop-element.element-index c.loop-element.list c.loop-element.table.items
      c.loop-element.invariant.1 c.loop-element-test.false;
  long = c.loop-element.invariant.0;
}

pub join_all-requires : goal.join_all-requires
join_all-requires c =
    let e : c.pairs-pairs.result ≡ slice_index_or c.args.groups.now
    (get_or c.args.elements.now c.loop-element.element-index 0) [] = grind (arith, common_steps)
    in
    let l : get_or c.args.elements.now c.loop-element.element-index 0 < length c.args.starts.now =
    grind (arith, common_steps) in
    subst (ArePairsWithin (length c.args.first.now) (length c.args.second.now)) (sym e)
    (c.requires.pairs (get_or c.args.elements.now c.loop-element.element-index 0) l)
