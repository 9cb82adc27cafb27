use Rattle.std.proofs.Common.{◌≡◌, ◌∙◌, ◌-◌, ℕ, List, false, eqb, Some, length}
use Rattle.std.proofs.Common.{slice_index, replicate, sym, ap, subst, arith, refl}
use Rattle.std.proofs.lemmas.List.{get_or-replicate, length-replicate}
use Rattle.star_free_theory.specs.declared.nodes.SfNode.{SfNode}
use Rattle.star_free_theory.specs.Construction.{Outcome, free, is_none_left, treat_within}
use Rattle.local_divisors.specs.Instances.{Multiplication, IsMultiplication}
use Rattle.local_divisors.specs.Tasks.{Flat, IsReady, IsChosen, task_with}
use Rattle.local_divisors.specs.Finishing.{finished}
use Rattle.local_divisors.specs.Recursion.{CanDivide}
use Rattle.local_divisors.proofs.Steps.{stops_table, stops_table_as}
use Rattle.local_divisors.proofs.Recursing.{at_zero, at_one, not_one, first_ready}
use Rattle.local_divisors.proofs.Recursing.{second_ready, second_side, can_finish, universe_next}
use Rattle.local_divisors.proofs.TreatSteps.{below, shown_first, first_step, from_first}
use Rattle.local_divisors.proofs.TreatSteps.{letters_step, from_letters, product, image}
use Rattle.local_divisors.proofs.TreatSteps.{shown_second, second_step, from_second}
use Rattle.local_divisors.proofs.TreatSteps.{from_both}
use Rattle.local_divisors.proofs.recursion.+treat.Goals as goal

can_divide : (p : Multiplication) (t : Flat) (l : ℕ) (os S D : List ℕ) → IsReady p t
    → eqb (length t.elements) 1 ≡ false → IsChosen p t l os S D → CanDivide p t l os S D
can_divide p t l os S D ready many chosen =
    record { ready = ready; many = not_one (length t.elements) many; chosen = chosen }

pub returns-then-depth-eq0-clause-table : goal.returns-then-depth-eq0-clause-table
returns-then-depth-eq0-clause-table bound c = λ mul img nod s. at_zero (Some c.args.most)
    c.args.depth c.args.list.now (task_with c.args.task.now mul img nod) c.if-depth-eq0.true

pub first_instance-requires : goal.first_instance-requires
first_instance-requires bound c =
    let p = c.args.product.now in
    let t = c.args.task.now in
    let l = c.in_ok-choice.choice.letter in
    let os = c.in_ok-choice.choice.others.items in
    let S = c.in_ok-choice.choice.submonoid.items in
    let D = c.in_ok-choice.choice.divisor.items in
    let k : CanDivide p t l os S D =
    can_divide p t l os S D c.requires (sym c.is_single.ensures ∙ c.if-is_single.false)
    c.in_ok-choice.ensures in
    k

pub returns-in_err-instance-clause-table : goal.returns-in_err-instance-clause-table
returns-in_err-instance-clause-table bound c = λ mul img nod s.
    let p = c.args.product.now in
    let t = c.args.task.now in
    let l = c.in_ok-choice.choice.letter in
    let os = c.in_ok-choice.choice.others.items in
    let S = c.in_ok-choice.choice.submonoid.items in
    let D = c.in_ok-choice.choice.divisor.items in
    let k : CanDivide p t l os S D =
    can_divide p t l os S D c.requires (sym c.is_single.ensures ∙ c.if-is_single.false)
    c.in_ok-choice.ensures in
    let m = Some c.args.most in
    let n = c.args.depth - 1 in
    let d = c.args.depth in
    let deep = below d c.if-depth-eq0.false in
    let xs = c.args.list.now in
    let code : Outcome (List SfNode × ℕ) = free m (is_none_left os) xs (slice_index t.nodes l)
    t.universe in
    stops_table (λ v. v.items) code _ _ _ c.in_err-instance.field-0.0 _
    (universe_next p t l os S D k mul img nod s m n d xs deep)
    c.in_err-instance.ensures c.from_residual-in_err-instance.ensures.1

pub treat-requires : goal.treat-requires
treat-requires bound c =
    let p = c.args.product.now in
    let t = c.args.task.now in
    let l = c.in_ok-choice.choice.letter in
    let os = c.in_ok-choice.choice.others.items in
    let S = c.in_ok-choice.choice.submonoid.items in
    let D = c.in_ok-choice.choice.divisor.items in
    let k : CanDivide p t l os S D =
    can_divide p t l os S D c.requires (sym c.is_single.ensures ∙ c.if-is_single.false)
    c.in_ok-choice.ensures in
    let i = c.in_ok-instance.ensures in
    (omega arith, subst (λ (z : Flat). IsReady p z) (sym i.2) (first_ready p t l os S D k i.0))

pub returns-in_err-first-clause-table : goal.returns-in_err-first-clause-table
returns-in_err-first-clause-table bound c = λ mul img nod s.
    let p = c.args.product.now in
    let t = c.args.task.now in
    let l = c.in_ok-choice.choice.letter in
    let os = c.in_ok-choice.choice.others.items in
    let S = c.in_ok-choice.choice.submonoid.items in
    let D = c.in_ok-choice.choice.divisor.items in
    let k : CanDivide p t l os S D =
    can_divide p t l os S D c.requires (sym c.is_single.ensures ∙ c.if-is_single.false)
    c.in_ok-choice.ensures in
    let m = Some c.args.most in
    let n = c.args.depth - 1 in
    let d = c.args.depth in
    let deep = below d c.if-depth-eq0.false in
    let xs = c.args.list.now in
    let ys = c.first_instance.new.list in
    let f = c.in_ok-instance.instance in
    let i = c.in_ok-instance.ensures in
    stops_table (λ v. v.items)
    (first_step p t l os S D k mul img nod s m n d deep xs ys f i) _ _ _ c.in_err-first.field-0.0 _
    (from_first p t l os S D k mul img nod s m n d deep xs ys f i)
    (c.in_err-first.ensures.table mul img nod
    (shown_first p t l os S D k mul img nod s m n d deep xs ys f i))
    c.from_residual-in_err-first.ensures.1

pub second_letters-requires-clause-divides : goal.second_letters-requires-clause-divides
second_letters-requires-clause-divides bound c =
    let p = c.args.product.now in
    let t = c.args.task.now in
    let l = c.in_ok-choice.choice.letter in
    let os = c.in_ok-choice.choice.others.items in
    let S = c.in_ok-choice.choice.submonoid.items in
    let D = c.in_ok-choice.choice.divisor.items in
    let k : CanDivide p t l os S D =
    can_divide p t l os S D c.requires (sym c.is_single.ensures ∙ c.if-is_single.false)
    c.in_ok-choice.ensures in
    k

pub second_letters-requires-clause-long : goal.second_letters-requires-clause-long
second_letters-requires-clause-long bound c = ap (λ (zs : List ℕ). length zs)
    c.as_slice.ensures.value ∙ c.in_ok-first.ensures.long

pub returns-in_err-letters-clause-table : goal.returns-in_err-letters-clause-table
returns-in_err-letters-clause-table bound c = λ mul img nod s.
    let p = c.args.product.now in
    let t = c.args.task.now in
    let l = c.in_ok-choice.choice.letter in
    let os = c.in_ok-choice.choice.others.items in
    let S = c.in_ok-choice.choice.submonoid.items in
    let D = c.in_ok-choice.choice.divisor.items in
    let k : CanDivide p t l os S D =
    can_divide p t l os S D c.requires (sym c.is_single.ensures ∙ c.if-is_single.false)
    c.in_ok-choice.ensures in
    let m = Some c.args.most in
    let n = c.args.depth - 1 in
    let d = c.args.depth in
    let deep = below d c.if-depth-eq0.false in
    let xs = c.args.list.now in
    let ys = c.first_instance.new.list in
    let f = c.in_ok-instance.instance in
    let i = c.in_ok-instance.ensures in
    let zs = c.treat.new.list in
    let e = c.in_ok-first.first.items in
    let read = c.as_slice.result.now in
    let g = c.in_ok-first.ensures.table mul img nod
    (shown_first p t l os S D k mul img nod s m n d deep xs ys f i) in
    let long = c.in_ok-first.ensures.long in
    let is_read = c.as_slice.ensures.value in
    stops_table (λ v. v.items)
    (letters_step p t l os S D k mul img nod s m n d deep xs ys f i zs e read g long
    is_read) _ _ _
    c.in_err-letters.field-0.0 _
    (from_letters p t l os S D k mul img nod s m n d deep xs ys f i zs e read g long
    is_read)
    c.in_err-letters.ensures c.from_residual-in_err-letters.ensures.1

pub second_instance-requires : goal.second_instance-requires
second_instance-requires bound c =
    let p = c.args.product.now in
    let t = c.args.task.now in
    let l = c.in_ok-choice.choice.letter in
    let os = c.in_ok-choice.choice.others.items in
    let S = c.in_ok-choice.choice.submonoid.items in
    let D = c.in_ok-choice.choice.divisor.items in
    let k : CanDivide p t l os S D =
    can_divide p t l os S D c.requires (sym c.is_single.ensures ∙ c.if-is_single.false)
    c.in_ok-choice.ensures in
    k

pub treat-requires-2 : goal.treat-requires-2
treat-requires-2 bound c =
    let p = c.args.product.now in
    let t = c.args.task.now in
    let l = c.in_ok-choice.choice.letter in
    let os = c.in_ok-choice.choice.others.items in
    let S = c.in_ok-choice.choice.submonoid.items in
    let D = c.in_ok-choice.choice.divisor.items in
    let k : CanDivide p t l os S D =
    can_divide p t l os S D c.requires (sym c.is_single.ensures ∙ c.if-is_single.false)
    c.in_ok-choice.ensures in
    let ws = c.second_letters.new.list in
    let b = c.in_ok-letters.letters.nodes.items in
    let u = c.in_ok-letters.letters.universe in
    let r = c.in_ok-letters.ensures in
    let wf : IsMultiplication p = c.side-side.ensures.product in
    let q : Multiplication = c.in_ok-local.local.product in
    let s2 : Flat = c.in_ok-local.local.task in
    let j = c.in_ok-local.ensures in
    (omega arith, second_ready p t l os S D k wf b u q s2 j r.2.long)

pub returns-in_err-second-clause-table : goal.returns-in_err-second-clause-table
returns-in_err-second-clause-table bound c = λ mul img nod s.
    let p = c.args.product.now in
    let t = c.args.task.now in
    let l = c.in_ok-choice.choice.letter in
    let os = c.in_ok-choice.choice.others.items in
    let S = c.in_ok-choice.choice.submonoid.items in
    let D = c.in_ok-choice.choice.divisor.items in
    let k : CanDivide p t l os S D =
    can_divide p t l os S D c.requires (sym c.is_single.ensures ∙ c.if-is_single.false)
    c.in_ok-choice.ensures in
    let m = Some c.args.most in
    let n = c.args.depth - 1 in
    let d = c.args.depth in
    let deep = below d c.if-depth-eq0.false in
    let xs = c.args.list.now in
    let ys = c.first_instance.new.list in
    let f = c.in_ok-instance.instance in
    let i = c.in_ok-instance.ensures in
    let zs = c.treat.new.list in
    let e = c.in_ok-first.first.items in
    let read = c.as_slice.result.now in
    let g = c.in_ok-first.ensures.table mul img nod
    (shown_first p t l os S D k mul img nod s m n d deep xs ys f i) in
    let long = c.in_ok-first.ensures.long in
    let is_read = c.as_slice.ensures.value in
    let ws = c.second_letters.new.list in
    let b = c.in_ok-letters.letters.nodes.items in
    let u = c.in_ok-letters.letters.universe in
    let r = c.in_ok-letters.ensures in
    let wf : IsMultiplication p = c.side-side.ensures.product in
    let q : Multiplication = c.in_ok-local.local.product in
    let s2 : Flat = c.in_ok-local.local.task in
    let j = c.in_ok-local.ensures in
    stops_table (λ v. v.items)
    (second_step p t l os S D k mul img nod s m n d deep xs ys f i zs e read g long
    is_read ws b u r wf q s2 j) _ _ _ c.in_err-second.field-0.0 _
    (from_second p t l os S D k mul img nod s m n d deep xs ys f i zs e read g long
    is_read ws b u r wf q s2 j)
    (c.in_err-second.ensures.table
    (product p t l os S D k mul img nod s m n d deep xs ys f i zs e read g long
    is_read ws b u r wf q s2 j)
    (image p t l os S D k mul img nod s m n d deep xs ys f i zs e read g long
    is_read ws b u r wf q s2 j) r.0.0
    (shown_second p t l os S D k mul img nod s m n d deep xs ys f i zs e read g long
    is_read ws b u r wf q s2 j))
    c.from_residual-in_err-second.ensures.1

pub finish-requires : goal.finish-requires
finish-requires bound c =
    let p = c.args.product.now in
    let t = c.args.task.now in
    let l = c.in_ok-choice.choice.letter in
    let os = c.in_ok-choice.choice.others.items in
    let S = c.in_ok-choice.choice.submonoid.items in
    let D = c.in_ok-choice.choice.divisor.items in
    let k : CanDivide p t l os S D =
    can_divide p t l os S D c.requires (sym c.is_single.ensures ∙ c.if-is_single.false)
    c.in_ok-choice.ensures in
    let ws = c.second_letters.new.list in
    let b = c.in_ok-letters.letters.nodes.items in
    let u = c.in_ok-letters.letters.universe in
    let r = c.in_ok-letters.ensures in
    let wf : IsMultiplication p = c.side-side.ensures.product in
    let q : Multiplication = c.in_ok-local.local.product in
    let s2 : Flat = c.in_ok-local.local.task in
    let j = c.in_ok-local.ensures in
    let e = c.in_ok-first.first.items in
    let f2 = c.in_ok-second.second.items in
    let lf : length f2 ≡ p.table.side = c.in_ok-second.ensures.long
    ∙ second_side p t l os S D k wf b u q s2 j r.2.long in
    rw (
      c.elements.ensures,
      c.as_slice-2.ensures.value,
      c.as_slice-3.ensures.value,
      c.as_slice-4.ensures.value,
    ) (can_finish p t l os S D k e b f2 c.in_ok-first.ensures.long r.2.long lf)

pub returns-in_err-table-2-clause-table : goal.returns-in_err-table-2-clause-table
returns-in_err-table-2-clause-table bound c = λ mul img nod s.
    let p = c.args.product.now in
    let t = c.args.task.now in
    let l = c.in_ok-choice.choice.letter in
    let os = c.in_ok-choice.choice.others.items in
    let S = c.in_ok-choice.choice.submonoid.items in
    let D = c.in_ok-choice.choice.divisor.items in
    let k : CanDivide p t l os S D =
    can_divide p t l os S D c.requires (sym c.is_single.ensures ∙ c.if-is_single.false)
    c.in_ok-choice.ensures in
    let m = Some c.args.most in
    let n = c.args.depth - 1 in
    let d = c.args.depth in
    let deep = below d c.if-depth-eq0.false in
    let xs = c.args.list.now in
    let ys = c.first_instance.new.list in
    let f = c.in_ok-instance.instance in
    let i = c.in_ok-instance.ensures in
    let zs = c.treat.new.list in
    let e = c.in_ok-first.first.items in
    let read = c.as_slice.result.now in
    let g = c.in_ok-first.ensures.table mul img nod
    (shown_first p t l os S D k mul img nod s m n d deep xs ys f i) in
    let long = c.in_ok-first.ensures.long in
    let is_read = c.as_slice.ensures.value in
    let ws = c.second_letters.new.list in
    let b = c.in_ok-letters.letters.nodes.items in
    let u = c.in_ok-letters.letters.universe in
    let r = c.in_ok-letters.ensures in
    let wf : IsMultiplication p = c.side-side.ensures.product in
    let q : Multiplication = c.in_ok-local.local.product in
    let s2 : Flat = c.in_ok-local.local.task in
    let j = c.in_ok-local.ensures in
    let vs = c.treat-2.new.list in
    let f2 = c.in_ok-second.second.items in
    let h = c.in_ok-second.ensures.table
    (product p t l os S D k mul img nod s m n d deep xs ys f i zs e read g long
    is_read ws b u r wf q s2 j)
    (image p t l os S D k mul img nod s m n d deep xs ys f i zs e read g long
    is_read ws b u r wf q s2 j) r.0.0
    (shown_second p t l os S D k mul img nod s m n d deep xs ys f i zs e read g long
    is_read ws b u r wf q s2 j) in
    let both = from_both p t l os S D k mul img nod s m n d deep xs ys f i zs e read g long
    is_read ws b u r wf q s2 j vs f2 h
    c.in_ok-second.ensures.long in
    let code : Outcome (List SfNode × (ℕ → ℕ)) = finished m p c.elements.result.now S D
    c.as_slice-2.result.now c.as_slice-3.result.now c.as_slice-4.result.now vs in
    let same : finished m p t.elements S D e b f2 vs ≡ code =
    rw (
      c.elements.ensures,
      c.as_slice-2.ensures.value,
      c.as_slice-3.ensures.value,
      c.as_slice-4.ensures.value,
    ) refl in
    stops_table_as (λ v. v.items) code _ _ c.in_err-table-2.field-0.0 _ (both ∙ same)
    c.in_err-table-2.ensures.table
    c.from_residual-in_err-table-2.ensures.1

pub returns : goal.returns
returns bound c = record {
  table = λ mul img nod s.
      let p = c.args.product.now in
      let t = c.args.task.now in
      let l = c.in_ok-choice.choice.letter in
      let os = c.in_ok-choice.choice.others.items in
      let S = c.in_ok-choice.choice.submonoid.items in
      let D = c.in_ok-choice.choice.divisor.items in
      let k : CanDivide p t l os S D =
      can_divide p t l os S D c.requires (sym c.is_single.ensures ∙ c.if-is_single.false)
      c.in_ok-choice.ensures in
      let m = Some c.args.most in
      let n = c.args.depth - 1 in
      let d = c.args.depth in
      let deep = below d c.if-depth-eq0.false in
      let xs = c.args.list.now in
      let ys = c.first_instance.new.list in
      let f = c.in_ok-instance.instance in
      let i = c.in_ok-instance.ensures in
      let zs = c.treat.new.list in
      let e = c.in_ok-first.first.items in
      let read = c.as_slice.result.now in
      let g = c.in_ok-first.ensures.table mul img nod
      (shown_first p t l os S D k mul img nod s m n d deep xs ys f i) in
      let long = c.in_ok-first.ensures.long in
      let is_read = c.as_slice.ensures.value in
      let ws = c.second_letters.new.list in
      let b = c.in_ok-letters.letters.nodes.items in
      let u = c.in_ok-letters.letters.universe in
      let r = c.in_ok-letters.ensures in
      let wf : IsMultiplication p = c.side-side.ensures.product in
      let q : Multiplication = c.in_ok-local.local.product in
      let s2 : Flat = c.in_ok-local.local.task in
      let j = c.in_ok-local.ensures in
      let vs = c.treat-2.new.list in
      let f2 = c.in_ok-second.second.items in
      let h = c.in_ok-second.ensures.table
      (product p t l os S D k mul img nod s m n d deep xs ys f i zs e read g long
      is_read ws b u r wf q s2 j)
      (image p t l os S D k mul img nod s m n d deep xs ys f i zs e read g long
      is_read ws b u r wf q s2 j) r.0.0
      (shown_second p t l os S D k mul img nod s m n d deep xs ys f i zs e read g long
      is_read ws b u r wf q s2 j) in
      let both = from_both p t l os S D k mul img nod s m n d deep xs ys f i zs e read g long
      is_read ws b u r wf q s2 j vs f2 h
      c.in_ok-second.ensures.long in
      let code : Outcome (List SfNode × (ℕ → ℕ)) = finished m p c.elements.result.now S D
      c.as_slice-2.result.now c.as_slice-3.result.now c.as_slice-4.result.now vs in
      let same : finished m p t.elements S D e b f2 vs ≡ code =
      rw (
        c.elements.ensures,
        c.as_slice-2.ensures.value,
        c.as_slice-3.ensures.value,
        c.as_slice-4.ensures.value,
      ) refl in
      let z = c.in_ok-table-2.ensures.table in
      (z.0, both ∙ same ∙ z.1, z.2);
  long = c.in_ok-table-2.ensures.long;
}

pub returns-then-is_single : goal.returns-then-is_single
returns-then-is_single bound c = record {
  table = λ mul img nod s.
      let t = c.args.task.now in
      let side = c.args.product.now.table.side in
      let xs = c.args.list.now in
      let T = task_with t mul img nod in
      let v = c.in_ok-table.table.items in
      let f : v ≡ replicate c.side-side.result t.universe = c.in_ok-table.ensures
      ∙ ap (replicate c.side-side.result) c.universe.ensures in (
        λ x. t.universe,
        ap (λ (z : ℕ). treat_within (Some c.args.most) z xs T)
            (sym (below c.args.depth c.if-depth-eq0.false))
            ∙ at_one (Some c.args.most) (c.args.depth - 1) xs T (sym c.is_single.ensures
            ∙ c.if-is_single.true),
        λ x i. sym (ap (λ zs. slice_index zs x) f ∙ get_or-replicate c.side-side.result x t.universe
            0 (let g = ap (λ (zs : List ℕ). length zs) f ∙ length-replicate c.side-side.result
            t.universe in omega arith)),
      );
  long = ap (λ (zs : List ℕ). length zs) c.in_ok-table.ensures
      ∙ length-replicate c.side-side.result c.universe.result ∙ c.side-side.ensures.side;
}
