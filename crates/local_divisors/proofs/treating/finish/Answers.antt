use Rattle.std.proofs.Common.{◌≡◌, ◌∙◌, ℕ, List, Option, Some, None, replicate, length, sym, ap, subst}
use Rattle.std.proofs.lemmas.List.{length-replicate}
use Rattle.local_divisors.specs.Finishing.{finished, AreStarts}
use Rattle.local_divisors.proofs.Finishing.{us}
use Rattle.local_divisors.proofs.FinishingSteps.{groups_of, ends_made, ends_within, can_join_ends}
use Rattle.local_divisors.proofs.FinishingSteps.{can_join_whole, ends_step, after_ends, from_ends}
use Rattle.local_divisors.proofs.FinishingSteps.{whole_step, from_whole}
use Rattle.local_divisors.proofs.Steps.{stops_table, stops_table_as}
use Rattle.local_divisors.proofs.treating.finish.Goals as goal

pub join_groups-requires : goal.join_groups-requires
join_groups-requires c =
    let p = c.args.product.now in
    let els = c.args.elements.now in
    let S = c.args.choice.now.submonoid.items in
    let D = c.args.choice.now.divisor.items in
    let e = c.args.nodes.now.first.now in
    let b = c.args.nodes.now.letters.now in
    let f = c.args.nodes.now.second.now in
    let m = Some c.args.most in
    let h = c.requires in
    let g = groups_of p c.as_slice.result.now c.as_slice-submonoid.result.now D S c.in_ok-last.last
    c.as_slice.ensures.value c.as_slice-submonoid.ensures.value c.in_ok-last.ensures in
    let made = ends_made m p els S D e b f h c.in_ok-last.last c.in_ok-ends.ends.items g
    c.in_ok-ends.ensures in
    can_join_ends m p els S D e b f h c.in_ok-last.last c.as_slice-2.result.now
    c.as_slice-3.result.now g
    (c.as_slice-2.ensures.value ∙ c.in_ok-none.ensures
    ∙ ap (λ (n : ℕ). replicate {A = Option ℕ} n None) c.side.ensures.side)
    (c.as_slice-3.ensures.value ∙ made)

pub grouped-requires-2-clause-second : goal.grouped-requires-2-clause-second
grouped-requires-2-clause-second c =
    let p = c.args.product.now in
    let els = c.args.elements.now in
    let S = c.args.choice.now.submonoid.items in
    let D = c.args.choice.now.divisor.items in
    let e = c.args.nodes.now.first.now in
    let b = c.args.nodes.now.letters.now in
    let f = c.args.nodes.now.second.now in
    let m = Some c.args.most in
    let h = c.requires in
    let g = groups_of p c.as_slice.result.now c.as_slice-submonoid.result.now D S c.in_ok-last.last
    c.as_slice.ensures.value c.as_slice-submonoid.ensures.value c.in_ok-last.ensures in
    let made = ends_made m p els S D e b f h c.in_ok-last.last c.in_ok-ends.ends.items g
    c.in_ok-ends.ensures in
    ends_within m p els S D e b f h c.as_slice-4.result.now (c.as_slice-4.ensures.value ∙ made)

pub returns-in_err-behind-clause-table : goal.returns-in_err-behind-clause-table
returns-in_err-behind-clause-table c =
    let p = c.args.product.now in
    let els = c.args.elements.now in
    let S = c.args.choice.now.submonoid.items in
    let D = c.args.choice.now.divisor.items in
    let e = c.args.nodes.now.first.now in
    let b = c.args.nodes.now.letters.now in
    let f = c.args.nodes.now.second.now in
    let m = Some c.args.most in
    let h = c.requires in
    let last = c.in_ok-last.last in
    let g = groups_of p c.as_slice.result.now c.as_slice-submonoid.result.now D S last
    c.as_slice.ensures.value c.as_slice-submonoid.ensures.value c.in_ok-last.ensures in
    let none = c.as_slice-2.result.now in
    let n = c.as_slice-2.ensures.value ∙ c.in_ok-none.ensures
    ∙ ap (λ (n : ℕ). replicate {A = Option ℕ} n None) c.side.ensures.side in
    let found = c.as_slice-3.result.now in
    let is = c.as_slice-3.ensures.value
    ∙ ends_made m p els S D e b f h last c.in_ok-ends.ends.items g c.in_ok-ends.ensures in
    let xs = c.args.list.now in
    stops_table (λ v. v.items) (ends_step m p els S D e b f h last none found g n is xs)
    (after_ends m p els S D e b f h last none found g n is xs) (finished m p els S D e b f xs) _
    c.in_err-behind.field-0.0 _ (from_ends m p els S D e b f h last none found g n is xs)
    c.in_err-behind.ensures.table c.from_residual-in_err-behind.ensures.1

pub join_groups-requires-2 : goal.join_groups-requires-2
join_groups-requires-2 c =
    let p = c.args.product.now in
    let els = c.args.elements.now in
    let S = c.args.choice.now.submonoid.items in
    let D = c.args.choice.now.divisor.items in
    let e = c.args.nodes.now.first.now in
    let b = c.args.nodes.now.letters.now in
    let f = c.args.nodes.now.second.now in
    let m = Some c.args.most in
    let h = c.requires in
    let last = c.in_ok-last.last in
    let g = groups_of p c.as_slice.result.now c.as_slice-submonoid.result.now D S last
    c.as_slice.ensures.value c.as_slice-submonoid.ensures.value c.in_ok-last.ensures in
    let made = ends_made m p els S D e b f h last c.in_ok-ends.ends.items g
    c.in_ok-ends.ensures in
    let g2 = groups_of p c.as_slice-submonoid.result.now c.as_slice-4.result.now S
    (us m p els S D e b f h) c.in_ok-whole.whole c.as_slice-submonoid.ensures.value
    (c.as_slice-4.ensures.value ∙ made) c.in_ok-whole.ensures in
    let st : AreStarts S e c.as_slice-6.result.now =
    subst (AreStarts S e) (sym c.as_slice-6.ensures.value)
    (subst (λ (zs : List ℕ). AreStarts zs e c.in_ok-starts.starts.items) c.as_slice-submonoid.ensures.value
    c.in_ok-starts.ensures) in
    let none_long = ap (λ (zs : List (Option ℕ)). length zs) (c.as_slice-2.ensures.value ∙ c.in_ok-none.ensures
    ∙ ap (λ (n : ℕ). replicate {A = Option ℕ} n None) c.side.ensures.side) ∙ length-replicate p.table.side None in
    can_join_whole m p els S D e b f h c.in_ok-whole.whole c.as_slice-6.result.now
    c.as_slice-5.result.now g2 st
    (ap (λ (zs : List ℕ). length zs) c.as_slice-5.ensures.value ∙ c.in_ok-behind.ensures.long ∙ none_long)

pub returns-in_err-table-clause-table : goal.returns-in_err-table-clause-table
returns-in_err-table-clause-table c =
    let p = c.args.product.now in
    let els = c.args.elements.now in
    let S = c.args.choice.now.submonoid.items in
    let D = c.args.choice.now.divisor.items in
    let e = c.args.nodes.now.first.now in
    let b = c.args.nodes.now.letters.now in
    let f = c.args.nodes.now.second.now in
    let m = Some c.args.most in
    let h = c.requires in
    let last = c.in_ok-last.last in
    let g = groups_of p c.as_slice.result.now c.as_slice-submonoid.result.now D S last
    c.as_slice.ensures.value c.as_slice-submonoid.ensures.value c.in_ok-last.ensures in
    let none = c.as_slice-2.result.now in
    let n = c.as_slice-2.ensures.value ∙ c.in_ok-none.ensures
    ∙ ap (λ (n : ℕ). replicate {A = Option ℕ} n None) c.side.ensures.side in
    let found = c.as_slice-3.result.now in
    let made = ends_made m p els S D e b f h last c.in_ok-ends.ends.items g
    c.in_ok-ends.ensures in
    let is = c.as_slice-3.ensures.value ∙ made in
    let xs = c.args.list.now in
    let list = c.join_groups.new.list in
    let behind = c.in_ok-behind.behind.items in
    let w = c.in_ok-behind.ensures.table in
    let whole = c.in_ok-whole.whole in
    let g2 = groups_of p c.as_slice-submonoid.result.now c.as_slice-4.result.now S
    (us m p els S D e b f h) whole c.as_slice-submonoid.ensures.value
    (c.as_slice-4.ensures.value ∙ made) c.in_ok-whole.ensures in
    let starts = c.as_slice-6.result.now in
    let st : AreStarts S e starts =
    subst (AreStarts S e) (sym c.as_slice-6.ensures.value)
    (subst (λ (zs : List ℕ). AreStarts zs e c.in_ok-starts.starts.items) c.as_slice-submonoid.ensures.value
    c.in_ok-starts.ensures) in
    let read = c.as_slice-5.result.now in
    stops_table_as (λ v. v.items)
    (whole_step m p els S D e b f h last none found g n is xs list behind w whole starts read)
    (finished m p els S D e b f xs) _ c.in_err-table.field-0.0 _
    (from_whole m p els S D e b f h last none found g n is xs list behind w whole starts read g2 st
    c.in_ok-behind.ensures.long c.as_slice-5.ensures.value)
    c.in_err-table.ensures.table c.from_residual-in_err-table.ensures.1

pub returns : goal.returns
returns c =
    let p = c.args.product.now in
    let els = c.args.elements.now in
    let S = c.args.choice.now.submonoid.items in
    let D = c.args.choice.now.divisor.items in
    let e = c.args.nodes.now.first.now in
    let b = c.args.nodes.now.letters.now in
    let f = c.args.nodes.now.second.now in
    let m = Some c.args.most in
    let h = c.requires in
    let last = c.in_ok-last.last in
    let g = groups_of p c.as_slice.result.now c.as_slice-submonoid.result.now D S last
    c.as_slice.ensures.value c.as_slice-submonoid.ensures.value c.in_ok-last.ensures in
    let none = c.as_slice-2.result.now in
    let n = c.as_slice-2.ensures.value ∙ c.in_ok-none.ensures
    ∙ ap (λ (n : ℕ). replicate {A = Option ℕ} n None) c.side.ensures.side in
    let found = c.as_slice-3.result.now in
    let made = ends_made m p els S D e b f h last c.in_ok-ends.ends.items g
    c.in_ok-ends.ensures in
    let is = c.as_slice-3.ensures.value ∙ made in
    let xs = c.args.list.now in
    let list = c.join_groups.new.list in
    let behind = c.in_ok-behind.behind.items in
    let w = c.in_ok-behind.ensures.table in
    let whole = c.in_ok-whole.whole in
    let g2 = groups_of p c.as_slice-submonoid.result.now c.as_slice-4.result.now S
    (us m p els S D e b f h) whole c.as_slice-submonoid.ensures.value
    (c.as_slice-4.ensures.value ∙ made) c.in_ok-whole.ensures in
    let starts = c.as_slice-6.result.now in
    let st : AreStarts S e starts =
    subst (AreStarts S e) (sym c.as_slice-6.ensures.value)
    (subst (λ (zs : List ℕ). AreStarts zs e c.in_ok-starts.starts.items) c.as_slice-submonoid.ensures.value
    c.in_ok-starts.ensures) in
    let read = c.as_slice-5.result.now in
    let made_whole =
    from_whole m p els S D e b f h last none found g n is xs list behind w whole starts read g2 st
    c.in_ok-behind.ensures.long c.as_slice-5.ensures.value in
    let z = c.in_ok-table.ensures.table in
    record {
      table = (z.0, made_whole ∙ z.1, z.2);
      long = c.in_ok-table.ensures.long ∙ st.long ∙ h.first_long;
    }
