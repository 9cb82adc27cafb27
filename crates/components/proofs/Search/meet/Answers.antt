use Rattle.std.proofs.Common.{arith, sym, ap, subst, ◌≡◌, ℕ, ◌+◌, ◌-◌, ◌<◌, ◌≤◌, List, length}
use Rattle.std.proofs.Common.{slice_index}
use Rattle.std.proofs.lemmas.Grind.{common_steps}
use Rattle.components.specs.Components.{Reach, target}
use Rattle.components.proofs.Changes.{last_reaches}
use Rattle.components.proofs.Search.meet.Goals as goal

pub open-requires-clause-reached : goal.open-requires-clause-reached
open-requires-clause-reached c = last_reaches c.args.place c.requires.holds.linked c.requires.top
    c.requires.place c.requires.leads

pub join-requires-clause-place : goal.join-requires-clause-place
join-requires-clause-place c =
    let s = c.args.self.now in
    let seen : slice_index s.places.items c.args.next ≡ c.index-seen.result.now - 1 + 1 =
    grind (arith, common_steps) in
    let open_now : c.args.nodes ≤ slice_index s.labels.items c.args.next =
    grind (arith, common_steps) in
    let below : c.index-seen.result.now - 1 < length s.opened.items =
    c.requires.holds.stack.seen c.args.next (c.index-seen.result.now - 1) c.requires.next seen
    open_now in
    omega (arith, ap length c.as_slice.ensures.value)

pub join-requires-clause-reached : goal.join-requires-clause-reached
join-requires-clause-reached c =
    let s = c.args.self.now in
    let p = c.index-seen.result.now - 1 in
    let to = target c.args.degree c.args.targets.now in
    let seen : slice_index s.places.items c.args.next ≡ c.index-seen.result.now - 1 + 1 =
    grind (arith, common_steps) in
    let open_now : c.args.nodes ≤ slice_index s.labels.items c.args.next =
    grind (arith, common_steps) in
    let same = c.requires.holds.stack.same c.args.next p c.requires.next seen open_now in
    let leads : Reach c.args.degree to (slice_index s.opened.items c.args.place)
    (slice_index s.opened.items p) =
    subst (λ x. Reach c.args.degree to (slice_index s.opened.items c.args.place) x) (sym same)
    c.requires.leads in
    subst (λ (xs : List ℕ). (k : ℕ) → k + 1 ≡ length xs
    → Reach c.args.degree to (slice_index xs k) (slice_index xs p))
    (sym c.as_slice.ensures.value) (last_reaches c.args.place c.requires.holds.linked
    c.requires.top c.requires.place leads)
