use Rattle.std.proofs.Common.{◌≡◌, ◌∙◌, ◌<◌, ◌++◌, sym, refl, arith, ℕ, List, [], ◌∷◌, length, slice_index, rules}
use Rattle.std.specs.Prelude.{All}
use Rattle.std.proofs.lemmas.List.{get_or-replicate, length-replicate}
use Rattle.std.proofs.lemmas.List.Elements.{All-from_get_or, All-nil, All-replicate}
use Rattle.refinement.proofs.SplitLists.{listed_new, All-pushed}
use Rattle.refinement.proofs.splitting.Splitting.new.Goals as goal

pub returns-clause-state : goal.returns-clause-state
returns-clause-state c =
    let i = c.loop-node.invariant in
    let size = c.args.size in
    let all = c.loop-node.all.items in
    let classes = c.in_ok-repeated.field-0.items in
    let end : c.loop-node.node ≡ size = omega (arith, i.0, c.loop-node-test.false) in
    let zeros : (k : ℕ) → k < c.args.size → slice_index c.in_ok-repeated.field-0.items k ≡ 0 =
    λ k hk. rw c.in_ok-repeated.ensures (get_or-replicate {A = ℕ} c.args.size k 0 0 hk) in
    let members : c.push-2.new.self.items ≡ [] ++ c.loop-node.all.items ∷ [] =
    c.in_ok-push-2.ensures.items ∙ rw (c.new-members.ensures.items, c.of.ensures) refl in
    let one : length c.push-2.new.self.items ≡ 1 = rw members refl in
    let long : length c.in_ok-repeated.field-0.items ≡ c.args.size =
    rw c.in_ok-repeated.ensures (length-replicate {A = ℕ} c.args.size 0) in
    let each : (k : ℕ) → k < c.args.size
    → slice_index c.loop-node.all.items k ≡ k = λ k hk. i.2 k (omega (arith, end)) in
    let within : All (λ k. k < c.args.size) c.loop-node.all.items =
    All-from_get_or (λ k. k < c.args.size) c.loop-node.all.items 0
    (λ k hk. rw (i.2 k (omega (arith, i.1))) (omega (arith, i.1, i.0))) in
    record {
      long = long;
      few = omega (arith, one, c.requires);
      within = All-from_get_or (λ k. k < length c.push-2.new.self.items) classes 0
          (λ k hk. rw (zeros k (omega (arith, long))) (omega (arith, one)));
      listed = listed_new size classes all c.push-2.new.self.items zeros (i.1 ∙ end) each members;
      nodes = All-pushed (λ (m : List ℕ). All (λ k. k < c.args.size) m) [] _ _ members
          (All-nil (λ (m : List ℕ). All (λ k. k < c.args.size) m)) within;
      sizes = rw c.in_ok-repeated-2.ensures (sym one);
      met = rw c.in_ok-repeated-3.ensures (sym one);
      goals = rw c.in_ok-repeated-4.ensures (sym one);
      waiting = search rules;
      aims = rw (c.in_ok-repeated-4.ensures, one) (All-replicate (λ k. k < 1) 1 0 (omega arith));
      queued = rw c.new.ensures.items (All-nil (λ k. k < length c.push-2.new.self.items));
    }
