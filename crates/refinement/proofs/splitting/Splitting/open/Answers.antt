use Rattle.std.proofs.Common.{◌≡◌, ◌∙◌, ◌<◌, ◌+◌, ap, sym, arith, ℕ, List, length, rules}
use Rattle.std.specs.Prelude.{All}
use Rattle.std.proofs.lemmas.List.{length-set}
use Rattle.std.proofs.lemmas.List.Elements.{All-weaker}
use Rattle.refinement.proofs.SplitLists.{listed_open, pushed_length, All-pushed}
use Rattle.refinement.proofs.splitting.Splitting.open.Goals as goal

pub returns-clause-state : goal.returns-clause-state
returns-clause-state c =
    let s = c.requires.state in
    let old = c.args.self.now in
    let size = c.args.size in
    let count = length old.members.items in
    let lm : length c.push.new.self.items ≡ length old.members.items + 1 =
    pushed_length _ _ _ c.in_ok-push.ensures.items in
    let ls : length c.push-2.new.self.items ≡ length old.members.items + 1 =
    pushed_length _ _ _ c.in_ok-push-2.ensures.items
    ∙ ap (λ (k : ℕ). k + 1) (length-set _ _ _ ∙ s.sizes) in
    let le : length c.push-3.new.self.items ≡ length old.members.items + 1 =
    pushed_length _ _ _ c.in_ok-push-3.ensures.items ∙ ap (λ (k : ℕ). k + 1) s.met in
    let lg : length c.push-4.new.self.items ≡ length old.members.items + 1 =
    pushed_length _ _ _ c.in_ok-push-4.ensures.items
    ∙ ap (λ (k : ℕ). k + 1) (length-set _ _ _ ∙ s.goals) in
    let lw : length c.push-5.new.self.items ≡ length old.members.items + 1 =
    pushed_length _ _ _ c.in_ok-push-5.ensures.items ∙ ap (λ (k : ℕ). k + 1) s.waiting in
    let more : (k : ℕ) → k < length old.members.items
    → k < length old.members.items + 1 = λ k h. omega arith in
    record {
      long = s.long;
      few = omega (arith, lm, c.requires.room);
      within = rw lm (All-weaker (λ k. k < length old.members.items)
          (λ k. k < length old.members.items + 1) more old.class_of.items s.within);
      listed = listed_open size old.class_of.items _ old.members.items _ s.listed s.long s.within
          c.in_ok-push.ensures.items;
      nodes = All-pushed (λ (m : List ℕ). All (λ k. k < size) m) _ _ _ c.in_ok-push.ensures.items
          s.nodes (search rules);
      sizes = ls ∙ sym lm;
      met = le ∙ sym lm;
      goals = lg ∙ sym lm;
      waiting = lw ∙ sym lm;
      aims = search rules;
      queued = rw lm (All-weaker (λ k. k < length old.members.items)
          (λ k. k < length old.members.items + 1) more old.queue.items s.queued);
    }
