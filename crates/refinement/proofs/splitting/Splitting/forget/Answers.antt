use Rattle.std.proofs.Common.{◌≡◌, ◌∙◌, ◌<◌, sym, subst, arith, ℕ, List, length, set}
use Rattle.std.specs.Prelude.{All}
use Rattle.std.proofs.lemmas.List.{length-set}
use Rattle.std.proofs.lemmas.List.Elements.{All-set}
use Rattle.refinement.specs.Splitting.{AreMembers}
use Rattle.refinement.proofs.SplitLists.{listed_forget}
use Rattle.refinement.proofs.splitting.Splitting.forget.Goals as goal

pub returns-clause-state : goal.returns-clause-state
returns-clause-state c =
    let s = c.requires.state in
    let old = c.args.self.now in
    let class = c.args.class in
    let m : AreMembers c.args.size old.class_of.items class c.of.result =
    subst (λ (xs : List ℕ). AreMembers c.args.size old.class_of.items class xs)
    (sym c.of.ensures) c.in_ok-members.ensures.members in
    let few : length (set old.members.items class c.of.result) ≡ length old.members.items =
    length-set old.members.items class c.of.result in
    record {
      long = s.long;
      few = omega (arith, few, s.few);
      within = rw few s.within;
      listed = listed_forget c.args.size class old.class_of.items c.of.result old.members.items
          s.listed c.requires.class m;
      nodes = All-set (λ (m : List ℕ). All (λ k. k < c.args.size) m) old.members.items class
          c.of.result m.within s.nodes;
      sizes = s.sizes ∙ sym few;
      met = s.met ∙ sym few;
      goals = s.goals ∙ sym few;
      waiting = s.waiting ∙ sym few;
      aims = rw few s.aims;
      queued = rw few s.queued;
    }
