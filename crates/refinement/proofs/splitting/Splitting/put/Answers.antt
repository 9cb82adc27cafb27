use Rattle.std.proofs.Common.{◌≡◌, ◌∙◌, ◌<◌, ◌++◌, ap, sym, arith, ℕ, List, [], ◌∷◌, length, set}
use Rattle.std.specs.Prelude.{All}
use Rattle.std.proofs.lemmas.List.{get_or_default, length-set}
use Rattle.std.proofs.lemmas.List.Elements.{All-get_or, All-set}
use Rattle.language_theory.specs.Words.{word_at}
use Rattle.refinement.proofs.SplitLists.{listed_put, All-pushed}
use Rattle.refinement.proofs.splitting.Splitting.put.Goals as goal

pub returns-in_ok-push-clause-state : goal.returns-in_ok-push-clause-state
returns-in_ok-push-clause-state c =
    let s = c.requires.state in
    let old = c.args.self.now in
    let node = c.args.node in
    let class = c.args.class in
    let hn : node < length old.class_of.items = omega (arith, s.long, c.requires.node) in
    let list : c.push.new.self ≡ word_at old.members.items class ++ node ∷ [] = c.in_ok-push.ensures
    ∙ ap (λ (m : List ℕ). m ++ node ∷ [])
    (c.index_mut-then-index-class.ensures.value
    ∙ get_or_default old.members.items class _ [] c.requires.class) in
    let few : length (set old.members.items class c.push.new.self) ≡ length old.members.items =
    length-set old.members.items class c.push.new.self in
    let within : All (λ k. k < c.args.size) c.push.new.self =
    All-pushed (λ k. k < c.args.size) _ _ node list
    (All-get_or (λ (m : List ℕ). All (λ k. k < c.args.size) m) old.members.items class []
    c.requires.class s.nodes) c.requires.node in
    record {
      long = length-set old.class_of.items node class ∙ s.long;
      few = omega (arith, few, s.few);
      within = rw few (All-set (λ k. k < length old.members.items) old.class_of.items node class
          c.requires.class s.within);
      listed = listed_put c.args.size node class old.class_of.items c.push.new.self
          old.members.items s.listed hn c.requires.class list;
      nodes = All-set (λ (m : List ℕ). All (λ k. k < c.args.size) m) old.members.items class
          c.push.new.self within s.nodes;
      sizes = s.sizes ∙ sym few;
      met = s.met ∙ sym few;
      goals = s.goals ∙ sym few;
      waiting = s.waiting ∙ sym few;
      aims = rw few s.aims;
      queued = rw few s.queued;
    }
