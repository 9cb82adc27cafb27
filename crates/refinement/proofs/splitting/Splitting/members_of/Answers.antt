use Rattle.std.proofs.Common.{◌≡◌, ◌∙◌, ◌<◌, ◌++◌, ap, sym, subst, refl, arith, ℕ, List, [], ◌∷◌, length, slice_index, get_or, take}
use Rattle.std.specs.Prelude.{All}
use Rattle.std.proofs.lemmas.Grind.{get_or_default_zero}
use Rattle.std.proofs.lemmas.List.{get_or_default, take_all}
use Rattle.std.proofs.lemmas.List.Elements.{All-same, All-get_or}
use Rattle.language_theory.specs.Words.{word_at}
use Rattle.refinement.specs.Splitting.{ArePicked}
use Rattle.refinement.proofs.SplitLists.{picked_in, picked_out, picked_members}
use Rattle.refinement.proofs.splitting.Splitting.members_of.Goals as goal
use Rattle.refinement.proofs.splitting.Splitting.members_of.Goals.{then-index-class+in_ok-push, else-index-class}

pub loop-node-preserved : goal.loop-node-preserved
loop-node-preserved c =
    let i = c.loop-node.invariant in
    let size = c.args.size in
    let n = c.loop-node.node-index in
    let s = c.args.self.now in
    let list = c.as_slice-node-items.result.now in
    let l : n < length list = c.loop-node-test.true in
    let same : list ≡ word_at s.members.items c.args.class = c.as_slice-node-items.ensures
    ∙ c.index.ensures ∙ get_or_default s.members.items c.args.class _ [] i.1 in
    let all : All (λ k. k < size) list = All-same (λ k. k < size) _ _ same
    (All-get_or (λ (m : List ℕ). All (λ k. k < size) m) s.members.items c.args.class [] i.1
    i.0.nodes) in
    let x : ℕ = slice_index list n in
    let hx : slice_index list n < size = All-get_or (λ k. k < size) list n 0 l all in
    let at = get_or_default_zero list n _ l in
    let hl : slice_index list n < length s.class_of.items = omega (arith, i.0.long, hx) in
    let class : c.index-in-loop-node.result.now
    ≡ slice_index s.class_of.items (slice_index list n) = c.index-in-loop-node.ensures
    ∙ ap (λ (k : ℕ). get_or s.class_of.items k c.index-in-loop-node.result.now) at
    ∙ get_or_default_zero s.class_of.items (slice_index list n) _ hl in
    elim c.if-index-class.branch [
      | then-index-class+in_ok-push w ↦ (
        i.0,
        i.1,
        picked_in size c.args.class n (slice_index list n) s.class_of.items list
            c.loop-node.members.items _ i.2 l refl hx (sym class ∙ w.if-index-class.true)
            (ap (λ v. v.items) w.members-is ∙ w.in_ok-push.ensures.items
            ∙ ap (λ (k : ℕ). c.loop-node.members.items ++ k ∷ []) at),
      )
      | else-index-class w ↦ (
        i.0,
        i.1,
        picked_out size c.args.class n (slice_index list n)
            s.class_of.items list c.loop-node.members.items _ i.2 l refl
            (λ e. w.if-index-class.false (class ∙ e)) (ap (λ v. v.items) w.members-is),
      )
    ]

pub returns : goal.returns
returns c =
    let i = c.loop-node.invariant in
    let size = c.args.size in
    let s = c.args.self.now in
    let list = c.as_slice-node-items.result.now in
    let same : list ≡ word_at s.members.items c.args.class = c.as_slice-node-items.ensures
    ∙ c.index.ensures ∙ get_or_default s.members.items c.args.class _ [] i.1 in
    let all : All (λ k. k < size) list = All-same (λ k. k < size) _ _ same
    (All-get_or (λ (m : List ℕ). All (λ k. k < size) m) s.members.items c.args.class [] i.1
    i.0.nodes) in
    let end : take c.loop-node.node-index list ≡ list =
    take_all c.loop-node.node-index list c.loop-node-test.false in
    record {
      members = picked_members size c.args.class s.class_of.items list _ s.members.items
          i.0.listed all same
          (subst (λ (xs : List ℕ). ArePicked size s.class_of.items c.args.class xs
          c.loop-node.members.items) end i.2);
    }
