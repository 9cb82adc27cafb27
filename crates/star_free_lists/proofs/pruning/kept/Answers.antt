use Rattle.std.proofs.Common.{◌≡◌, ◌∙◌, ◌<◌, ℕ, List, true, [], ◌∷◌, ◌++◌, Vec, Global, length, set, slice_index, arith, subst, sym, ap}
use Rattle.std.proofs.lemmas.Grind.{common_steps}
use Rattle.std.proofs.lemmas.List.{get_or_default, length-set}
use Rattle.star_free_theory.specs.declared.nodes.SfNode.{SfNode}
use Rattle.star_free_theory.specs.Pruning.{IsAt, IsPruning, node_at, IsRenumbered}
use Rattle.star_free_theory.specs.StarFree.{IsStarFreeList}
use Rattle.star_free_lists.specs.SfList.{StarFreeList}
use Rattle.star_free_theory.proofs.Pruning.{pruned_list}
use Rattle.language_theory.specs.Automaton.{is_marked}
use Rattle.star_free_lists.specs.Pruning.{AreKept}
use Rattle.star_free_lists.proofs.Needed.{kept_skip, kept_more, kept_all, names_placed, below_wider, node_below}
use Rattle.star_free_lists.proofs.pruning.kept.Goals as goal
use Rattle.star_free_lists.proofs.pruning.kept.Goals.{then-marks-n+in_ok-push, else-marks-n}

pub renumbered-requires : goal.renumbered-requires
renumbered-requires c =
    let nodes = c.args.nodes.now in
    let n = c.loop-n.n in
    let long = c.loop-n.invariant.1.places_long in
    let same : length c.as_slice.result.now ≡ length c.loop-n.places.items = ap
    (λ (xs : List ℕ). length xs) c.as_slice.ensures.value ∙ length-set c.loop-n.places.items n
    c.len.result in
    below_wider n (length c.as_slice.result.now) (node_at nodes n)
    (node_below nodes c.args.root n c.requires.list.list c.loop-n-test.true)
    (let l = c.loop-n-test.true in omega arith)

pub loop-n-preserved : goal.loop-n-preserved
loop-n-preserved c =
    let nodes = c.args.nodes.now in
    let marks = c.args.marks.now in
    let n = c.loop-n.n in
    let ks = c.loop-n.invariant.0 in
    let h = c.loop-n.invariant.1 in
    let ys = c.loop-n.kept.items in
    let ps = c.loop-n.places.items in
    elim c.if-marks-n.branch [
      | then-marks-n+in_ok-push w ↦
          let items : c.if-marks-n.kept.items ≡ ys ++ w.renumbered.result ∷ [] =
          ap (λ (v : Vec SfNode Global). v.items) w.kept-is ∙ w.in_ok-push.ensures.items in
          let count : w.len.result ≡ length ys = grind (arith, common_steps) in
          let long : w.len.result ≡ length ks = count ∙ h.long in
          let places : c.if-marks-n.places.items ≡ set ps n (length ks) =
          ap (λ (v : Vec ℕ Global). v.items) w.places-is ∙ ap (set ps n) long in
          let e : is_marked marks n ≡ true = w.if-marks-n.true in
          let x : IsRenumbered ks (node_at nodes n) w.renumbered.result = w.renumbered.ensures ks
          (λ i o. subst (λ (zs : List ℕ). IsAt ks (slice_index zs i) i)
          (sym w.as_slice.ensures.value)
          (names_placed nodes c.args.root n w.len.result marks ks ys ps c.requires.list.list
          c.requires.marks h c.loop-n-test.true e i o)) in (
            ks ++ n ∷ [],
            rw (items, places)
                (kept_more nodes marks n ks ys ps w.renumbered.result h c.loop-n-test.true e x),
          )
      | else-marks-n w ↦
          let items : c.if-marks-n.kept.items ≡ ys =
          ap (λ (v : Vec SfNode Global). v.items) w.kept-is in
          let places : c.if-marks-n.places.items ≡ ps =
          ap (λ (v : Vec ℕ Global). v.items) w.places-is in
          (ks, rw (items, places) (kept_skip nodes marks n ks ys ps h w.if-marks-n.false))
    ]

pub from_nodes-requires : goal.from_nodes-requires
from_nodes-requires c =
    let nodes = c.args.nodes.now in
    let root = c.args.root in
    let ks = c.loop-n.invariant.0 in
    let ys = c.loop-n.kept.items in
    let ps = c.loop-n.places.items in
    let n : c.loop-n.n ≡ length nodes = omega arith in
    let h : AreKept nodes c.args.marks.now (length nodes) ks ys ps =
    subst (λ (m : ℕ). AreKept nodes c.args.marks.now m ks ys ps) n c.loop-n.invariant.1 in
    let s = c.requires.list.list in
    let i : root < length ps = let a = s.inside in let b = h.places_long in omega arith in
    let place : slice_index ps root ≡ c.index.result.now =
    get_or_default ps root 0 c.index.result.now i ∙ sym c.index.ensures in
    record {
      list = subst (IsStarFreeList ys) place
          (pruned_list nodes root ks ys (slice_index ps root) s
          (kept_all nodes root c.args.marks.now ks ys ps s c.requires.marks h));
      few = let a = h.few in let b = h.long in let d = c.requires.list.few in omega arith;
    }

pub returns : goal.returns
returns c =
    let nodes = c.args.nodes.now in
    let root = c.args.root in
    let ks = c.loop-n.invariant.0 in
    let ys = c.loop-n.kept.items in
    let ps = c.loop-n.places.items in
    let n : c.loop-n.n ≡ length nodes = omega arith in
    let h : AreKept nodes c.args.marks.now (length nodes) ks ys ps =
    subst (λ (m : ℕ). AreKept nodes c.args.marks.now m ks ys ps) n c.loop-n.invariant.1 in
    let s = c.requires.list.list in
    let i : root < length ps = let a = s.inside in let b = h.places_long in omega arith in
    let place : slice_index ps root ≡ c.index.result.now =
    get_or_default ps root 0 c.index.result.now i ∙ sym c.index.ensures in (
      ks,
      subst (λ (l : StarFreeList). IsPruning nodes root ks l.nodes l.root)
          (sym c.from_nodes.ensures)
          (subst (IsPruning nodes root ks ys) place
          (kept_all nodes root c.args.marks.now ks ys ps s c.requires.marks h)),
    )
