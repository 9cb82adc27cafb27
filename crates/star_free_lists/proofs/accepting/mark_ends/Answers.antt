use Rattle.std.proofs.Common.{◌≡◌, ◌∙◌, ◌+◌, ◌↔◌, ◌≤◌, ℕ, List, Bool, true, [], ◌∷◌, ◌++◌, length, slice_range, arith, subst, sym}
use Rattle.std.proofs.lemmas.List.{length-append}
use Rattle.language_theory.specs.Words.{Over}
use Rattle.star_free_theory.specs.StarFree.{Denotes}
use Rattle.star_free_theory.specs.Pruning.{node_at}
use Rattle.star_free_lists.specs.Accepting.{CanTell, Tells}
use Rattle.star_free_lists.proofs.Factors.{can_tell, tells_denotes, marks_push}
use Rattle.star_free_lists.proofs.accepting.mark_ends.Goals as goal
use Rattle.star_free_lists.proofs.accepting.mark_ends.Goals.{then-start-end, else-start-end}

pub tells-told-requires : goal.tells-told-requires
tells-told-requires c =
    let same : c.as_slice.result.now ≡ c.loop-end.marks.items = c.as_slice.ensures.value in
    subst (λ (bs : List Bool). CanTell c.args.word.now bs (node_at c.args.nodes.now c.args.n)
    c.args.start c.loop-end.end) (sym same)
    (can_tell c.args.nodes.now c.args.word.now c.loop-end.marks.items c.args.n c.args.start
    c.loop-end.end c.requires.able.earlier c.requires.able.within c.if-start-end.true (omega arith)
    (omega (arith, c.loop-end.invariant.1)))

pub loop-end-preserved : goal.loop-end-preserved
loop-end-preserved c =
    let nodes = c.args.nodes.now in
    let w = c.args.word.now in
    let bs = c.loop-end.marks.items in
    let s = c.args.start in
    let e = c.loop-end.end in
    let b = c.if-start-end.told in
    let items : c.push.new.self.items ≡ bs ++ b ∷ [] = c.in_ok-push.ensures.items in
    let long : length (bs ++ b ∷ []) ≡ length bs + 1 = length-append bs (b ∷ []) in
    let told : (k : ℕ) → Over k w → s ≤ e → (b ≡ true) ↔ Denotes k nodes c.args.n
    (slice_range w s e) = λ k o l. elim c.if-start-end.branch [
      | then-start-end v ↦
          let t = can_tell nodes w bs c.args.n s e c.requires.able.earlier c.requires.able.within l
          (omega arith) (omega (arith, c.loop-end.invariant.1)) in
          let f = tells_denotes k nodes w bs c.args.n s e c.loop-end.invariant.0
          c.requires.able.earlier c.requires.able.within t o in
          let g : (v.tells-told.result ≡ true) ↔ Tells w bs (node_at nodes c.args.n) s e = subst
          (λ (xs : List Bool). (v.tells-told.result ≡ true) ↔ Tells w xs (node_at nodes c.args.n) s
          e) v.as_slice.ensures.value v.tells-told.ensures in
          (λ z. f.0 (g.0 (sym v.told-is ∙ z)), λ z. v.told-is ∙ g.1 (f.1 z))
      | else-start-end v ↦ absurd (omega (arith, v.if-start-end.false))
    ] in
    rw items (
      marks_push nodes w bs c.args.n s e b c.loop-end.invariant.0 c.requires.within
          (omega arith) c.loop-end.invariant.1 told,
      omega arith,
    )
