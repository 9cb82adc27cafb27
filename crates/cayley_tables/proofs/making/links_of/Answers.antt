use Rattle.std.proofs.Common.{◌≡◌, ℕ, ◌*◌, [], ◌∷◌, sym, subst, ap, ◌∙◌, arith}
use Rattle.cayley_tables.specs.CayleyGraphs.{IsMonoidGraph}
use Rattle.cayley_tables.specs.Links.{LinkLists, with_link}
use Rattle.cayley_tables.specs.Tables.{IsLinking, right_graph}
use Rattle.cayley_tables.proofs.Linking.{linking_begins, same_size}
use Rattle.cayley_tables.proofs.making.links_of.Goals as goal

pub loop-element-init : goal.loop-element-init
loop-element-init c =
    let q = c.requires.monoid in
    let size : q.size ≡ c.args.size =
    same_size q.size c.args.size c.args.letters q.some
    (sym q.monoid.shortlex.graph.long ∙ c.requires.size) in
    let monoid : IsMonoidGraph (right_graph c.args.size c.args.letters c.args.right.now) q.words =
    subst (λ (s : ℕ). IsMonoidGraph (right_graph s c.args.letters c.args.right.now) q.words)
    size q.monoid in
    let none : 0 ≡ 0 * c.args.letters = omega arith in
    let items = c.in_ok-push.ensures.ok
    ∙ ap (λ (l : LinkLists). with_link l 0 0 0 0) c.new-links.ensures in
    let first : LinkLists =
    record { prefix = 0 ∷ []; last = 0 ∷ []; suffix = 0 ∷ []; first = 0 ∷ [] } in
    rw items (subst
    (λ (n : ℕ). IsLinking (right_graph c.args.size c.args.letters c.args.right.now) n first)
    none (linking_begins
    (right_graph c.args.size c.args.letters c.args.right.now) q.words monoid))
