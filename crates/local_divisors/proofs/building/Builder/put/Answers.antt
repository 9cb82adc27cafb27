use Rattle.std.proofs.Common.{◌≡◌, ◌∙◌, List, Some, length, subst, sym, arith}
use Rattle.star_free_theory.specs.Construction.{put, place, done, nodes}
use Rattle.star_free_theory.specs.declared.nodes.SfNode.{SfNode}
use Rattle.local_divisors.proofs.Interning.{put_found, put_full, put_inserted}
use Rattle.local_divisors.proofs.building.Builder.put.Goals as goal

pub returns-then-len-most : goal.returns-then-len-most
returns-then-len-most c =
    subst (λ (b : List SfNode). put (Some c.args.most) (place c.args.node b) b c.args.node
    ≡ done (b, c.in-Some.place)) c.self.view_is
    (put_found (Some c.args.most) c.args.node c.self.inside.nodes.keys c.in-Some.place
    (sym c.get_index_of.ensures.index ∙ c.in-Some.is))

pub returns-in_default : goal.returns-in_default
returns-in_default c =
    let e : c.len.result ≡ length c.self.inside.nodes.keys = c.len.ensures.len in
    subst (λ (b : List SfNode). put (Some c.args.most) (place c.args.node b) b c.args.node ≡ nodes)
    c.self.view_is
    (put_full c.args.most c.args.node c.self.inside.nodes.keys (sym c.get_index_of.ensures.index
    ∙ c.in_default.is) (omega (arith, c.if-len-most.true)))

pub returns : goal.returns
returns c =
    let e : c.len.result ≡ length c.self.inside.nodes.keys = c.len.ensures.len in
    let x = c.args.node in
    let ys = c.insert_full.new.self.keys in
    let p = c.in_ok-place.place in
    subst (λ (b : List SfNode). put (Some c.args.most) (place x b) b x ≡ done (ys, p))
    c.self.view_is
    (put_inserted c.args.most x c.self.inside.nodes.keys ys p (omega (arith, c.if-len-most.false))
    c.in_ok-place.ensures.keys c.in_ok-place.ensures.index c.in_ok-place.ensures.within)
