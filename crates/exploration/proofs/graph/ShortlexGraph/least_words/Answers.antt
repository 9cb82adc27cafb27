use Rattle.std.proofs.Common.{arith, ap, ◌*◌, ◌∷◌, [], ◌∙◌, ℕ, ◌≡◌}
use Rattle.exploration.proofs.Listing.{listing_begins, listing_ends}
use Rattle.exploration.proofs.graph.ShortlexGraph.least_words.Goals as goal

pub loop-node-init : goal.loop-node-init
loop-node-init c =
    let first : c.push.new.self.items ≡ [] ∷ [] = c.in_ok-push.ensures.items
    ∙ cc (c.new-words.ensures.items, c.new.ensures) in (
      c.size-node-end.ensures.size,
      listing_begins c.args.self.now _ c.requires.0 _ (omega arith) c.requires.1 first,
    )

pub returns : goal.returns
returns c =
    let i = c.loop-node.invariant in
    let all : c.loop-node.node ≡ c.args.self.now.size = omega (arith, i.0) in
    listing_ends _ _ _ (ap (λ (n : ℕ). n * c.args.self.now.letters) all) i.1
