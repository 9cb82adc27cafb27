use Rattle.std.proofs.Common.{◌+◌, ◌*◌, ◌≡◌, arith, subst, ℕ}
use Rattle.exploration.specs.Listing.{IsListing}
use Rattle.exploration.proofs.Listing.{row_has_word}
use Rattle.exploration.proofs.graph.list_words_behind.Goals as goal

pub loop-letter-init : goal.loop-letter-init
loop-letter-init c =
    let k = c.args.graph.now.letters in
    let place : c.args.node * k ≡ c.args.node * k + 0 = omega arith in (
      c.letters-letter-end.ensures,
      row_has_word _ _ _ c.requires.listing c.args.node (omega arith)
          c.requires.node,
      subst (λ (n : ℕ). IsListing c.args.graph.now n c.args.words.now.items)
          place c.requires.listing,
    )

pub returns : goal.returns
returns c =
    let i = c.loop-letter.invariant in
    let k = c.args.graph.now.letters in
    let place : c.args.node * k + c.loop-letter.letter ≡ (c.args.node + 1) * k =
    omega (arith, i.0) in
    subst (λ (n : ℕ). IsListing c.args.graph.now n c.loop-letter.words.items) place i.2
