use Rattle.std.proofs.Common.{ap, ◌∙◌, refl, arith, ◌≡◌, ◌++◌, ◌∷◌, [], List, ℕ}
use Rattle.std.proofs.lemmas.List.{get_or_default}
use Rattle.language_theory.specs.Words.{word_at}
use Rattle.exploration.proofs.Listing.{listing_skip, listing_push}
use Rattle.exploration.proofs.graph.list_word_behind.Goals as goal

pub returns-then-step-len-clause-listing : goal.returns-then-step-len-clause-listing
returns-then-step-len-clause-listing c = listing_skip _ _ _ c.requires.listing c.args.node
    c.args.letter refl c.requires.node c.requires.letter
    (λ e. omega (arith, c.step.ensures.step, c.len.ensures, c.if-step-len.true))

pub returns-clause-listing : goal.returns-clause-listing
returns-clause-listing c =
    let at : c.index.result.now ≡ word_at c.args.words.now.items c.args.node = c.index.ensures
    ∙ get_or_default c.args.words.now.items c.args.node c.index.result.now [] c.requires.listed
    in
    listing_push _ _ _ c.requires.listing c.args.node c.args.letter refl c.requires.node
    c.requires.letter _ _
    (omega (arith, c.step.ensures.step, c.len.ensures, c.if-step-len.false)) c.requires.listed
    (c.in_ok-word.ensures ∙ ap (λ (w : List ℕ). w ++ c.args.letter ∷ []) at)
    c.in_ok-push.ensures.items
