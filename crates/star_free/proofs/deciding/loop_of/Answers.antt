use Rattle.std.proofs.Common.{rules, ◌∙◌, refl, ap, subst₂}
use Rattle.language_theory.specs.Words.{word_at}
use Rattle.language_theory.specs.Congruence.{Syntactic}
use Rattle.monoid_theory.specs.Separation.{IsSeparation}
use Rattle.cayley_tables.specs.CayleyGraphs.{CayleyGraphs}
use Rattle.syntactic_monoid.specs.SyntacticMonoid.{recognised}
use Rattle.star_free.proofs.PowerNodes.{power_step}
use Rattle.star_free.proofs.Looping.{syntactic_graphs, powers_apart, is_loop, is_found, found_is}
use Rattle.star_free.proofs.deciding.loop_of.Goals as goal

pub unwrap-context-requires : goal.unwrap-context-requires
unwrap-context-requires c =
    let m = c.args.monoid.now in
    let h = c.cayley-cayley.ensures.syntactic in
    let word = c.in_ok-word.ensures.word
    ∙ ap (λ (g : CayleyGraphs). word_at g.words c.power_of-power.result)
    c.cayley-cayley.ensures.graphs in
    let next_word = c.in_ok-next_word.ensures.word
    ∙ ap (λ (g : CayleyGraphs). word_at g.words c.product-next.result)
    c.cayley-cayley.ensures.graphs in
    let next = power_step m.graphs (syntactic_graphs m h) c.args.element c.requires.within
    c.power_of-power.result c.args.cycle.index c.product-next.result (search rules)
    (search rules) in
    let apart = powers_apart m h c.args.element c.args.cycle.index c.args.cycle.period c.requires
    c.power_of-power.result c.product-next.result (search rules) (search rules) (search rules)
    next in
    is_found _ _ c.in_ok-separation.separation
    (λ s. apart (subst₂ (Syntactic m.graphs.right.letters (recognised m)) word
    next_word s))
    c.in_ok-separation.ensures

pub returns : goal.returns
returns c =
    let m = c.args.monoid.now in
    let h = c.cayley-cayley.ensures.syntactic in
    let word = c.in_ok-word.ensures.word
    ∙ ap (λ (g : CayleyGraphs). word_at g.words c.power_of-power.result)
    c.cayley-cayley.ensures.graphs in
    let next_word = c.in_ok-next_word.ensures.word
    ∙ ap (λ (g : CayleyGraphs). word_at g.words c.product-next.result)
    c.cayley-cayley.ensures.graphs in
    let next = power_step m.graphs (syntactic_graphs m h) c.args.element c.requires.within
    c.power_of-power.result c.args.cycle.index c.product-next.result (search rules)
    (search rules) in
    let x = c.in_ok-x.ensures.word
    ∙ ap (λ (g : CayleyGraphs). word_at g.words c.args.element) c.cayley-cayley.ensures.graphs in
    let context = found_is _ _ c.in_ok-separation.separation c.unwrap-context.result
    c.unwrap-context.ensures c.in_ok-separation.ensures in
    is_loop m h c.args.element c.args.cycle.index c.args.cycle.period c.requires
    c.power_of-power.result c.product-next.result (search rules) (search rules) (search rules)
    next _ c.product-before.result c.product-first.result x refl refl
    (subst₂ (λ s t. IsSeparation m.graphs.right.letters (recognised m) s t
    c.unwrap-context.result.u c.unwrap-context.result.v) word
    next_word context)
    (search rules) (search rules) c.accepts.ensures
