use Rattle.std.proofs.Common.{◌↔◌, IsTrue, length, refl, sym, subst}
use Rattle.language_theory.specs.ShortlexGraph.{SameNode}
use Rattle.monoid_theory.specs.Green.{IsJTrivial}
use Rattle.cayley_tables.specs.CayleyGraphs.{CayleyGraphs}
use Rattle.green_relations.specs.Chains.{IsLongestChain}
use Rattle.automaton_file.specs.FileText.{language_of}
use Rattle.report_sections.specs.Answers.{AreGreensOf, values_of}
use Rattle.report_sections.proofs.Bounds.{bounded_with, bound_of_monoid}
use Rattle.report_sections.proofs.answering.answer_bound.Goals as goal

pub longest_chain-requires : goal.longest_chain-requires
longest_chain-requires c = record {
  green = subst (λ (x : CayleyGraphs). AreGreensOf x c.classes.result.1.now)
      (sym c.cayley-cayley.ensures.graphs) c.classes.ensures.green;
}

pub j_trivial-trivial-requires : goal.j_trivial-trivial-requires
j_trivial-trivial-requires c = record {
  green = subst (λ (x : CayleyGraphs). AreGreensOf x c.classes.result.1.now)
      (sym c.cayley-cayley.ensures.graphs) c.classes.ensures.green;
}

pub returns-clause-sayable : goal.returns-clause-sayable
returns-clause-sayable c =
    let m = c.classes.result.0.now in
    let chain = c.in_ok-chain.chain in
    let longest = subst
    (λ (x : CayleyGraphs). IsLongestChain x.right.letters (SameNode x.right) x.words chain)
    c.cayley-cayley.ensures.graphs c.in_ok-chain.ensures in
    record {
      letters = c.classes.ensures.monoid.graphs.right.letters;
      within = longest.is.within;
    }

pub returns-clause-said : goal.returns-clause-said
returns-clause-said c =
    let v = values_of c.args.values.now in
    let m = c.classes.result.0.now in
    let chain = c.in_ok-chain.chain in
    let trivial = c.j_trivial-trivial.result in
    let longest = subst
    (λ (x : CayleyGraphs). IsLongestChain x.right.letters (SameNode x.right) x.words chain)
    c.cayley-cayley.ensures.graphs c.in_ok-chain.ensures in
    let both = subst
    (λ (x : CayleyGraphs). IsTrue trivial ↔ IsJTrivial x.right.letters (SameNode x.right))
    c.cayley-cayley.ensures.graphs c.j_trivial-trivial.ensures in
    record {
      answer = bounded_with m chain trivial;
      right = bound_of_monoid (length v.source.letters) (language_of v.source) m
          c.classes.ensures.monoid chain trivial longest both;
      text = refl;
      limited = refl;
    }
