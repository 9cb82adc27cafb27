use Rattle.std.proofs.Common.{rules, arith, ◌≡◌, ◌+◌, ◌<◌, length, sym, ap, subst, ◌∙◌}
use Rattle.std.specs.List.{All}
use Rattle.expression_theory.specs.Positions.{positions}
use Rattle.expression_theory.specs.Polish as notation
use Rattle.expression_theory.proofs.Polish.{letters_polish, is_notation}
use Rattle.expression_theory.proofs.Nodes.{positions_within}
use Rattle.expression_theory.proofs.Sizes.{firsts_below, lasts_below}
use Rattle.expression_theory.proofs.Acceptance.{accepts_words}
use Rattle.regex_reader.specs.Expressions.{tree_of}
use Rattle.regex_reader.proofs.Built.{HasSteps, with_begin, built_positions}
use Rattle.regex_reader.proofs.glushkov.positions.Goals as goal

pub new-requires : goal.new-requires
new-requires c =
    let t = tree_of c.args.expr.now in
    let e : c.in_ok-positions.positions.items ≡ positions t = c.in_ok-positions.ensures
    ∙ ap notation.letters c.deref.ensures.value ∙ ap notation.letters c.in_ok-nodes.ensures
    ∙ letters_polish t in
    let n : length c.in_ok-positions.positions.items ≡ length (positions t) = ap length e in
    let l : c.len.result ≡ length c.in_ok-positions.positions.items = search rules in
    let small = c.requires.within.small in
    let within = positions_within t in omega arith

pub evaluate-requires-clause-notation : goal.evaluate-requires-clause-notation
evaluate-requires-clause-notation c =
    let t = tree_of c.args.expr.now in
    subst notation.IsNotation (sym (c.deref-2.ensures.value ∙ c.in_ok-nodes.ensures))
    (is_notation t)

pub add_row-requires-clause-to : goal.add_row-requires-clause-to
add_row-requires-clause-to c =
    let t = tree_of c.args.expr.now in
    let e : c.in_ok-positions.positions.items ≡ positions t = c.in_ok-positions.ensures
    ∙ ap notation.letters c.deref.ensures.value ∙ ap notation.letters c.in_ok-nodes.ensures
    ∙ letters_polish t in
    let n : length c.in_ok-positions.positions.items ≡ length (positions t) = ap length e in
    let l : c.len.result ≡ length c.in_ok-positions.positions.items = search rules in
    let w : c.evaluate.new.marks.width ≡ c.len.result + 1 = c.in_ok-part.ensures.width
    ∙ c.in_ok-marks.ensures.0 in
    let part = c.in_ok-part.ensures.part t (c.deref-2.ensures.value ∙ c.in_ok-nodes.ensures) in
    subst (All (λ p. p < c.evaluate.new.marks.width)) (sym (c.first.ensures ∙ part.first))
    (firsts_below 1 c.evaluate.new.marks.width t (omega arith))

pub build-requires-clause-last : goal.build-requires-clause-last
build-requires-clause-last c =
    let t = tree_of c.args.expr.now in
    let e : c.deref-3.result.now ≡ positions t =
    c.deref-3.ensures.value ∙ c.in_ok-positions.ensures ∙ ap notation.letters c.deref.ensures.value
    ∙ ap notation.letters c.in_ok-nodes.ensures ∙ letters_polish t in
    let n : length c.deref-3.result.now ≡ length (positions t) = ap length e in
    let part = c.in_ok-part.ensures.part t (c.deref-2.ensures.value ∙ c.in_ok-nodes.ensures) in
    subst (All (λ p. p < length c.deref-3.result.now + 1)) (sym part.last)
    (lasts_below 1 (length c.deref-3.result.now + 1) t (omega arith))

pub build-requires-clause-letters : goal.build-requires-clause-letters
build-requires-clause-letters c =
    let t = tree_of c.args.expr.now in
    let e : c.deref-3.result.now ≡ positions t =
    c.deref-3.ensures.value ∙ c.in_ok-positions.ensures ∙ ap notation.letters c.deref.ensures.value
    ∙ ap notation.letters c.in_ok-nodes.ensures ∙ letters_polish t in
    subst (All (λ a. a < c.args.letters)) (sym e) c.requires.within.letters

pub returns-clause-positions : goal.returns-clause-positions
returns-clause-positions c =
    let t = tree_of c.args.expr.now in
    let ns = c.deref-2.ensures.value ∙ c.in_ok-nodes.ensures in
    let e : c.in_ok-positions.positions.items ≡ positions t = c.in_ok-positions.ensures
    ∙ ap notation.letters c.deref.ensures.value ∙ ap notation.letters c.in_ok-nodes.ensures
    ∙ letters_polish t in
    let n : length c.in_ok-positions.positions.items ≡ length (positions t) = ap length e in
    let l : c.len.result ≡ length c.in_ok-positions.positions.items = search rules in
    let w : c.evaluate.new.marks.width ≡ length (positions t) + 1 = c.in_ok-part.ensures.width
    ∙ c.in_ok-marks.ensures.0 ∙ ap (λ i. i + 1) (l ∙ n) in
    let part = c.in_ok-part.ensures.part t ns in
    let table : HasSteps t c.add_row.new.self =
    with_begin t c.evaluate.new.marks c.add_row.new.self c.first.result.now w
    (c.in_ok-part.ensures.marks t ns) (c.first.ensures ∙ part.first) c.add_row.ensures in
    built_positions t c.args.letters c.in_ok-part.part c.add_row.new.self c.deref-3.result.now
    c.in_ok-nfa.nfa part table (c.deref-3.ensures.value ∙ e) c.in_ok-nfa.ensures

pub returns-clause-language : goal.returns-clause-language
returns-clause-language c = accepts_words (tree_of c.args.expr.now) c.args.letters c.in_ok-nfa.nfa
    (returns-clause-positions c)
