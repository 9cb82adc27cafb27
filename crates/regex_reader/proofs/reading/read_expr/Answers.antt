use Rattle.std.proofs.Common.{rules, arith, ◌≡◌, ◌<◌, length, get_or, sym, subst, ◌∙◌}
use Rattle.std.proofs.lemmas.List.{get_or-map, length-map}
use Rattle.expression_theory.specs.Scan as scan
use Rattle.expression_theory.specs.Scan.{classes, SpellsTree}
use Rattle.expression_theory.specs.Positions.{IsWithin}
use Rattle.regex_reader.specs.Expressions.{tree_of}
use Rattle.regex_reader.proofs.Between.{IsDone, between_more, between_done, done_within}
use Rattle.regex_reader.proofs.reading.read_expr.Goals as goal
use Rattle.expression_theory.specs.declared.signs.Class.TheVariants.{Strange}

pub loop-at-preserved : goal.loop-at-preserved
loop-at-preserved c =
    let letters = c.letters-letters.result.now in
    let text = c.args.text.now in
    let b : c.loop-at.at < length text = omega arith in
    let e : get_or (classes letters text) c.loop-at.at Strange ≡ c.classify.result =
    get_or-map (scan.class_of letters) text c.loop-at.at 0 Strange b ∙ sym c.classify.ensures in
    between_more (classes letters text) c.loop-at.at c.loop-at.reader c.in_ok-reader.reader
    c.classify.result c.loop-at.invariant
    (omega (arith, length-map text (scan.class_of letters))) e c.in_ok-reader.ensures

pub returns-clause-spells : goal.returns-clause-spells
returns-clause-spells c =
    let letters = c.letters-letters.result.now in
    let text = c.args.text.now in
    let end : c.loop-at.at ≡ length (classes letters text) =
    omega (arith, length-map text (scan.class_of letters)) in
    let none : length c.loop-at.reader.waiting.items ≡ 0 = search rules in
    let done : IsDone (classes letters text) (tree_of c.in_ok-whole.field-0) =
    between_done (classes letters text) c.loop-at.at c.loop-at.reader c.in-Some.piece
    (tree_of c.in_ok-whole.field-0) c.loop-at.invariant end none c.in-Some.is
    c.in_ok-whole.ensures in
    subst (λ a. SpellsTree (classes a text) (tree_of c.in_ok-whole.field-0))
    c.letters-letters.ensures.letters done.spells

pub returns-clause-within : goal.returns-clause-within
returns-clause-within c =
    let letters = c.letters-letters.result.now in
    let text = c.args.text.now in
    let end : c.loop-at.at ≡ length (classes letters text) =
    omega (arith, length-map text (scan.class_of letters)) in
    let none : length c.loop-at.reader.waiting.items ≡ 0 = search rules in
    let done : IsDone (classes letters text) (tree_of c.in_ok-whole.field-0) =
    between_done (classes letters text) c.loop-at.at c.loop-at.reader c.in-Some.piece
    (tree_of c.in_ok-whole.field-0) c.loop-at.invariant end none c.in-Some.is
    c.in_ok-whole.ensures in
    subst (λ a. IsWithin (length a) (tree_of c.in_ok-whole.field-0))
    c.letters-letters.ensures.letters
    (done_within letters text (tree_of c.in_ok-whole.field-0) done)
