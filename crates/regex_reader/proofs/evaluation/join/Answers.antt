use Rattle.std.proofs.Common.{◌≡◌, ◌+◌, ◌&&◌, arith, sym, ◌∙◌, subst}
use Rattle.expression_theory.specs.FirstLast.{has}
use Rattle.regex_reader.specs.Marks.{IsAdded, IsCleared}
use Rattle.regex_reader.proofs.Combining.{joined_live, joined_dead}
use Rattle.regex_reader.proofs.evaluation.join.Goals as goal

pub returns-then-not-have_words-clause-joined : goal.returns-then-not-have_words-clause-joined
returns-then-not-have_words-clause-joined c = λ s t ts hl hr f.
    let k = c.bare.ensures in
    let count : c.positions.result + c.positions-then-not-have_words.result
    ≡ c.args.left.positions + c.args.right.positions = omega arith in
    joined_dead c.args.position s t ts c.args.left c.args.right c.bare.result c.args.marks.now
    c.clear_rows.new.self hl hr f
    (sym c.have_words.ensures ∙ c.if-not-have_words.true)
    (subst (λ n. IsCleared c.args.marks.now c.clear_rows.new.self c.args.position
    (c.args.position + n)) count c.clear_rows.ensures)
    k.word k.empty (k.positions ∙ count) k.first k.last

pub returns-clause-joined : goal.returns-clause-joined
returns-clause-joined c = λ s t ts hl hr f.
    let k = c.in_ok-part.ensures in
    let added : IsAdded c.args.marks.now c.add_pairs.new.self
    (λ p q. has c.args.left.last p && has c.args.right.first q) =
    subst (λ xs. IsAdded c.args.marks.now c.add_pairs.new.self
    (λ p q. has c.args.left.last p && has xs q)) c.first.ensures
    (subst (λ xs. IsAdded c.args.marks.now c.add_pairs.new.self
    (λ p q. has xs p && has c.first.result.now q)) c.last.ensures
    c.in_ok-add_pairs.ensures.added) in
    joined_live c.args.position s t ts c.args.left c.args.right c.in_ok-part.part c.args.marks.now
    c.add_pairs.new.self hl hr f
    (sym c.have_words.ensures ∙ c.if-not-have_words.false) added k.word k.empty k.closed k.positions
    k.first k.last
