use Rattle.std.proofs.Common.{rules, ◌≡◌, true, ℕ, List, ◌++◌, ◌∷◌, [], ap, ◌∙◌}
use Rattle.language_theory.specs.Words.{word_at}
use Rattle.language_theory.specs.ShortlexGraph.{target}
use Rattle.presentation.specs.RuleLists.{IsRuleOf}
use Rattle.presentation.proofs.RuleLists.{nothing_to_list, rule_is_listed}
use Rattle.presentation.proofs.listing.push_rule.Goals as goal

pub returns-then-not-is_left_side : goal.returns-then-not-is_left_side
returns-then-not-is_left_side c =
    nothing_to_list c.args.cayley.now c.args.element c.args.letter c.args.rules.now
    c.requires.element c.requires.letter
    (λ r. let yes = c.is_left_side.ensures.1 r in let no = c.if-not-is_left_side.true in cc)
    c.requires.rules

pub returns : goal.returns
returns c =
    let v = c.args.cayley.now in
    let yes : c.is_left_side.result ≡ true = search rules in
    let rule : IsRuleOf v (word_at v.words c.args.element ++ c.args.letter ∷ [])
    (target v.right c.args.element c.args.letter) = c.is_left_side.ensures.0 yes in
    let left : c.push.new.self ≡ word_at v.words c.args.element ++ c.args.letter ∷ [] =
    c.in_ok-push.ensures.ok
    ∙ ap (λ (w : List ℕ). w ++ c.args.letter ∷ []) c.in_ok-left.ensures.word in
    rw (c.in_ok-push-2.ensures.ok, left, c.right.ensures.right)
    (rule_is_listed v c.args.element c.args.letter c.args.rules.now c.requires.element
    c.requires.letter rule c.requires.rules)
