use Rattle.std.proofs.Common.{rules, tests, ◌≡◌, ◌==◌, Some, None, cond, length, nat_lt, sym, ◌∙◌}
use Rattle.std.specs.List.{position_or_len}
use Rattle.std.proofs.lemmas.Iterator.{YieldsList-from_slice}
use Rattle.std.proofs.lemmas.Iterator.Search.{position_from_yields_List}
use Rattle.expression_theory.proofs.Letters.{found_class, lost_class}
use Rattle.regex_reader.proofs.sign.letter_class.Goals as goal

pub returns-in-Some : goal.returns-in-Some
returns-in-Some c =
    let letters = c.args.letters.now in
    let place = position_or_len (λ a. a == c.args.byte) letters in
    let found : c.position.result ≡ cond (nat_lt place (length letters)) (Some place) None =
    position_from_yields_List (λ a. a == c.args.byte) _ _ c.position.result c.position.ensures.ran
    (YieldsList-from_slice _ c.iter.ensures.rest) (λ x b q k. search (rules, tests)) in
    found_class letters c.args.byte c.in-Some.place (sym found ∙ c.in-Some.is)

pub returns-in-None : goal.returns-in-None
returns-in-None c =
    let letters = c.args.letters.now in
    let place = position_or_len (λ a. a == c.args.byte) letters in
    let found : c.position.result ≡ cond (nat_lt place (length letters)) (Some place) None =
    position_from_yields_List (λ a. a == c.args.byte) _ _ c.position.result c.position.ensures.ran
    (YieldsList-from_slice _ c.iter.ensures.rest) (λ x b q k. search (rules, tests)) in
    lost_class letters c.args.byte (sym found ∙ c.in-None.is)
