use Rattle.std.proofs.Common.{sym, ◌∙◌, arith, ◌+◌, ◌-◌, ◌*◌, drop, get_or}
use Rattle.std.proofs.lemmas.List.{at_drop_more, at_drop_all}
use Rattle.automaton_file.specs.LineText.{value_behind}
use Rattle.automaton_file.proofs.Digits.{number_below_no_number, number_below_past, number_below_is}
use Rattle.automaton_file.proofs.fields.number_below.Goals as goal

pub returns-then-not-is_number : goal.returns-then-not-is_number
returns-then-not-is_number c =
    number_below_no_number _ _ (sym c.is_number.ensures ∙ c.if-not-is_number.true)

pub returns-then-value-limit : goal.returns-then-value-limit
returns-then-value-limit c =
    number_below_past c.args.limit
    (c.loop-digit.value * 10 + (get_or c.args.field.now c.loop-digit.digit-index 0 - 48))
    c.args.field.now (drop (c.loop-digit.digit-index + 1) c.args.field.now)
    (sym (at_drop_more (value_behind c.loop-digit.value) c.args.field.now c.loop-digit.digit-index 0
    c.loop-digit-test.true) ∙ c.loop-digit.invariant.value)
    (omega (arith, c.from.ensures, c.if-value-limit.true))

pub returns : goal.returns
returns c =
    number_below_is _ _ _ (sym c.is_number.ensures ∙ c.if-not-is_number.false)
    (sym (at_drop_all (value_behind c.loop-digit.value) c.args.field.now c.loop-digit.digit-index
    c.loop-digit-test.false) ∙ c.loop-digit.invariant.value)
    (omega (arith, c.loop-digit.invariant.below))
