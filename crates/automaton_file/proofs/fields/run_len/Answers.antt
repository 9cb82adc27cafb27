use Rattle.std.proofs.Common.{sym, ◌∙◌}
use Rattle.automaton_file.specs.LineText.{is_blank}
use Rattle.automaton_file.proofs.TextLines.{place_found, none_found}
use Rattle.automaton_file.proofs.fields.run_len.Goals as goal

pub returns-in-Some : goal.returns-in-Some
returns-in-Some c = (place_found is_blank c.args.text.now c.in-Some.end (sym c.field_end.ensures
    ∙ c.in-Some.is)).1

pub returns-in-None : goal.returns-in-None
returns-in-None c = sym
    (none_found is_blank c.args.text.now (sym c.field_end.ensures ∙ c.in-None.is))
