use Rattle.std.proofs.Common.{sym, ◌∙◌, ap}
use Rattle.automaton_file.specs.FileText.{letter_of}
use Rattle.automaton_file.proofs.Letters.{letter_found}
use Rattle.automaton_file.proofs.PartLines.{one_byte}
use Rattle.automaton_file.proofs.parts.read_letter.Goals as goal

pub returns-in-len1 : goal.returns-in-len1
returns-in-len1 c =
    letter_found c.args.alphabet.now _ _ c.requires c.number.ensures.none c.number.ensures.some
    ∙ ap (letter_of c.args.alphabet.now)
    (sym (one_byte c.args.field.now c.in-len1.len_at_least c.in-len1.len_below))
