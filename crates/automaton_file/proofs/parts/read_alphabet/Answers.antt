use Rattle.std.proofs.Common.{sym, ◌∙◌, ap, ◌≡◌, true}
use Rattle.std.specs.Prelude.{codes, Err}
use Rattle.std.specs.Str.{bytes_eq}
use Rattle.automaton_file.proofs.PartLines.{alphabet_passes, alphabet_fails}
use Rattle.automaton_file.proofs.parts.read_alphabet.Goals as goal

pub returns-in-Ok-clause-ok : goal.returns-in-Ok-clause-ok
returns-in-Ok-clause-ok c =
    let word : bytes_eq c.in-Some.word.bytes.now (codes "alphabet") ≡ true =
    ap (bytes_eq c.in-Some.word.bytes.now) (sym c.as_slice.ensures) ∙ sym c.eq.ensures
    ∙ c.if-eq.true in
    alphabet_passes _ _ _ _ c.in-Some.ensures.cut word
    (c.in-Ok.ensures.ok ∙ c.as_slice-in-Some.ensures.value ∙ c.in_ok-letters-in-Some.ensures)
    c.in-Ok.ensures.alphabet

pub returns-in-Err-Bad-clause-err : goal.returns-in-Err-Bad-clause-err
returns-in-Err-Bad-clause-err c =
    alphabet_fails _ _ _ _ c.in-Some.ensures.cut (c.as_slice-in-Some.ensures.value
    ∙ c.in_ok-letters-in-Some.ensures)
    (c.from_text.ensures.bad.0 (c.in-Err-Bad.is ∙ ap Err c.in-Err-Bad.field-0-is))
