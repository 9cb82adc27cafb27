use Rattle.std.proofs.Common.{sym, ◌∙◌, ap, ◌≡◌, true, false}
use Rattle.std.specs.Prelude.{codes}
use Rattle.std.specs.Str.{bytes_eq}
use Rattle.std.proofs.lemmas.Bool.{not-false}
use Rattle.automaton_file.proofs.PartLines.{body_of_count}
use Rattle.automaton_file.proofs.parts.read_body.Goals as goal

pub returns-clause-ok : goal.returns-clause-ok
returns-clause-ok c =
    let other : bytes_eq c.in-Some.word.bytes.now (codes "expr") ≡ false =
    ap (bytes_eq c.in-Some.word.bytes.now) (sym c.as_slice.ensures) ∙ sym c.eq.ensures
    ∙ c.if-eq.false in
    let is_nfa : bytes_eq c.in-Some.word.bytes.now (codes "nfa") ≡ true =
    ap (bytes_eq c.in-Some.word.bytes.now) (sym c.as_slice-2.ensures)
    ∙ not-false _ (sym c.ne.ensures ∙ c.if-ne.false) in
    body_of_count c.args.alphabet.now c.args.text.now _ _ _ c.in-Some.ensures.cut other is_nfa
    c.read_count-count.ensures c.if-count-eq0.false
