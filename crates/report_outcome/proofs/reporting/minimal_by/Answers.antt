use Rattle.std.specs.Prelude.{length}
use Rattle.std.proofs.lemmas.Result.{IfOk-weaker}
use Rattle.language_theory.specs.Automaton.{Accepts}
use Rattle.language_theory.specs.Nerode.{IsMinimal}
use Rattle.automaton_file.specs.FileText.{source_text, language_of}
use Rattle.report_outcome.proofs.Sources.{minimal_of_source, few_of_source, on_ok_so}
use Rattle.report_outcome.proofs.reporting.minimal_by.Goals as goal

pub returns-clause-minimal : goal.returns-clause-minimal
returns-clause-minimal c =
    IfOk-weaker c.minimal.result
    (λ dfa. IsMinimal c.args.nfa.now.letters (Accepts c.args.nfa.now) dfa)
    (λ dfa. IsMinimal (length c.args.source.now.alphabet)
    (language_of (source_text c.args.source.now)) dfa)
    (λ dfa is. minimal_of_source (source_text c.args.source.now) c.args.nfa.now dfa
    c.requires.sound c.requires.own c.requires.language is)
    c.minimal.ensures.minimal

pub returns-clause-few : goal.returns-clause-few
returns-clause-few c =
    on_ok_so c.minimal.result
    (few_of_source (source_text c.args.source.now) c.args.nfa.now c.args.max_subsets
    c.requires.sound c.requires.own)
    c.minimal.ensures.few
