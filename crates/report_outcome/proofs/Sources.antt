-- The automaton of a source stands for the source: it has the source's language, and the source's
-- sets of states.
use Rattle.std.proofs.Common.{◌≡◌, ℕ, List, length, sym, ap, ◌∙◌, subst}
use Rattle.std.specs.Prelude.{◌↔◌, Result, Ok, Err, OnOk}
use Rattle.language_theory.specs.Automaton.{Automaton, Accepts, SameSubset}
use Rattle.language_theory.specs.Representatives.{HasMoreClasses}
use Rattle.language_theory.specs.Nerode.{MinimalAutomaton, IsMinimal}
use Rattle.language_theory.proofs.Minimal.{agreeing_minimal}
use Rattle.automaton_file.specs.FileText.{SourceText, BodyText, OfAutomaton, OfExpression, IsSoundBody, IsSoundSource, IsBodyAutomaton, language_of}
use Rattle.automaton_file.proofs.SameAutomata.{one_body_automaton}
use Rattle.report_outcome.specs.Reports.{HasMoreSubsets}

-- the letters of a body's automaton are those of the alphabet
body_letters : (k : ℕ) (body : BodyText) (m : Automaton) → IsSoundBody k body
    → IsBodyAutomaton k body m → m.letters ≡ k
body_letters k (OfAutomaton n) m sound is = ap (λ (x : Automaton). x.letters) is ∙ sound.1
body_letters k (OfExpression t) m sound is = is.letters

-- its minimal automaton is that of the source's language
pub minimal_of_source : (source : SourceText) (m : Automaton) (d : MinimalAutomaton)
    → IsSoundSource source → IsBodyAutomaton (length source.letters) source.body m
    → ((w : List ℕ) → Accepts m w ↔ language_of source w) → IsMinimal m.letters (Accepts m) d
    → IsMinimal (length source.letters) (language_of source) d
minimal_of_source source m d sound is same minimal =
    agreeing_minimal (length source.letters) (Accepts m) (language_of source) d
    (record { both = λ w o. same w })
    (subst (λ k. IsMinimal k (Accepts m) d)
    (body_letters (length source.letters) source.body m sound.body is) minimal)

-- where its sets of states are not too many, those of the source are not
pub few_of_source : (source : SourceText) (m : Automaton) (n : ℕ) → IsSoundSource source
    → IsBodyAutomaton (length source.letters) source.body m
    → ¬ HasMoreClasses m.letters (SameSubset m) n → ¬ HasMoreSubsets source n
few_of_source source m n sound is few (a, is_too, more) =
    few (subst (λ k. HasMoreClasses k (SameSubset m) n)
    (sym (body_letters (length source.letters) source.body m sound.body is))
    (subst (λ (x : Automaton). HasMoreClasses (length source.letters) (SameSubset x) n)
    (one_body_automaton (length source.letters) source.body a m is_too is) more))

-- what follows from a fact of a success is a fact of it
pub on_ok_so : {A E : Type 0} {P Q : Type 0} (r : Result A E) → (P → Q) → OnOk r P → OnOk r Q
on_ok_so (Ok x) f p = f p
on_ok_so (Err e) f p = p
