use Rattle.std.proofs.Common.{◌≡◌, sym, subst, List, ℕ}
use Rattle.std.specs.Prelude.{IfOk, ◌↔◌}
use Rattle.std.proofs.lemmas.Result.{IfOk-weaker}
use Rattle.language_theory.specs.Automaton.{Automaton, Accepts}
use Rattle.automaton_file.specs.FileText.{body_text, body_language}
use Rattle.automaton_file.specs.declared.sources.Body.{Body}
use Rattle.automaton_file.proofs.source_automata.body_nfa.Goals as goal

-- equal automata have one language
equal_language : (m n : Automaton) → m ≡ n → (w : List ℕ) → Accepts m w ↔ Accepts n w
equal_language m n e w =
    (subst (λ (x : Automaton). Accepts x w) e, subst (λ (x : Automaton). Accepts x w) (sym e))

pub returns-in-Nfa-clause-language : goal.returns-in-Nfa-clause-language
returns-in-Nfa-clause-language c =
    subst (λ (b : Body). IfOk c.copy.result
    (λ m. (w : List ℕ) → Accepts m w ↔ body_language (body_text b) w)) (sym c.in-Nfa.is)
    (IfOk-weaker c.copy.result (λ m. m ≡ c.in-Nfa.nfa)
    (λ m. (w : List ℕ) → Accepts m w ↔ Accepts c.in-Nfa.nfa w)
    (λ m. equal_language m c.in-Nfa.nfa) c.copy.ensures.same)
