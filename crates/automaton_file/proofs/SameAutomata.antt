-- A body has one automaton, which accepts exactly the words of its language.
use Rattle.std.proofs.Common.{◌≡◌, ℕ, List, sym, ◌∙◌, subst}
use Rattle.std.specs.Prelude.{◌↔◌}
use Rattle.language_theory.specs.Automaton.{Automaton, Accepts}
use Rattle.expression_theory.proofs.Acceptance.{accepts_words, one_positions}
use Rattle.automaton_file.specs.FileText.{IsBodyAutomaton, BodyText, OfAutomaton, OfExpression, body_language}

pub one_body_automaton : (k : ℕ) (body : BodyText) (m n : Automaton) → IsBodyAutomaton k body m
    → IsBodyAutomaton k body n → m ≡ n
one_body_automaton k (OfAutomaton o) m n h i = h ∙ sym i
one_body_automaton k (OfExpression t) m n h i = one_positions t k m n h i

pub automaton_language : (k : ℕ) (body : BodyText) (m : Automaton) → IsBodyAutomaton k body m
    → (w : List ℕ) → Accepts m w ↔ body_language body w
automaton_language k (OfAutomaton n) m h w =
    subst (λ (x : Automaton). Accepts x w ↔ Accepts n w) (sym h) (λ f. f, λ f. f)
automaton_language k (OfExpression t) m h w = accepts_words t k m h w
