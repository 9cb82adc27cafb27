-- What the fields of a line say where its tests are passed.
use Rattle.std.proofs.Common.{◌≡◌, ◌≢◌, ◌<◌, ◌≤◌, ℕ, List, [], ◌∷◌, length, refl, sym, ap, ◌∙◌, arith, true, false, get_or}
use Rattle.std.specs.Prelude.{Bool, not, Option, Some, None, ◌&&◌, ◌==◌, codes, is_some}
use Rattle.std.specs.Option.{unwrap_or}
use Rattle.std.specs.Str.{bytes_eq}
use Rattle.std.specs.List.{list_all, concat}
use Rattle.std.proofs.lemmas.Bool.{ne_eqb, and_right}
use Rattle.language_theory.specs.Automaton.{Automaton}
use Rattle.syn_words.specs.Alphabet.{IsAlphabet}
use Rattle.automata.specs.Nfa.{with_step}
use Rattle.automaton_file.specs.declared.sources.Wrong.TheVariants as wrong
use Rattle.automaton_file.specs.declared.parts.Mark.{Mark}
use Rattle.automaton_file.specs.declared.parts.Mark.TheVariants.{Initial, Final}
use Rattle.automaton_file.specs.LineText.{fields, value, number_below}
use Rattle.automaton_file.specs.FileText.{unless, begins_with, alphabet_fault, is_alphabet, letters_of, count_of, state_count, is_expr, body_fault, is_state, letter_of, step_fault}
use Rattle.automaton_file.specs.Parts.{Fields, most_states}
use Rattle.automaton_file.specs.Reading.{with_marks, with_step_line, mark_state}
use Rattle.automaton_file.proofs.Digits.{number_below_gives, number_below_or_zero}
use Rattle.automaton_file.proofs.Letters.{alphabet_test, no_alphabet_test}

count_of_le : (line : Fields) → count_of line ≤ most_states
count_of_le [] = omega arith
count_of_le (number ∷ []) = number_below_or_zero most_states number
count_of_le (number ∷ other ∷ more) = omega arith

-- the tests of a body line with `nfa`
pub automaton_tested : (letters line : List ℕ) → is_expr (fields line) ≡ false
    → begins_with (codes "nfa") (fields line) ≡ true → (b : Bool)
    → (state_count (fields line) == 0) ≡ b → body_fault letters line ≡ unless (not b) wrong.Count
automaton_tested letters line expr nfa true is = rw (expr, nfa, is) refl
automaton_tested letters line expr nfa false is = rw (expr, nfa, is) refl

pub body_of_count : (letters line : List ℕ) (more : Fields) (word : List ℕ) (n : ℕ)
    → fields line ≡ word ∷ more → bytes_eq word (codes "expr") ≡ false
    → bytes_eq word (codes "nfa") ≡ true → n ≡ count_of more → n ≢ 0
    → (body_fault letters line ≡ None)
    × ((is_expr (fields line) ≡ false) × (state_count (fields line) ≡ n) × (1 ≤ n)
    × (n ≤ most_states))
body_of_count letters line more word n e other is_nfa same some =
    let is : (state_count (fields line) == 0) ≡ false =
    ne_eqb _ 0 (λ z. some (same ∙ ap state_count (sym e) ∙ z)) in
    let expr : is_expr (fields line) ≡ false = ap is_expr e ∙ other in (
      automaton_tested letters line expr (ap (begins_with (codes "nfa")) e ∙ is_nfa) false is,
      (expr, ap state_count e ∙ sym same, omega arith, omega (arith, same, count_of_le more)),
    )

pub alphabet_passes : (line more : Fields) (word letters : List ℕ) → line ≡ word ∷ more
    → bytes_eq word (codes "alphabet") ≡ true → letters ≡ concat more → IsAlphabet letters
    → (alphabet_fault line ≡ None) × (letters ≡ letters_of line) × IsAlphabet letters
alphabet_passes line more word letters e is same h =
    let test : is_alphabet (concat more) ≡ true = ap is_alphabet (sym same)
    ∙ alphabet_test letters h in
    (ap alphabet_fault e ∙ rw (is, test), same ∙ ap letters_of (sym e), h)

pub alphabet_fails : (line more : Fields) (word letters : List ℕ) → line ≡ word ∷ more
    → letters ≡ concat more → ¬ IsAlphabet letters → alphabet_fault line ≡ Some wrong.Alphabet
alphabet_fails line more word letters e same h =
    let test : is_alphabet (concat more) ≡ false = ap is_alphabet (sym same)
    ∙ no_alphabet_test letters h in
    ap alphabet_fault e ∙ rw (test, and_right (begins_with (codes "alphabet") (word ∷ more)) false)
    refl

pub marks_next : (mark : Automaton → ℕ → Automaton) (m next : Automaton) (line more : Fields)
    (field : List ℕ) (count n : ℕ) → line ≡ field ∷ more → number_below count field ≡ Some n
    → next ≡ mark m n → with_marks mark next more ≡ with_marks mark m line
marks_next mark m next line more field count n e found same =
    ap (λ (x : Automaton). with_marks mark x more)
    (same ∙ ap (mark m) (number_below_gives count n field found).1)
    ∙ ap (with_marks mark m) (sym e)

pub states_next : (line more : Fields) (field : List ℕ) (count n : ℕ) → line ≡ field ∷ more
    → number_below count field ≡ Some n
    → list_all (is_state count) more ≡ list_all (is_state count) line
states_next line more field count n e found =
    sym (ap (list_all (is_state count)) e
    ∙ ap (λ (o : Option ℕ). is_some o && list_all (is_state count) more) found)

pub marking_keeps_states : (mark : Mark) (m : Automaton) (p : ℕ)
    → (mark_state mark m p).states ≡ m.states
marking_keeps_states Initial m p = refl
marking_keeps_states Final m p = refl

pub marking_keeps_letters : (mark : Mark) (m : Automaton) (p : ℕ)
    → (mark_state mark m p).letters ≡ m.letters
marking_keeps_letters Initial m p = refl
marking_keeps_letters Final m p = refl

pub step_taken : (letters : List ℕ) (m next : Automaton) (line : Fields) (from letter to : List ℕ)
    (count p a q : ℕ) → line ≡ from ∷ letter ∷ to ∷ [] → number_below count from ≡ Some p
    → letter_of letters letter ≡ Some a → number_below count to ≡ Some q → next ≡ with_step m p a q
    → (step_fault letters count line ≡ None) × (next ≡ with_step_line letters m line)
step_taken letters m next line from letter to count p a q e hp ha hq same =
    let vp = (number_below_gives count p from hp).1 in
    let vq = (number_below_gives count q to hq).1 in
    let va : a ≡ unwrap_or (letter_of letters letter) 0 = ap (λ (o : Option ℕ). unwrap_or o 0)
    (sym ha) in (
      ap (step_fault letters count) e ∙ rw (hp, ha, hq),
      same ∙ ap (λ (x : ℕ). with_step m x a q) vp ∙ ap (λ (x : ℕ). with_step m (value from) x q) va
          ∙ ap (λ (x : ℕ). with_step m (value from) (unwrap_or (letter_of letters letter) 0) x) vq
          ∙ ap (with_step_line letters m) (sym e),
    )

-- a field of one byte
pub one_byte : (field : List ℕ) → 1 ≤ length field → length field < 2
    → field ≡ get_or field 0 0 ∷ []
one_byte [] h k = absurd (omega arith)
one_byte (b ∷ []) h k = refl
one_byte (b ∷ c ∷ more) h k = absurd (omega arith)
