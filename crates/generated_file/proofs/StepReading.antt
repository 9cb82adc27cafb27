-- The step lines of a generated file, and the steps that are read from them.
use Rattle.std.proofs.Common.{◌≡◌, ℕ, zero, suc, ◌+◌, ◌<◌, ◌≤◌, List, [], ◌∷◌, ◌++◌, refl, sym, ap, ◌∙◌, arith, true, false}
use Rattle.std.specs.Prelude.{Bool, cond, Option, Some, ◌==◌, All, codes, slice_index, length}
use Rattle.std.specs.Fmt.{decimal}
use Rattle.std.specs.List.{flat_map, range_with_len}
use Rattle.std.specs.Option.{unwrap_or}
use Rattle.std.proofs.lemmas.Bool.{eqb-false}
use Rattle.std.proofs.lemmas.List.Elements.{All-nil, All-cons}
use Rattle.language_theory.specs.Automaton.{Automaton}
use Rattle.language_theory.proofs.StepLists.{with_one_more, all_below}
use Rattle.automata.specs.Nfa.{with_step}
use Rattle.automaton_file.specs.LineText.{fields, value}
use Rattle.automaton_file.specs.Parts.{Lines, SpellsStep, IsStepLine}
use Rattle.automaton_file.specs.FileText.{letter_of}
use Rattle.automaton_file.specs.Reading.{with_step_line, with_step_lines}
use Rattle.automaton_file.proofs.Digits.{value_decimal}
use Rattle.automaton_file.proofs.Spelled.{with_steps}
use Rattle.generated_file.specs.Generated.{most_size, next_state, step_line, step_lines, steps_from}
use Rattle.generated_file.proofs.Words.{InWord, letter_word, step_fields}

abbrev pub ab : List ℕ
ab = codes "ab"

choice_below : (b : Bool) (size i : ℕ) → (i + 1 == size) ≡ b → i < size → cond b 0 (i + 1) < size
choice_below true size i e h = omega arith
choice_below false size i e h = omega (arith, eqb-false (i + 1) size e)

pub next_below : (size i : ℕ) → i < size → next_state size i < size
next_below size i h = choice_below (i + 1 == size) size i refl h

-- the letter of a step: its number and its byte
record IsLetter (a b : ℕ) : Type 0 where
  number : a < length ab
  byte : slice_index ab a ≡ b
  found : letter_of ab (b ∷ []) ≡ Some a
  word : InWord b

letter_a : IsLetter 0 97
letter_a = record {
  number = omega arith;
  byte = refl;
  found = refl;
  word = (omega arith, omega arith);
}

letter_b : IsLetter 1 98
letter_b = record {
  number = omega arith;
  byte = refl;
  found = refl;
  word = (omega arith, omega arith);
}

spelled_step : (size i a b to : ℕ) → IsLetter a b → i < size → to < size → size ≤ most_size
    → SpellsStep ab size i a to (step_line i (b ∷ []) to)
spelled_step size i a b to is h k few = record {
  stands =
      step_fields i (b ∷ []) to (omega arith) (letter_word b is.word) (omega arith)
      ∙ ap (λ (c : ℕ). decimal i ∷ (c ∷ []) ∷ decimal to ∷ []) (sym is.byte);
  from_state = h;
  of_alphabet = is.number;
  to_state = k;
}

-- each line of a step is a step line
pub are_step_lines : (size : ℕ) → size ≤ most_size
    → All (IsStepLine ab size) (flat_map (step_lines size) (range_with_len 0 size))
are_step_lines size few =
    all_below (IsStepLine ab size) (step_lines size) size (λ i h.
    let next = next_state size i in
    All-cons (IsStepLine ab size) (step_line i (codes "a") next) (step_line i (codes "b") 0 ∷ [])
    (i, 0, next, spelled_step size i 0 97 next letter_a h (next_below size i h) few)
    (All-cons (IsStepLine ab size) (step_line i (codes "b") 0) []
    (i, 1, 0, spelled_step size i 1 98 0 letter_b h (omega arith) few)
    (All-nil (IsStepLine ab size))))

line_read : (m : Automaton) (i a b to : ℕ) → IsLetter a b → i ≤ most_size → to ≤ most_size
    → with_step_line ab m (fields (step_line i (b ∷ []) to)) ≡ with_step m i a to
line_read m i a b to is h k =
    ap (with_step_line ab m)
    (step_fields i (b ∷ []) to (omega arith) (letter_word b is.word) (omega arith))
    ∙ ap (λ (p : ℕ). with_step m p (unwrap_or (letter_of ab (b ∷ [])) 0) (value (decimal to)))
    (value_decimal i (omega arith))
    ∙ ap (λ (o : Option ℕ). with_step m i (unwrap_or o 0) (value (decimal to))) is.found
    ∙ ap (with_step m i a) (value_decimal to (omega arith))

lines_append : (m : Automaton) (xs ys : Lines)
    → with_step_lines ab m (xs ++ ys) ≡ with_step_lines ab (with_step_lines ab m xs) ys
lines_append m [] ys = refl
lines_append m (x ∷ xs) ys = lines_append (with_step_line ab m (fields x)) xs ys

steps_append : (m : Automaton) (xs ys : List (ℕ × ℕ × ℕ))
    → with_steps m (xs ++ ys) ≡ with_steps (with_steps m xs) ys
steps_append m [] ys = refl
steps_append m (x ∷ xs) ys = steps_append (with_step m x.0 x.1 x.2) xs ys

both_read : (m : Automaton) (size i : ℕ) → i < size → size ≤ most_size
    → with_step_lines ab m (step_lines size i) ≡ with_steps m (steps_from size i)
both_read m size i h few =
    let next = next_state size i in
    ap (λ (n : Automaton). with_step_line ab n (fields (step_line i (codes "b") 0)))
    (line_read m i 0 97 next letter_a (omega arith) (omega (arith, next_below size i h)))
    ∙ line_read (with_step m i 0 next) i 1 98 0 letter_b (omega arith) (omega arith)

-- the lines of the states below n give their steps
pub lines_read : (m : Automaton) (size n : ℕ) → n ≤ size → size ≤ most_size
    → with_step_lines ab m (flat_map (step_lines size) (range_with_len 0 n))
    ≡ with_steps m (flat_map (steps_from size) (range_with_len 0 n))
lines_read m size zero h few = refl
lines_read m size (suc n) h few =
    let listed = flat_map (steps_from size) (range_with_len 0 n) in
    ap (with_step_lines ab m) (with_one_more (step_lines size) n)
    ∙ lines_append m (flat_map (step_lines size) (range_with_len 0 n)) (step_lines size n)
    ∙ ap (λ (k : Automaton). with_step_lines ab k (step_lines size n))
    (lines_read m size n (omega arith) few)
    ∙ both_read (with_steps m listed) size n (omega arith) few
    ∙ sym (steps_append m listed (steps_from size n))
    ∙ ap (with_steps m) (sym (with_one_more (steps_from size) n))
