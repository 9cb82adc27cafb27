-- Each test of a line is passed exactly where the line is its part.
use Rattle.std.proofs.Common.{◌≡◌, ◌≢◌, ◌<◌, ◌≤◌, ℕ, List, [], ◌∷◌, length, refl, sym, ap, ◌∙◌, arith, true, false, inl, inr, ◌⊎◌, ◌+◌}
use Rattle.std.specs.Prelude.{Bool, IsTrue, not, Option, Some, None, ◌||◌, ◌==◌, ◌↔◌, codes, is_some, slice_index, All}
use Rattle.std.specs.Fmt.{decimal}
use Rattle.std.specs.Option.{unwrap_or, option_or}
use Rattle.std.specs.Str.{bytes_eq}
use Rattle.std.specs.List.{list_all}
use Rattle.std.proofs.lemmas.Bool.{and_parts, and_from, ne_eqb, eqb-true, eqb-false, eq-eqb}
use Rattle.std.proofs.lemmas.List.Elements.{All-weaker}
use Rattle.std.proofs.lemmas.List.Sums.{AllPass-from_list_all, list_all-from_AllPass, position_or_len_is}
use Rattle.std.proofs.lemmas.List.Quantifiers.{position-Some}
use Rattle.std.proofs.lemmas.Slice.Eq.{bytes_eq-Decides}
use Rattle.expression_theory.specs.Expression.{Tree}
use Rattle.expression_theory.specs.Scan.{classes}
use Rattle.expression_theory.proofs.Texts.{accepted_tree}
use Rattle.syn_words.specs.Alphabet.{IsAlphabet}
use Rattle.automaton_file.specs.declared.sources.Wrong.{Wrong}
use Rattle.automaton_file.specs.declared.sources.Wrong.TheVariants as wrong
use Rattle.automaton_file.specs.LineText.{fields, behind_first, number_below}
use Rattle.automaton_file.specs.ExprText.{is_expression}
use Rattle.automaton_file.specs.Parts.{Fields, IsState, SpellsLetter, IsLetter, IsHeader, SpellsAlphabet, SpellsCount, SpellsExpression, IsStatesLine, SpellsStep, IsStepLine, most_states}
use Rattle.automaton_file.specs.FileText.{unless, begins_with, is_expr, is_alphabet, letters_of, letters_in, count_of, state_count, is_state, letter_of, header_fault, alphabet_fault, body_fault, marks_fault, step_fault}
use Rattle.automaton_file.proofs.Digits.{number_below_spelled, spelled_number_below}
use Rattle.automaton_file.proofs.Letters.{alphabet_test, from_alphabet_test, position_some}
use Rattle.automaton_file.proofs.Expressions.{accepted_test, test_accepted, expression_passes, expression_tested}
use Rattle.automaton_file.proofs.PartLines.{automaton_tested}

test_passed : (b : Bool) (code : Wrong) → unless b code ≡ None → b ≡ true
test_passed true code e = refl
test_passed false code e = absurd (cc)

passing : (b : Bool) (code : Wrong) → b ≡ true → unless b code ≡ None
passing b code e = rw e refl

pub first_passed : (b : Bool) (code : Wrong) (o : Option Wrong)
    → option_or (unless b code) o ≡ None → (b ≡ true) × (o ≡ None)
first_passed true code o e = (refl, e)
first_passed false code o e = absurd (cc)

both_passing : (b : Bool) (code : Wrong) (o : Option Wrong) → b ≡ true → o ≡ None
    → option_or (unless b code) o ≡ None
both_passing b code o e f = rw e f

same_bytes : (xs ys : List ℕ) → bytes_eq xs ys ≡ true → xs ≡ ys
same_bytes xs ys = (bytes_eq-Decides xs ys).0

bytes_same : (xs ys : List ℕ) → xs ≡ ys → bytes_eq xs ys ≡ true
bytes_same xs ys = (bytes_eq-Decides xs ys).1

-- the header

header_fields : (line : Fields) → header_fault line ≡ None → line ≡ codes "synmon" ∷ codes "1" ∷ []
header_fields [] e = absurd (cc)
header_fields (word ∷ []) e = absurd (cc)
header_fields (word ∷ version ∷ []) e =
    let both = and_parts (bytes_eq word (codes "synmon")) (bytes_eq version (codes "1"))
    (test_passed _ wrong.Header e) in
    ap (λ (w : List ℕ). w ∷ version ∷ []) (same_bytes _ _ both.0)
    ∙ ap (λ (v : List ℕ). codes "synmon" ∷ v ∷ []) (same_bytes _ _ both.1)
header_fields (word ∷ version ∷ other ∷ more) e = absurd (cc)

pub header_test : (line : List ℕ) → header_fault (fields line) ≡ None ↔ IsHeader line
header_test line = (header_fields (fields line), λ e. ap header_fault e ∙ refl)

-- a line that begins with a word

word_first : (word : List ℕ) (line : Fields) → begins_with word line ≡ true → (more : Fields)
    × (line ≡ word ∷ more)
word_first word [] e = absurd (cc)
word_first word (field ∷ more) e = (more, ap (λ (w : List ℕ). w ∷ more) (same_bytes _ _ e))

first_word : (word : List ℕ) (line more : Fields) → line ≡ word ∷ more
    → begins_with word line ≡ true
first_word word line more e = ap (begins_with word) e ∙ bytes_same word word refl

pub word_test : (word : List ℕ) (line : Fields) → IsTrue (begins_with word line)
    ↔ ((more : Fields) × (line ≡ word ∷ more))
word_test word line = (word_first word line, λ (more, e). first_word word line more e)

-- the alphabet

pub alphabet_spelled : (line : List ℕ) → alphabet_fault (fields line) ≡ None
    → SpellsAlphabet (letters_in line) line
alphabet_spelled line e =
    let both = and_parts (begins_with (codes "alphabet") (fields line))
    (is_alphabet (letters_of (fields line))) (test_passed _ wrong.Alphabet e) in
    let first = word_first (codes "alphabet") (fields line) both.0 in
    record {
      pieces = first.0;
      stands = first.1;
      joined = ap letters_of first.1;
      letters =
          from_alphabet_test _ both.1;
    }

pub spelled_letters : (alphabet line : List ℕ) → SpellsAlphabet alphabet line
    → alphabet ≡ letters_in line
spelled_letters alphabet line h = h.joined ∙ sym (ap letters_of h.stands)

pub spelled_alphabet : (alphabet line : List ℕ) → SpellsAlphabet alphabet line
    → alphabet_fault (fields line) ≡ None
spelled_alphabet alphabet line h =
    passing _ wrong.Alphabet
    (and_from (begins_with (codes "alphabet") (fields line))
    (is_alphabet (letters_of (fields line))) (first_word _ _ _ h.stands)
    (ap is_alphabet (sym (spelled_letters alphabet line h)) ∙ alphabet_test alphabet h.letters))

pub alphabet_part : (line : List ℕ) → alphabet_fault (fields line) ≡ None
    ↔ ((alphabet : List ℕ) × SpellsAlphabet alphabet line)
alphabet_part line = (
  λ e. (letters_in line, alphabet_spelled line e),
  λ (alphabet, h). spelled_alphabet alphabet line h,
)

-- the body line

count_spelled : (line : Fields) (n : ℕ) → count_of line ≡ n → n ≢ 0 → (line ≡ decimal n ∷ [])
    × (n ≤ most_states)
count_spelled [] n e h = absurd (h (sym e))
count_spelled (number ∷ []) n e h = by (number_below (most_states + 1) number) refl
  where
    by : (o : Option ℕ) → number_below (most_states + 1) number ≡ o → (number ∷ [] ≡ decimal n ∷ [])
        × (n ≤ most_states)
    by None found = absurd (h (sym e ∙ ap (λ (o : Option ℕ). unwrap_or o 0) found))
    by (Some m) found =
        let spelled = number_below_spelled (most_states + 1) m number (omega arith) found in
        let same : m ≡ n = sym (ap (λ (o : Option ℕ). unwrap_or o 0) found) ∙ e in
        (ap (λ (f : List ℕ). f ∷ []) (spelled.1 ∙ ap decimal same), omega (arith, spelled.0, same))
count_spelled (number ∷ other ∷ more) n e h = absurd (h (sym e))

pub spelled_count : (states : ℕ) (line : List ℕ) → SpellsCount states line
    → state_count (fields line) ≡ states
spelled_count states line h =
    ap state_count h.stands
    ∙ ap (λ (o : Option ℕ). unwrap_or o 0)
    (spelled_number_below (most_states + 1) states (decimal states) (omega arith)
    (let few = h.few in omega arith) refl)

nfa_passed : (e n c x : Bool) → e ≡ false
    → option_or (unless (e || n) wrong.Body)
    (option_or (unless (e || not c) wrong.Count) (unless (not e || x) wrong.Expression)) ≡ None
    → (n ≡ true) × (c ≡ false)
nfa_passed true n c x is pass = absurd (cc)
nfa_passed false true false x is pass = (refl, refl)
nfa_passed false true true x is pass = absurd (let no : Some wrong.Count ≡ None = pass in cc)
nfa_passed false false c x is pass = absurd (let no : Some wrong.Body ≡ None = pass in cc)

pub count_of_body : (alphabet line : List ℕ) → is_expr (fields line) ≡ false
    → body_fault alphabet line ≡ None → SpellsCount (state_count (fields line)) line
count_of_body alphabet line e pass =
    let tests = nfa_passed (is_expr (fields line)) (begins_with (codes "nfa") (fields line))
    (state_count (fields line) == 0) (is_expression alphabet (behind_first line)) e pass in
    let first = word_first (codes "nfa") (fields line) tests.0 in
    let some : state_count (fields line) ≢ 0 = eqb-false (state_count (fields line)) 0 tests.1 in
    let spelled = count_spelled first.0 (state_count (fields line))
    (sym (ap state_count first.1)) some in
    record {
      stands = first.1
          ∙ ap (λ (more : Fields). codes "nfa" ∷ more) spelled.0;
      some = omega arith;
      few = spelled.1;
    }

pub tree_of_body : (alphabet line : List ℕ) → is_expr (fields line) ≡ true
    → body_fault alphabet line ≡ None → (t : Tree) × SpellsExpression alphabet t line
tree_of_body alphabet line e pass =
    let first = word_first (codes "expr") (fields line) e in
    let accepted = test_accepted (classes alphabet (behind_first line))
    (expression_passes alphabet line pass e) in
    let tree = accepted_tree (classes alphabet (behind_first line)) accepted in
    (tree.0, record { more = first.0; stands = first.1; accepted = accepted; spelled = tree.1 })

pub spelled_count_body : (alphabet : List ℕ) (states : ℕ) (line : List ℕ) → SpellsCount states line
    → body_fault alphabet line ≡ None
spelled_count_body alphabet states line h =
    let some : (state_count (fields line) == 0) ≡ false = ne_eqb (state_count (fields line)) 0
    (λ z. omega (arith, h.some, spelled_count states line h, z)) in
    automaton_tested alphabet line (ap is_expr h.stands) (first_word _ _ _ h.stands) false some

pub spelled_expression_body : (alphabet : List ℕ) (t : Tree) (line : List ℕ)
    → SpellsExpression alphabet t line → body_fault alphabet line ≡ None
spelled_expression_body alphabet t line h =
    expression_tested alphabet line (behind_first line) true (first_word _ _ _ h.stands) refl
    (accepted_test (classes alphabet (behind_first line)) h.accepted)

pub body_part : (alphabet line : List ℕ) → body_fault alphabet line ≡ None
    ↔ (((states : ℕ) × SpellsCount states line) ⊎ ((t : Tree) × SpellsExpression alphabet t line))
body_part alphabet line = (λ pass. to pass (is_expr (fields line)) refl, from)
  where
    to : body_fault alphabet line ≡ None → (b : Bool) → is_expr (fields line) ≡ b
        → ((states : ℕ) × SpellsCount states line) ⊎ ((t : Tree) × SpellsExpression alphabet t line)
    to pass false e = inl (state_count (fields line), count_of_body alphabet line e pass)
    to pass true e = inr (tree_of_body alphabet line e pass)

    from : ((states : ℕ) × SpellsCount states line)
        ⊎ ((t : Tree) × SpellsExpression alphabet t line) → body_fault alphabet line ≡ None
    from (inl (states, h)) = spelled_count_body alphabet states line h
    from (inr (t, h)) = spelled_expression_body alphabet t line h

-- numbers of states

some_of : (o : Option ℕ) → is_some o ≡ true → (n : ℕ) × (o ≡ Some n)
some_of None e = absurd (cc)
some_of (Some n) e = (n, refl)

pub state_of : (states : ℕ) (field : List ℕ) → states ≤ most_states → is_state states field ≡ true
    → IsState states field
state_of states field few e =
    let found = some_of (number_below states field) e in
    let spelled = number_below_spelled states found.0 field (omega arith) found.1 in
    (found.0, spelled.0, spelled.1)

pub state_passes : (states : ℕ) (field : List ℕ) → states ≤ most_states → IsState states field
    → is_state states field ≡ true
state_passes states field few (p, below, spelled) =
    ap is_some (spelled_number_below states p field (omega arith) below spelled)

states_fields : (word : List ℕ) (states : ℕ) (line : Fields) → states ≤ most_states
    → marks_fault word states line ≡ None → (numbers : Fields) × (line ≡ word ∷ numbers)
    × All (IsState states) numbers
states_fields word states [] few e = absurd (cc)
states_fields word states (field ∷ numbers) few e =
    let both = first_passed (bytes_eq field word) wrong.Missing
    (unless (list_all (is_state states) numbers) wrong.State) e in
    let each = AllPass-from_list_all (is_state states) numbers (test_passed _ wrong.State both.1) in (
      numbers,
      ap (λ (w : List ℕ). w ∷ numbers) (same_bytes field word both.0),
      All-weaker
          (λ f. is_state states f ≡ true) (IsState states) (λ f. state_of states f few) numbers
          each,
    )

pub states_of_line : (word : List ℕ) (states : ℕ) (line : List ℕ) → states ≤ most_states
    → marks_fault word states (fields line) ≡ None → IsStatesLine word states line
states_of_line word states line few e =
    let parts = states_fields word states (fields line) few e in
    record { numbers = parts.0; stands = parts.1; each = parts.2 }

pub line_of_states : (word : List ℕ) (states : ℕ) (line : List ℕ) → states ≤ most_states
    → IsStatesLine word states line → marks_fault word states (fields line) ≡ None
line_of_states word states line few h =
    let each = All-weaker (IsState states) (λ f. is_state states f ≡ true)
    (λ f. state_passes states f few) h.numbers h.each in
    ap (marks_fault word states) h.stands
    ∙ both_passing (bytes_eq word word) wrong.Missing _ (bytes_same word word refl)
    (passing _ wrong.State (list_all-from_AllPass (is_state states) h.numbers each))

-- letters

letter_spelled : (alphabet : List ℕ) (a : ℕ) (field : List ℕ) → letter_of alphabet field ≡ Some a
    → SpellsLetter alphabet a field
letter_spelled alphabet a [] e = absurd (cc)
letter_spelled alphabet a (b ∷ []) e =
    let found = position-Some (λ c. c == b) alphabet a 0 e in
    (found.0, ap (λ (c : ℕ). c ∷ []) (sym (eqb-true (slice_index alphabet a) b found.1)))
letter_spelled alphabet a (b ∷ c ∷ more) e = absurd (cc)

pub spelled_letter : (alphabet : List ℕ) (a : ℕ) (field : List ℕ) → IsAlphabet alphabet
    → SpellsLetter alphabet a field → letter_of alphabet field ≡ Some a
spelled_letter alphabet a field h (within, e) =
    ap (letter_of alphabet) e
    ∙ sym (position_some (λ c. c == slice_index alphabet a) alphabet a
    (position_or_len_is (λ c. c == slice_index alphabet a) alphabet a 0 (omega arith)
    (λ k l. ne_eqb _ (slice_index alphabet a) (h.distinct k a l within))
    (λ l. eq-eqb _ (slice_index alphabet a) refl)) within)

pub letter_test : (alphabet field : List ℕ) → IsAlphabet alphabet
    → IsTrue (is_some (letter_of alphabet field)) ↔ IsLetter alphabet field
letter_test alphabet field is = (
  λ e. let (a, found) =
      some_of (letter_of alphabet field) e in (a, letter_spelled alphabet a field found),
  λ (a, spelled). ap is_some (spelled_letter alphabet a field is spelled),
)

-- steps

step_fields : (alphabet : List ℕ) (states : ℕ) (line : Fields) → states ≤ most_states
    → step_fault alphabet states line ≡ None
    → (p a q : ℕ) × (line ≡ decimal p ∷ (slice_index alphabet a ∷ []) ∷ decimal q ∷ [])
    × (p < states) × (a < length alphabet) × (q < states)
step_fields alphabet states [] few e = absurd (cc)
step_fields alphabet states (from ∷ []) few e = absurd (cc)
step_fields alphabet states (from ∷ letter ∷ []) few e = absurd (cc)
step_fields alphabet states (from ∷ letter ∷ to ∷ []) few e =
    let first = first_passed (is_state states from) wrong.State
    (option_or (unless (is_some (letter_of alphabet letter)) wrong.Letter)
    (unless (is_state states to) wrong.State)) e in
    let second = first_passed (is_some (letter_of alphabet letter)) wrong.Letter
    (unless (is_state states to) wrong.State) first.1 in
    let p = state_of states from few first.0 in
    let a = some_of (letter_of alphabet letter) second.0 in
    let q = state_of states to few (test_passed (is_state states to) wrong.State second.1) in
    let b = letter_spelled alphabet a.0 letter a.1 in (
      p.0,
      a.0,
      q.0,
      ap (λ (f : List ℕ). f ∷ letter ∷ to ∷ []) p.2
          ∙ ap (λ (f : List ℕ). decimal p.0 ∷ f ∷ to ∷ []) b.1
          ∙ ap (λ (f : List ℕ). decimal p.0 ∷ (slice_index alphabet a.0 ∷ []) ∷ f ∷ []) q.2,
      p.1,
      b.0,
      q.1,
    )
step_fields alphabet states (from ∷ letter ∷ to ∷ other ∷ more) few e = absurd (cc)

pub step_of_line : (alphabet : List ℕ) (states : ℕ) (line : List ℕ) → states ≤ most_states
    → step_fault alphabet states (fields line) ≡ None → IsStepLine alphabet states line
step_of_line alphabet states line few e =
    let parts = step_fields alphabet states (fields line) few e in (
      parts.0,
      parts.1,
      parts.2,
      record {
        stands = parts.3;
        from_state = parts.4;
        of_alphabet =
            parts.5;
        to_state = parts.6;
      },
    )

pub line_of_step : (alphabet : List ℕ) (states p a q : ℕ) (line : List ℕ) → IsAlphabet alphabet
    → states ≤ most_states → SpellsStep alphabet states p a q line
    → step_fault alphabet states (fields line) ≡ None
line_of_step alphabet states p a q line is few h =
    ap (step_fault alphabet states) h.stands
    ∙ both_passing (is_state states (decimal p)) wrong.State _
    (state_passes states _ few (p, h.from_state, refl))
    (both_passing (is_some (letter_of alphabet (slice_index alphabet a ∷ []))) wrong.Letter _
    (ap is_some
    (spelled_letter alphabet a (slice_index alphabet a ∷ []) is (h.of_alphabet, refl)))
    (passing (is_state states (decimal q)) wrong.State
    (state_passes states _ few (q, h.to_state, refl))))

pub states_part : (word : List ℕ) (states : ℕ) (line : List ℕ) → states ≤ most_states
    → marks_fault word states (fields line) ≡ None ↔ IsStatesLine word states line
states_part word states line few =
    (states_of_line word states line few, line_of_states word states line few)

pub step_part : (alphabet : List ℕ) (states : ℕ) (line : List ℕ) → IsAlphabet alphabet
    → states ≤ most_states → step_fault alphabet states (fields line) ≡ None
    ↔ IsStepLine alphabet states line
step_part alphabet states line is few = (
  step_of_line alphabet states line few,
  λ (p, a, q, h). line_of_step alphabet states p a q line is few h,
)
