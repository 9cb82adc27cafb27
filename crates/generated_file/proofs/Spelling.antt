-- The file of a size spells its source.
use Rattle.std.proofs.Common.{◌≡◌, ℕ, zero, suc, ◌+◌, ◌-◌, ◌*◌, ◌<◌, ◌≤◌, List, [], ◌∷◌, ◌++◌, length, refl, sym, ap, ◌∙◌, arith, true, false, subst, length-append, drop}
use Rattle.std.specs.Prelude.{Bool, IsTrue, All, codes, replicate, slice_set}
use Rattle.std.specs.Fmt.{decimal}
use Rattle.std.specs.List.{flat_map, range_with_len}
use Rattle.std.proofs.lemmas.Fmt.{decimal_digit, length-decimal-le}
use Rattle.std.proofs.lemmas.Grind.{flat_map-append}
use Rattle.std.proofs.lemmas.List.{length-replicate}
use Rattle.std.proofs.lemmas.List.Elements.{All-nil, All-cons, All-head, All-tail, All-append, All-weaker}
use Rattle.language_theory.specs.Automaton.{Automaton, IsAutomaton}
use Rattle.language_theory.proofs.StepLists.{with_one_more, all_below, steps_alike}
use Rattle.automata.specs.Nfa.{bare}
use Rattle.automata.proofs.Steps.{nothing_in_order}
use Rattle.automaton_file.specs.LineText.{text_lines, fields, is_plain, is_significant, parts}
use Rattle.automaton_file.specs.Parts.{Lines, IsState, SpellsAlphabet, SpellsCount, IsStatesLine, SpellsAutomaton}
use Rattle.automaton_file.specs.FileText.{most_bytes, SpellsAutomatonFile, IsSource}
use Rattle.automaton_file.specs.Reading.{automaton_of, with_step_lines}
use Rattle.automaton_file.proofs.Letters.{from_alphabet_test}
use Rattle.automaton_file.proofs.Spelled.{IsStepOf, with_steps, steps_alone, steps_ordered, has_steps, read_is_spelled}
use Rattle.syn_words.specs.Alphabet.{IsAlphabet}
use Rattle.generated_file.specs.Generated.{least_size, most_size, next_state, step_line, step_lines, head_lines, generated_lines, text_of, generated_text, steps_from, first_alone, generated_automaton, generated_source}
use Rattle.generated_file.proofs.LineEnds.{IsPlain, lines_of_text}
use Rattle.generated_file.proofs.Words.{InWord, decimal_word, letter_word, plain_word, plain_append, last_word, word_significant, step_fields, step_plain}
use Rattle.generated_file.proofs.StepReading.{ab, next_below, are_step_lines, lines_read}
use Rattle.generated_file.proofs.StepOrder.{generated_ordered}

-- The lines.

-- a significant line of allowed bytes
abbrev IsPart : List ℕ → Type 0
IsPart line = IsPlain line × (is_significant (fields line) ≡ true)

parts_all : (lines : Lines) → All IsPart lines → parts lines ≡ lines
parts_all [] h = refl
parts_all (line ∷ more) h =
    let first = All-head IsPart line more h in
    rw first.1 (ap (λ (ls : Lines). line ∷ ls) (parts_all more (All-tail IsPart line more h)))

head_parts : (size : ℕ) → size ≤ most_size → All IsPart (head_lines size)
unfolding fields head_lines
head_parts size few =
    let lines = head_lines size in
    All-cons IsPart (codes "synmon 1") (drop 1 lines) (refl, refl)
    (All-cons IsPart (codes "alphabet ab") (drop 2 lines) (refl, refl)
    (All-cons IsPart (codes "nfa " ++ decimal size) (drop 3 lines) (
      plain_append (codes "nfa ") (decimal size) refl
          (plain_word (decimal size) (decimal_word size (omega arith))),
      refl,
    )
    (All-cons IsPart (codes "initial 0") (drop 4 lines) (refl, refl)
    (All-cons IsPart (codes "final 0") [] (refl, refl) (All-nil IsPart)))))

step_part : (i b to : ℕ) → InWord b → i ≤ most_size → to ≤ most_size
    → IsPart (step_line i (b ∷ []) to)
step_part i b to is h k = (
  step_plain i (b ∷ []) to (omega arith) (letter_word b is) (omega arith),
  ap is_significant
      (step_fields i (b ∷ []) to (omega arith) (letter_word b is) (omega arith))
      ∙ word_significant (decimal i) ((b ∷ []) ∷ decimal to ∷ []) (decimal_word i (omega arith)),
)

step_parts : (size i : ℕ) → i < size → size ≤ most_size → All IsPart (step_lines size i)
step_parts size i h few =
    All-cons IsPart (step_line i (codes "a") (next_state size i)) (step_line i (codes "b") 0 ∷ [])
    (step_part i 97 (next_state size i) (omega arith, omega arith) (omega arith)
    (omega (arith, next_below size i h)))
    (All-cons IsPart (step_line i (codes "b") 0) []
    (step_part i 98 0 (omega arith, omega arith) (omega arith) (omega arith)) (All-nil IsPart))

are_parts : (size : ℕ) → size ≤ most_size → All IsPart (generated_lines size)
are_parts size few =
    All-append IsPart (head_lines size) (flat_map (step_lines size) (range_with_len 0 size))
    (head_parts size few)
    (all_below IsPart (step_lines size) size (λ i h. step_parts size i h few))

same_lines : (size : ℕ) → size ≤ most_size → text_lines (generated_text size) ≡ generated_lines size
unfolding generated_text
same_lines size few =
    lines_of_text (generated_lines size)
    (All-weaker IsPart IsPlain (λ line is. is.0) (generated_lines size) (are_parts size few))

-- The length.

line_length : (line : List ℕ) (more : Lines)
    → length (text_of (line ∷ more)) ≡ length line + 1 + length (text_of more)
line_length line more =
    length-append (line ++ codes "\n") (text_of more)
    ∙ ap (λ (n : ℕ). n + length (text_of more)) (length-append line (codes "\n"))

line_short : (i b to : ℕ) → i ≤ most_size → to ≤ most_size
    → length (step_line i (b ∷ []) to) ≤ 11
line_short i b to h k =
    omega (
      arith,
      length-append (decimal i ++ codes " " ++ (b ∷ []) ++ codes " ") (decimal to),
      length-append (decimal i ++ codes " " ++ (b ∷ [])) (codes " "),
      length-append (decimal i ++ codes " ") (b ∷ []),
      length-append (decimal i) (codes " "),
      length-decimal-le 4 i (omega arith) (omega arith) (omega arith),
      length-decimal-le 4 to (omega arith) (omega arith) (omega arith),
    )

lines_short : (size n : ℕ) → n ≤ size → size ≤ most_size
    → length (text_of (flat_map (step_lines size) (range_with_len 0 n))) ≤ n * 24
lines_short size zero h few = omega arith
lines_short size (suc n) h few =
    let next = next_state size n in
    let listed = flat_map (step_lines size) (range_with_len 0 n) in
    omega (
      arith,
      ap (λ (lines : Lines). length (text_of lines)) (with_one_more (step_lines size) n),
      ap length
          (flat_map-append (λ (line : List ℕ). line ++ codes "\n") listed (step_lines size n)),
      length-append (text_of listed) (text_of (step_lines size n)),
      line_length (step_line n (codes "a") next) (step_line n (codes "b") 0 ∷ []),
      line_length (step_line n (codes "b") 0) [],
      line_short n 97 next (omega arith) (omega (arith, next_below size n (omega arith))),
      line_short n 98 0 (omega arith) (omega arith),
      lines_short size n (omega arith) few,
    )

head_short : (size : ℕ) → size ≤ most_size → length (text_of (head_lines size)) ≤ 100
unfolding head_lines
head_short size few =
    omega (
      arith,
      line_length (codes "synmon 1") (drop 1 (head_lines size)),
      line_length (codes "alphabet ab") (drop 2 (head_lines size)),
      line_length (codes "nfa " ++ decimal size) (drop 3 (head_lines size)),
      line_length (codes "initial 0") (drop 4 (head_lines size)),
      line_length (codes "final 0") [],
      length-append (codes "nfa ") (decimal size),
      length-decimal-le 4 size (omega arith) (omega arith) (omega arith),
    )

pub text_short : (size : ℕ) → size ≤ most_size → length (generated_text size) < most_bytes
unfolding generated_text
text_short size few =
    let steps = flat_map (step_lines size) (range_with_len 0 size) in
    omega (
      arith,
      ap length
          (flat_map-append (λ (line : List ℕ). line ++ codes "\n") (head_lines size) steps),
      length-append (text_of (head_lines size)) (text_of steps),
      head_short size few,
      lines_short size size (omega arith) few,
    )

-- The automaton.

first_marked : (n : ℕ) → 1 ≤ n → slice_set (replicate n false) 0 true ≡ first_alone n
first_marked zero h = absurd (omega arith)
first_marked (suc k) h =
    ap (λ (n : ℕ). true ∷ replicate n false) (let e : k ≡ suc k - 1 = omega arith in e)

-- the automaton without steps
abbrev rows_alone : ℕ → Automaton
rows_alone size = record {
  states = size;
  letters = 2;
  initial = first_alone size;
  finals = first_alone size;
  steps = [];
  moves = [];
}

rows_automaton : (size : ℕ) → 1 ≤ size → IsAutomaton (rows_alone size)
rows_automaton size some =
    let long : length (first_alone size) ≡ size =
    omega (arith, length-replicate (size - 1) false) in
    record {
      initial = long;
      finals = long;
      from = All-nil _;
      letter = All-nil _;
      to = All-nil _;
      moves_from = All-nil _;
      moves_to = All-nil _;
    }

marks_read : (size : ℕ) (steps : Lines) → 1 ≤ size
    → automaton_of ab (bare size 2) (codes "initial 0" ∷ codes "final 0" ∷ steps)
    ≡ with_step_lines ab (rows_alone size) steps
unfolding fields
marks_read size steps some =
    ap (λ (row : List Bool). with_step_lines ab
    (record { states = size; letters = 2; initial = row; finals = row; steps = []; moves = [] })
    steps)
    (first_marked size some)

steps_within : (size : ℕ)
    → All (IsStepOf (rows_alone size)) (flat_map (steps_from size) (range_with_len 0 size))
steps_within size =
    all_below (IsStepOf (rows_alone size)) (steps_from size) size (λ i h.
    let next = next_state size i in
    All-cons (IsStepOf (rows_alone size)) (i, 0, next) ((i, 1, 0) ∷ [])
    (h, omega arith, next_below size i h)
    (All-cons (IsStepOf (rows_alone size)) (i, 1, 0) [] (h, omega arith, omega arith)
    (All-nil (IsStepOf (rows_alone size)))))

steps_read : (size : ℕ) → 1 ≤ size
    → with_steps (rows_alone size) (flat_map (steps_from size) (range_with_len 0 size))
    ≡ generated_automaton size
unfolding generated_automaton
steps_read size some =
    let rows = rows_alone size in
    let steps = flat_map (steps_from size) (range_with_len 0 size) in
    let alone = steps_alone rows steps in
    alone
    ∙ ap (λ (xs : List (ℕ × ℕ × ℕ)). record rows { steps = xs })
    (steps_alike (with_steps rows steps) (generated_automaton size)
    (steps_ordered rows steps (nothing_in_order rows refl refl)) (generated_ordered size)
    (ap (λ (m : Automaton). m.states) alone) (ap (λ (m : Automaton). m.letters) alone)
    (λ p a q. has_steps rows steps p a q (rows_automaton size some) (steps_within size)))

automaton_read : (size : ℕ) → 1 ≤ size → size ≤ most_size
    → automaton_of ab (bare size 2)
    (codes "initial 0" ∷ codes "final 0" ∷ flat_map (step_lines size) (range_with_len 0 size))
    ≡ generated_automaton size
automaton_read size some few =
    marks_read size (flat_map (step_lines size) (range_with_len 0 size)) some
    ∙ lines_read (rows_alone size) size size (omega arith) few ∙ steps_read size some

is_alphabet : IsAlphabet ab
is_alphabet = from_alphabet_test ab refl

zero_state : (size : ℕ) → 1 ≤ size → All (IsState size) (codes "0" ∷ [])
zero_state size some =
    All-cons (IsState size) (codes "0") []
    (0, omega arith, sym (decimal_digit 0 (omega arith))) (All-nil (IsState size))

initial_line : (size : ℕ) → 1 ≤ size → IsStatesLine (codes "initial") size (codes "initial 0")
unfolding fields
initial_line size some =
    record { numbers = codes "0" ∷ []; stands = refl; each = zero_state size some }

final_line : (size : ℕ) → 1 ≤ size → IsStatesLine (codes "final") size (codes "final 0")
unfolding fields
final_line size some =
    record { numbers = codes "0" ∷ []; stands = refl; each = zero_state size some }

alphabet_line : SpellsAlphabet ab (codes "alphabet ab")
unfolding fields
alphabet_line =
    record { pieces = ab ∷ []; stands = refl; joined = refl; letters = is_alphabet }

count_line : (size : ℕ) → 1 ≤ size → size ≤ most_size
    → SpellsCount size (codes "nfa " ++ decimal size)
unfolding fields
count_line size some few = record {
  stands = ap (λ (fs : Lines). codes "nfa" ∷ fs)
      (last_word (decimal size) (decimal_word size (omega arith)));
  some = some;
  few = few;
}

header_line : fields (codes "synmon 1") ≡ codes "synmon" ∷ codes "1" ∷ []
unfolding fields
header_line = refl

lines_spelled : (size : ℕ) → 1 ≤ size → size ≤ most_size
    → SpellsAutomatonFile (generated_lines size) ab (generated_automaton size)
unfolding head_lines
lines_spelled size some few = record {
  header = codes "synmon 1";
  letters = codes "alphabet ab";
  body = codes "nfa " ++ decimal size;
  initial = codes "initial 0";
  final = codes "final 0";
  steps = flat_map (step_lines size) (range_with_len 0 size);
  states = size;
  order = refl;
  is_header = header_line;
  is_alphabet = alphabet_line;
  is_body = count_line size some few;
  is_initial = initial_line size some;
  is_final = final_line size some;
  are_steps = are_step_lines size few;
  spelled =
      subst (SpellsAutomaton ab size (codes "initial 0") (codes "final 0")
      (flat_map (step_lines size) (range_with_len 0 size))) (automaton_read size some few)
      (read_is_spelled ab size (codes "initial 0") (codes "final 0")
      (flat_map (step_lines size) (range_with_len 0 size)) is_alphabet few
      (initial_line size some) (final_line size some) (are_step_lines size few));
}

pub text_is_source : (size : ℕ) → least_size ≤ size → size ≤ most_size
    → IsSource (generated_text size) (generated_source size)
text_is_source size some few = record {
  short = omega (arith, text_short size few);
  plain =
      subst (All (λ line. IsTrue (is_plain line))) (sym (same_lines size few))
      (All-weaker IsPart IsPlain (λ line is. is.0) (generated_lines size) (are_parts size few));
  spelled =
      subst (λ (lines : Lines). SpellsAutomatonFile lines ab (generated_automaton size))
      (sym (ap parts (same_lines size few) ∙ parts_all (generated_lines size) (are_parts size few)))
      (lines_spelled size (omega arith) few);
}
