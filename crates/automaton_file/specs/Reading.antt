-- Where the reader of a file stands, and the faults that it may still find.
use Rattle.std.specs.Prelude.{◌≡◌, ◌+◌, ◌-◌, ◌<◌, ◌≤◌, ◌++◌, ⊤, ℕ, Bool, true, false, cond, nat_le, Option, Some, None, List, [], ◌∷◌, length, drop, codes}
use Rattle.std.specs.Option.{unwrap_or, option_or}
use Rattle.language_theory.specs.Automaton.{Automaton}
use Rattle.syn_words.specs.Alphabet.{IsAlphabet}
use Rattle.automata.specs.Nfa.{bare, with_initial, with_final, with_step}
use Rattle.automaton_file.specs.declared.sources.Wrong.{Wrong}
use Rattle.automaton_file.specs.declared.sources.Wrong.TheVariants as wrong
use Rattle.automaton_file.specs.declared.parts.BodyLine.{BodyLine}
use Rattle.automaton_file.specs.declared.parts.BodyLine.TheVariants.{Expr, Nfa}
use Rattle.automaton_file.specs.declared.parts.Mark.{Mark}
use Rattle.automaton_file.specs.declared.parts.Mark.TheVariants.{Initial, Final}
use Rattle.automaton_file.specs.declared.faults.LineFault.{LineFault}
use Rattle.automaton_file.specs.declared.faults.LineFault.TheVariants.{Bad, Memory}
use Rattle.automaton_file.specs.declared.cursor.Cursor.{Cursor}
use Rattle.automaton_file.specs.declared.reading.Part.{Part}
use Rattle.automaton_file.specs.declared.reading.Ahead.{Ahead}
use Rattle.automaton_file.specs.declared.reading.Ahead.TheVariants as ahead
use Rattle.automaton_file.specs.declared.reading.Head.{Head}
use Rattle.automaton_file.specs.declared.faults.BadLine.{BadLine}
use Rattle.automaton_file.specs.declared.faults.ReadFault.{ReadFault}
use Rattle.automaton_file.specs.declared.faults.ReadFault.TheVariants as read
use Rattle.automaton_file.specs.LineText.{text_lines, is_plain, fields, is_significant, parts, behind_first, value, IsSkip, IsEndAhead}
use Rattle.expression_theory.specs.Scan.{classes, SpellsTree}
use Rattle.expression_theory.specs.Positions.{IsWithin}
use Rattle.regex_reader.specs.Expressions.{tree_of}
use Rattle.regex_reader.specs.declared.fault.ExprFault.{ExprFault}
use Rattle.regex_reader.specs.declared.fault.ExprFault.TheVariants as expr
use Rattle.automaton_file.specs.Parts.{most_states, Lines, Fields}
use Rattle.automaton_file.specs.FileText.{most_bytes, BodyText, OfAutomaton, OfExpression, SourceText, part_fault, fault_at, automaton_fault, step_fault, unless, is_whole, is_expr, state_count, letters_in, letter_of, header_fault, alphabet_fault, body_fault, marks_fault}

-- no line fails a test, and no part must still come
pub record IsWellSpelled (texts : Lines) : Type 0 where
  pub passes : (i : ℕ) → i < length texts → fault_at texts i ≡ None
  pub whole : is_whole (parts texts) ≡ true

-- The source as it is read: the same as the source that the text spells, by the laws of
-- proofs/ReadSources.antt.

-- the automaton with the listed states marked
abbrev pub with_marks : (Automaton → ℕ → Automaton) → Automaton → Fields → Automaton
with_marks mark m [] = m
with_marks mark m (state ∷ more) = with_marks mark (mark m (value state)) more

-- the same, for the fields behind the first one
abbrev pub with_line : (Automaton → ℕ → Automaton) → Automaton → Fields → Automaton
with_line mark m [] = m
with_line mark m (word ∷ states) = with_marks mark m states

abbrev pub with_step_line : List ℕ → Automaton → Fields → Automaton
with_step_line letters m [] = m
with_step_line letters m (from ∷ []) = m
with_step_line letters m (from ∷ letter ∷ []) = m
with_step_line letters m (from ∷ letter ∷ to ∷ more) =
    with_step m (value from) (unwrap_or (letter_of letters letter) 0) (value to)

abbrev pub with_step_lines : List ℕ → Automaton → Lines → Automaton
with_step_lines letters m [] = m
with_step_lines letters m (line ∷ more) =
    with_step_lines letters (with_step_line letters m (fields line)) more

-- the automaton that the lines behind the body line spell
abbrev pub automaton_of : List ℕ → Automaton → Lines → Automaton
automaton_of letters m [] = m
automaton_of letters m (initial ∷ []) = with_line with_initial m (fields initial)
automaton_of letters m (initial ∷ final ∷ steps) =
    with_step_lines letters
    (with_line with_final (with_line with_initial m (fields initial)) (fields final)) steps

-- the body line, and those behind it, spell the body
abbrev pub ReadsBody : List ℕ → List ℕ → Lines → BodyText → Type 0
ReadsBody letters body more (OfAutomaton m) =
    (is_expr (fields body) ≡ false)
    × (m ≡ automaton_of letters (bare (state_count (fields body)) (length letters)) more)
ReadsBody letters body more (OfExpression t) =
    (is_expr (fields body) ≡ true) × SpellsTree (classes letters (behind_first body)) t

-- the significant lines spell the source
abbrev pub ReadsSource : Lines → SourceText → Type 0
ReadsSource [] source = ⊥
ReadsSource (header ∷ []) source = ⊥
ReadsSource (header ∷ alphabet ∷ []) source = ⊥
ReadsSource (header ∷ alphabet ∷ body ∷ more) source =
    (source.letters ≡ letters_in alphabet) × ReadsBody (letters_in alphabet) body more source.body

-- the bytes are read as this source
pub record IsRead (bytes : List ℕ) (source : SourceText) : Type 0 where
  pub short : length bytes ≤ most_bytes
  pub spelled : IsWellSpelled (text_lines bytes)
  pub same : ReadsSource (parts (text_lines bytes)) source

-- the lines from a cursor on
abbrev pub lines_from : Cursor → List (List ℕ)
lines_from cursor = text_lines (drop cursor.at cursor.bytes.now)

-- how many bytes stand from a cursor on
abbrev pub left : Cursor → ℕ
left cursor = length cursor.bytes.now - cursor.at

-- the first fault, with the number of its line, where one line may have a fault
abbrev pub fault_else : Option Wrong → ℕ → Option (ℕ × Wrong) → Option (ℕ × Wrong)
fault_else None number next = next
fault_else (Some fault) number next = Some (number, fault)

-- The line of the first fault and what is wrong with it in these lines, the first of which has
-- this number, behind earlier parts: by a test of each significant line, and whether no part
-- must still come.
abbrev pub faults_by : (Lines → List ℕ → Option Wrong) → (Lines → Bool) → Lines → ℕ → Lines
    → Option (ℕ × Wrong)
faults_by test whole earlier number [] = cond (whole earlier) None (Some (number, wrong.Missing))
faults_by test whole earlier number (text ∷ more) =
    fault_else (option_or (unless (is_plain text) wrong.Byte)
    (cond (is_significant (fields text)) (test earlier text) None)) number
    (faults_by test whole (earlier ++ parts (text ∷ [])) (number + 1) more)

-- the first fault in a file
abbrev pub first_fault : Lines → ℕ → Lines → Option (ℕ × Wrong)
first_fault = faults_by part_fault is_whole

-- the first fault behind the body line of an automaton, by the lines between them
abbrev pub automaton_first_fault : List ℕ → ℕ → Lines → ℕ → Lines → Option (ℕ × Wrong)
automaton_first_fault letters count =
    faults_by (automaton_fault letters count) (λ lines. nat_le 2 (length lines))

-- the first fault among step lines
abbrev pub steps_first_fault : List ℕ → ℕ → ℕ → List (List ℕ) → Option (ℕ × Wrong)
steps_first_fault letters count =
    faults_by (λ _ line. step_fault letters count (fields line)) (λ _. true) []

-- the first fault behind the body line of an expression, where nothing may stand
abbrev pub nothing_first_fault : ℕ → List (List ℕ) → Option (ℕ × Wrong)
nothing_first_fault = faults_by (λ _ _. Some wrong.OutOfPlace) (λ _. true) []

-- want of memory, or what is wrong
abbrev pub IsLineFault : Option Wrong → LineFault → Type 0
IsLineFault fault (Bad found) = fault ≡ Some found
IsLineFault fault Memory = ⊤

-- want of memory stays, and each other fault of an expression is that of its line
abbrev pub IsRaised : ExprFault → LineFault → Type 0
IsRaised expr.Memory fault = fault ≡ Memory
IsRaised (expr.Unexpected at) fault = fault ≡ Bad wrong.Expression
IsRaised (expr.UnknownLetter at) fault = fault ≡ Bad wrong.Expression
IsRaised (expr.TooDeep at) fault = fault ≡ Bad wrong.Expression
IsRaised (expr.TooLarge at) fault = fault ≡ Bad wrong.Expression

-- what a body line begins, over these letters
abbrev pub IsBodyLine : List ℕ → List ℕ → BodyLine → Type 0
IsBodyLine letters line (Expr e) =
    (is_expr (fields line) ≡ true) × SpellsTree (classes letters (behind_first line)) (tree_of e)
    × IsWithin (length letters) (tree_of e)
IsBodyLine letters line (Nfa count) =
    (is_expr (fields line) ≡ false) × (state_count (fields line) ≡ count) × (1 ≤ count)
    × (count ≤ most_states)

abbrev pub mark_word : Mark → List ℕ
mark_word Initial = codes "initial"
mark_word Final = codes "final"

abbrev pub mark_state : Mark → Automaton → ℕ → Automaton
mark_state Initial = with_initial
mark_state Final = with_final

-- the next significant line from a cursor on, where no line before it has a fault
pub record IsPart (cursor : Cursor) (part : Part) : Type 0 where
  pub skip : IsSkip (lines_from cursor) cursor.number
      (part.text.now ∷ lines_from part.next) part.number
  pub plain : is_plain part.text.now ≡ true
  pub significant : is_significant (fields part.text.now) ≡ true
  pub next : part.next.number ≡ part.number + 1
  pub onward : left part.next < left cursor

-- what stands from a cursor on, where no line before it has a fault
abbrev pub IsAhead : Cursor → Ahead → Type 0
IsAhead cursor (ahead.Part part) = IsPart cursor part
IsAhead cursor (ahead.End count) = IsEndAhead cursor.bytes.now cursor.at cursor.number count

-- the refusal of what stands from a cursor on, whatever stands before
pub record IsBadPart (cursor : Cursor) (bad : BadLine) : Type 0 where
  pub first : (test : Lines → List ℕ → Option Wrong) (whole : Lines → Bool) (earlier : Lines)
      → faults_by test whole earlier cursor.number (lines_from cursor) ≡ Some (bad.line, bad.wrong)

-- the refusal of what stands from a cursor on, where a part must still come
pub record IsNoPart (cursor : Cursor) (bad : BadLine) : Type 0 where
  pub first : (test : Lines → List ℕ → Option Wrong) (whole : Lines → Bool) (earlier : Lines)
      → whole earlier ≡ false
      → faults_by test whole earlier cursor.number (lines_from cursor) ≡ Some (bad.line, bad.wrong)

-- the refusal of what stands from a cursor on, where a part with this test must still come
pub record IsRefusedPart (fault : List ℕ
    → Option Wrong) (cursor : Cursor) (bad : BadLine) : Type 0 where
  pub first : (test : Lines → List ℕ → Option Wrong) (whole : Lines → Bool) (earlier : Lines)
      → whole earlier ≡ false → ((line : List ℕ) → test earlier line ≡ fault line)
      → faults_by test whole earlier cursor.number (lines_from cursor) ≡ Some (bad.line, bad.wrong)

-- the same, or want of memory
abbrev pub IsFaultyPart : (List ℕ → Option Wrong) → Cursor → ReadFault → Type 0
IsFaultyPart fault cursor (read.Bad bad) = IsRefusedPart fault cursor bad
IsFaultyPart fault cursor read.Memory = ⊤

-- this significant line is read, which comes next, and the next line begins at `next`
pub record IsTaken (cursor : Cursor) (line : List ℕ) (next : Cursor) : Type 0 where
  pub faults : (test : Lines → List ℕ → Option Wrong) (whole : Lines → Bool) (earlier : Lines)
      → test earlier line ≡ None
      → faults_by test whole earlier cursor.number (lines_from cursor) ≡ faults_by test whole
      (earlier ++ line ∷ []) next.number (lines_from next)
  pub parts : parts (lines_from cursor) ≡ line ∷ parts (lines_from next)

-- the header line is read
pub record IsHeaderTaken (cursor next : Cursor) : Type 0 where
  pub line : List ℕ
  pub taken : IsTaken cursor line next
  pub passes : header_fault (fields line) ≡ None

-- the alphabet line is read
pub record IsAlphabetTaken (cursor : Cursor) (letters : List ℕ) (next : Cursor) : Type 0 where
  pub line : List ℕ
  pub taken : IsTaken cursor line next
  pub passes : alphabet_fault (fields line) ≡ None
  pub same : letters ≡ letters_in line
  pub is_alphabet : IsAlphabet letters

-- the body line is read, over these letters
pub record IsBodyTaken (letters : List ℕ) (cursor : Cursor) (body : BodyLine)
    (next : Cursor) : Type 0 where
  pub line : List ℕ
  pub taken : IsTaken cursor line next
  pub passes : body_fault letters line ≡ None
  pub begins : IsBodyLine letters line body

-- a line of state numbers is read
pub record IsMarksTaken (mark : Mark) (cursor next : Cursor)
    (before after : Automaton) : Type 0 where
  pub line : List ℕ
  pub taken : IsTaken cursor line next
  pub passes : marks_fault (mark_word mark) before.states (fields line) ≡ None
  pub marked : after ≡ with_line (mark_state mark) before (fields line)

-- the refusal of a line with this number, by the test that it fails, or want of memory
abbrev pub IsFaultAt : ℕ → Option Wrong → ReadFault → Type 0
IsFaultAt number fault (read.Bad bad) = (bad.line ≡ number) × (fault ≡ Some bad.wrong)
IsFaultAt number fault read.Memory = ⊤

-- want of memory, or the refusal
abbrev pub IsReadFault : Option (ℕ × Wrong) → ReadFault → Type 0
IsReadFault fault (read.Bad bad) = fault ≡ Some (bad.line, bad.wrong)
IsReadFault fault read.Memory = ⊤

-- the first three parts are read, and no line has a fault so far
pub record IsHead (bytes : List ℕ) (head : Head) : Type 0 where
  pub header : List ℕ
  pub alphabet : List ℕ
  pub body : List ℕ
  pub faults : first_fault [] 1 (text_lines bytes) ≡ first_fault
      (header ∷ alphabet ∷ body ∷ []) head.next.number (lines_from head.next)
  pub parts : parts (text_lines bytes) ≡ header ∷ alphabet ∷ body ∷ parts (lines_from head.next)
  pub letters : head.alphabet ≡ letters_in alphabet
  pub is_alphabet : IsAlphabet head.alphabet
  pub begins : IsBodyLine head.alphabet body head.body
