-- File format 1: the source that a text spells, the tests of its lines, and the refusal of a
-- text that spells none.
use Rattle.std.specs.Prelude.{◌≡◌, ◌+◌, ◌<◌, ◌≤◌, ⊤, ℕ, Bool, true, false, not, cond, ◌==◌, ◌&&◌, ◌||◌, nat_le, IsTrue, All, Option, Some, None, is_some, List, [], ◌∷◌, length, take, codes, slice_index_or}
use Rattle.std.specs.List.{list_all, list_any, position, concat}
use Rattle.std.specs.Option.{unwrap_or, option_or}
use Rattle.std.specs.Str.{bytes_eq}
use Rattle.language_theory.specs.Automaton.{Automaton, IsAutomaton, Accepts}
use Rattle.expression_theory.specs.Expression.{Tree, Means}
use Rattle.expression_theory.specs.Positions.{IsPositions, IsWithin}
use Rattle.regex_reader.specs.Expressions.{tree_of}
use Rattle.syn_words.specs.Alphabet.{IsAlphabet}
use Rattle.automaton_file.specs.declared.sources.Wrong.{Wrong}
use Rattle.automaton_file.specs.declared.sources.Wrong.TheVariants as wrong
use Rattle.automaton_file.specs.declared.sources.Body.{Body}
use Rattle.automaton_file.specs.declared.sources.Body.TheVariants.{Nfa, Expr}
use Rattle.automaton_file.specs.declared.sources.Source.{Source}
use Rattle.automaton_file.specs.declared.sources.FileFault.{FileFault}
use Rattle.automaton_file.specs.declared.sources.FileFault.TheVariants.{Refused, Memory}
use Rattle.automaton_file.specs.LineText.{text_lines, is_plain, fields, is_significant, parts, behind_first, number_below}
use Rattle.automaton_file.specs.ExprText.{is_expression}
use Rattle.automaton_file.specs.Parts.{most_states, Lines, Fields, IsHeader, SpellsAlphabet, SpellsCount, SpellsExpression, IsStatesLine, IsStepLine, SpellsAutomaton}
use Rattle.expression_theory.specs.Scan.{is_lower_case}

-- the most bytes that an input may have
abbrev pub most_bytes : ℕ
most_bytes = 1048576

-- Sources.

-- the body of a source: an automaton or an expression
pub data BodyText : Type 0 where
  OfAutomaton : (m : Automaton) → BodyText
  OfExpression : (t : Tree) → BodyText

-- the alphabet's letters as bytes, and the body
pub record SourceText : Type 0 where
  pub letters : List ℕ
  pub body : BodyText

abbrev pub body_text : Body → BodyText
body_text (Nfa m) = OfAutomaton m
body_text (Expr e) = OfExpression (tree_of e)

-- the value of a source of the program
abbrev pub source_text : Source → SourceText
source_text source = record { letters = source.alphabet; body = body_text source.body }

abbrev pub body_language : BodyText → List ℕ → Type 0
body_language (OfAutomaton m) = Accepts m
body_language (OfExpression t) = Means t

-- the language of a source
abbrev pub language_of : SourceText → List ℕ → Type 0
language_of source = body_language source.body

-- The significant lines of a file with an automaton are the header, the alphabet, the number of
-- states, the initial and the final states, and a line for each step.
pub record SpellsAutomatonFile (lines : Lines) (alphabet : List ℕ) (m : Automaton) : Type 0 where
  pub header : List ℕ
  pub letters : List ℕ
  pub body : List ℕ
  pub initial : List ℕ
  pub final : List ℕ
  pub steps : Lines
  pub states : ℕ
  pub order : lines ≡ header ∷ letters ∷ body ∷ initial ∷ final ∷ steps
  pub is_header : IsHeader header
  pub is_alphabet : SpellsAlphabet alphabet letters
  pub is_body : SpellsCount states body
  pub is_initial : IsStatesLine (codes "initial") states initial
  pub is_final : IsStatesLine (codes "final") states final
  pub are_steps : All (IsStepLine alphabet states) steps
  pub spelled : SpellsAutomaton alphabet states initial final steps m

-- The significant lines of a file with an expression are the header, the alphabet and the
-- expression.
pub record SpellsExpressionFile (lines : Lines) (alphabet : List ℕ) (t : Tree) : Type 0 where
  pub header : List ℕ
  pub letters : List ℕ
  pub body : List ℕ
  pub order : lines ≡ header ∷ letters ∷ body ∷ []
  pub is_header : IsHeader header
  pub is_alphabet : SpellsAlphabet alphabet letters
  pub is_body : SpellsExpression alphabet t body

-- the significant lines spell the letters and the body
abbrev pub SpellsBody : Lines → List ℕ → BodyText → Type 0
SpellsBody lines alphabet (OfAutomaton m) = SpellsAutomatonFile lines alphabet m
SpellsBody lines alphabet (OfExpression t) = SpellsExpressionFile lines alphabet t

-- The bytes spell this source: they are not too many, no line has a byte that isn't allowed, and
-- the significant lines are those of such a file.
pub record IsSource (bytes : List ℕ) (source : SourceText) : Type 0 where
  pub short : length bytes ≤ most_bytes
  pub plain : All (λ line. IsTrue (is_plain line)) (text_lines bytes)
  pub spelled : SpellsBody (parts (text_lines bytes)) source.letters source.body

-- what holds of the body of each source, over so many letters
abbrev pub IsSoundBody : ℕ → BodyText → Type 0
IsSoundBody letters (OfAutomaton m) =
    IsAutomaton m × (m.letters ≡ letters) × (1 ≤ m.states) × (m.states ≤ most_states)
IsSoundBody letters (OfExpression t) = IsWithin letters t

-- what holds of the letters and the body of each source
pub record IsSoundSource (source : SourceText) : Type 0 where
  pub alphabet : IsAlphabet source.letters
  pub body : IsSoundBody (length source.letters) source.body

-- The tests of a line, and what is wrong where one fails. The laws `each_line_is_its_part` and
-- `each_test_says_what_must_stand` say what they test.

abbrev pub are_distinct : List ℕ → Bool
are_distinct [] = true
are_distinct (b ∷ more) = not (list_any (λ c. c == b) more) && are_distinct more

-- 1 to 26 distinct lower-case letters
abbrev pub is_alphabet : List ℕ → Bool
is_alphabet text =
    nat_le 1 (length text)
    && (nat_le (length text) 26 && (list_all is_lower_case text && are_distinct text))

-- the letters of an alphabet line: the fields behind the first one, put together
abbrev pub letters_of : Fields → List ℕ
letters_of [] = []
letters_of (word ∷ more) = concat more

abbrev pub begins_with : List ℕ → Fields → Bool
begins_with word [] = false
begins_with word (field ∷ more) = bytes_eq field word

abbrev pub is_expr : Fields → Bool
is_expr line = begins_with (codes "expr") line

-- the count of states that fields spell: one number from 1 to the most states, and else 0
abbrev pub count_of : Fields → ℕ
count_of [] = 0
count_of (number ∷ []) = unwrap_or (number_below (most_states + 1) number) 0
count_of (number ∷ other ∷ more) = 0

-- the count of states of a body line `nfa`
abbrev pub state_count : Fields → ℕ
state_count [] = 0
state_count (word ∷ more) = count_of more

-- a number below the count of states
abbrev pub is_state : ℕ → List ℕ → Bool
is_state count field = is_some (number_below count field)

-- the number of a letter, as one byte
abbrev pub letter_of : List ℕ → List ℕ → Option ℕ
letter_of letters [] = None
letter_of letters (byte ∷ []) = position (λ b. b == byte) letters
letter_of letters (byte ∷ other ∷ more) = None

-- nothing is wrong where the test passes
abbrev pub unless : Bool → Wrong → Option Wrong
unless passes fault = cond passes None (Some fault)

abbrev pub header_fault : Fields → Option Wrong
header_fault [] = Some wrong.Header
header_fault (word ∷ []) = Some wrong.Header
header_fault (word ∷ version ∷ []) =
    unless (bytes_eq word (codes "synmon") && bytes_eq version (codes "1")) wrong.Header
header_fault (word ∷ version ∷ other ∷ more) = Some wrong.Header

abbrev pub alphabet_fault : Fields → Option Wrong
alphabet_fault line =
    unless (begins_with (codes "alphabet") line && is_alphabet (letters_of line)) wrong.Alphabet

-- the test of a body line, by the letters of the alphabet
abbrev pub body_fault : List ℕ → List ℕ → Option Wrong
body_fault letters line =
    option_or (unless (is_expr (fields line) || begins_with (codes "nfa") (fields line)) wrong.Body)
    (option_or (unless (is_expr (fields line) || not (state_count (fields line) == 0)) wrong.Count)
    (unless (not (is_expr (fields line))
    || is_expression letters (behind_first line)) wrong.Expression))

abbrev pub marks_fault : List ℕ → ℕ → Fields → Option Wrong
marks_fault word count [] = Some wrong.Missing
marks_fault word count (field ∷ states) =
    option_or (unless (bytes_eq field word) wrong.Missing)
    (unless (list_all (is_state count) states) wrong.State)

abbrev pub step_fault : List ℕ → ℕ → Fields → Option Wrong
step_fault letters count [] = Some wrong.OutOfPlace
step_fault letters count (from ∷ []) = Some wrong.OutOfPlace
step_fault letters count (from ∷ letter ∷ []) = Some wrong.OutOfPlace
step_fault letters count (from ∷ letter ∷ to ∷ []) =
    option_or (unless (is_state count from) wrong.State)
    (option_or (unless (is_some (letter_of letters letter)) wrong.Letter)
    (unless (is_state count to) wrong.State))
step_fault letters count (from ∷ letter ∷ to ∷ other ∷ more) = Some wrong.OutOfPlace

-- the test of a line behind the body line of an automaton, by the lines between them
abbrev pub automaton_fault : List ℕ → ℕ → Lines → List ℕ → Option Wrong
automaton_fault letters count [] line = marks_fault (codes "initial") count (fields line)
automaton_fault letters count (initial ∷ []) line = marks_fault (codes "final") count (fields line)
automaton_fault letters count (initial ∷ final ∷ steps) line =
    step_fault letters count (fields line)

-- the letters of an alphabet line
abbrev pub letters_in : List ℕ → List ℕ
letters_in alphabet = letters_of (fields alphabet)

-- the test of a significant line, by the significant lines before it
abbrev pub part_fault : Lines → List ℕ → Option Wrong
part_fault [] line = header_fault (fields line)
part_fault (header ∷ []) line = alphabet_fault (fields line)
part_fault (header ∷ alphabet ∷ []) line = body_fault (letters_in alphabet) line
part_fault (header ∷ alphabet ∷ body ∷ more) line =
    cond (is_expr (fields body)) (Some wrong.OutOfPlace)
    (automaton_fault (letters_in alphabet) (state_count (fields body)) more line)

-- the first test that a line fails
abbrev pub line_fault : Lines → List ℕ → Option Wrong
line_fault earlier text =
    option_or (unless (is_plain text) wrong.Byte)
    (cond (is_significant (fields text)) (part_fault earlier text) None)

-- the first test that line i fails, counted from 0
abbrev pub fault_at : Lines → ℕ → Option Wrong
fault_at texts i = line_fault (parts (take i texts)) (slice_index_or texts i [])

-- no part must still come
abbrev pub is_whole : Lines → Bool
is_whole [] = false
is_whole (header ∷ []) = false
is_whole (header ∷ alphabet ∷ []) = false
is_whole (header ∷ alphabet ∷ body ∷ more) = is_expr (fields body) || nat_le 2 (length more)

-- Refusals.

-- the first bad line: no line before it fails a test
pub record IsFirstBadLine (texts : Lines) (line : ℕ) (fault : Wrong) : Type 0 where
  pub place : ℕ
  pub within : place < length texts
  pub number : line ≡ place + 1
  pub fails : fault_at texts place ≡ Some fault
  pub before : (i : ℕ) → i < place → fault_at texts i ≡ None

-- no line fails a test, and a part must still come
pub record IsMissingPart (texts : Lines) : Type 0 where
  pub passes : (i : ℕ) → i < length texts → fault_at texts i ≡ None
  pub missing : is_whole (parts texts) ≡ false

-- the codes of what is wrong
abbrev pub code_of : Wrong → ℕ
code_of wrong.Header = 1
code_of wrong.Alphabet = 2
code_of wrong.Body = 3
code_of wrong.Count = 4
code_of wrong.State = 5
code_of wrong.Letter = 6
code_of wrong.Missing = 7
code_of wrong.Expression = 8
code_of wrong.OutOfPlace = 9
code_of wrong.Byte = 10
code_of wrong.TooLong = 11

-- The line and what is wrong: line 0 for an input that is too long, the first bad line with the
-- first test that it fails, and the line behind the last one where a part must still come.
pub data IsWrong (bytes : List ℕ) : ℕ → Wrong → Type 0 where
  too_long : most_bytes < length bytes → IsWrong bytes 0 wrong.TooLong
  bad_line : {line : ℕ} {fault : Wrong} → length bytes ≤ most_bytes
      → IsFirstBadLine (text_lines bytes) line fault → IsWrong bytes line fault
  missing_part : length bytes ≤ most_bytes → IsMissingPart (text_lines bytes)
      → IsWrong bytes (length (text_lines bytes) + 1) wrong.Missing

-- the line and the code of a refusal
pub record IsRefusal (bytes : List ℕ) (line code : ℕ) : Type 0 where
  pub fault : Wrong
  pub is_wrong : IsWrong bytes line fault
  pub number : code ≡ code_of fault

-- the refusal of a file, or want of memory
abbrev pub IsFileRefusal : List ℕ → FileFault → Type 0
IsFileRefusal bytes (Refused refusal) = IsRefusal bytes refusal.line refusal.code
IsFileRefusal bytes Memory = ⊤

-- Automata of sources.

-- the automaton of a body over so many letters: the file's, or the position automaton of its
-- expression
abbrev pub IsBodyAutomaton : ℕ → BodyText → Automaton → Type 0
IsBodyAutomaton letters (OfAutomaton n) m = m ≡ n
IsBodyAutomaton letters (OfExpression t) m = IsPositions t letters m

-- an expression has a position automaton over so many letters
abbrev pub CanBuild : ℕ → BodyText → Type 0
CanBuild letters (OfAutomaton n) = ⊤
CanBuild letters (OfExpression t) = IsWithin letters t
