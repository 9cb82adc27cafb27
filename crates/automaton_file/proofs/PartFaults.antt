-- The first fault at the next significant line, or behind it.
use Rattle.std.proofs.Common.{◌≡◌, ◌≤◌, ℕ, ◌+◌, List, [], ◌∷◌, ◌++◌, length, sym, ap, ◌∙◌, subst, refl}
use Rattle.std.specs.Prelude.{Bool, true, false, cond, nat_le, codes, Option, Some, None}
use Rattle.automata.specs.Nfa.{with_final}
use Rattle.language_theory.specs.Automaton.{Automaton}
use Rattle.automaton_file.specs.declared.sources.Wrong.{Wrong}
use Rattle.automaton_file.specs.declared.sources.Wrong.TheVariants as wrong
use Rattle.automaton_file.specs.LineText.{text_lines, fields, parts, IsBadAhead, IsEndAhead}
use Rattle.automaton_file.specs.FileText.{step_fault, marks_fault, automaton_fault, is_expr, state_count}
use Rattle.automaton_file.specs.Parts.{Lines, most_states}
use Rattle.automaton_file.specs.Reading.{with_line, with_step_line, with_step_lines, automaton_of, IsPart, IsTaken, IsNoPart, IsBadPart, IsRefusedPart, IsFaultAt, IsReadFault, lines_from, fault_else, faults_by, first_fault, automaton_first_fault, steps_first_fault, nothing_first_fault, IsMarksTaken, IsBodyLine, IsHead}
use Rattle.regex_reader.specs.declared.expr.Expr as reader
use Rattle.automaton_file.specs.declared.cursor.Cursor.{Cursor}
use Rattle.automaton_file.specs.declared.reading.Part.{Part}
use Rattle.automaton_file.specs.declared.reading.Head.{Head}
use Rattle.automaton_file.specs.declared.parts.Mark.TheVariants.{Initial, Final}
use Rattle.automaton_file.specs.declared.parts.BodyLine.TheVariants.{Nfa, Expr}
use Rattle.automaton_file.specs.declared.faults.ReadFault.{ReadFault}
use Rattle.automaton_file.specs.declared.faults.ReadFault.TheVariants.{Bad, Memory}
use Rattle.automaton_file.proofs.FaultFold.{faults_behind, faults_at, parts_behind, parts_more, tested_bad, faults_behind_steps, faults_of_steps, faults_of_automaton, faults_of_expression}

pub part_parts : (cursor : Cursor) (part : Part) → IsPart cursor part
    → parts (lines_from cursor) ≡ part.text.now ∷ parts (lines_from part.next)
part_parts cursor part p = parts_behind _ _ _ _ p.skip
    ∙ parts_more part.text.now (lines_from part.next) p.significant

part_faults : (cursor : Cursor) (part : Part) → IsPart cursor part
    → (test : Lines → List ℕ → Option Wrong) (whole : Lines → Bool) (earlier : Lines)
    → faults_by test whole earlier cursor.number (lines_from cursor) ≡ fault_else
    (test earlier part.text.now) part.number
    (faults_by test whole (earlier ++ part.text.now ∷ []) part.next.number (lines_from part.next))
part_faults cursor part p test whole earlier =
    faults_behind test whole earlier _ _ _ _ p.skip
    ∙ faults_at test whole earlier part.text.now (lines_from part.next) part.number p.plain
    p.significant
    ∙ ap (λ (n : ℕ). fault_else (test earlier part.text.now) part.number
    (faults_by test whole (earlier ++ part.text.now ∷ []) n (lines_from part.next))) (sym p.next)

-- the line passes its tests
pub fault_behind : (cursor : Cursor) (part : Part) → IsPart cursor part
    → (test : Lines → List ℕ → Option Wrong) (whole : Lines → Bool) (earlier : Lines)
    → test earlier part.text.now ≡ None
    → faults_by test whole earlier cursor.number (lines_from cursor) ≡ faults_by test whole
    (earlier ++ part.text.now ∷ []) part.next.number (lines_from part.next)
fault_behind cursor part p test whole earlier none =
    part_faults cursor part p test whole earlier
    ∙ ap (λ (o : Option Wrong). fault_else o part.number
    (faults_by test whole (earlier ++ part.text.now ∷ []) part.next.number (lines_from part.next)))
    none

-- the line fails a test
pub fault_found : (cursor : Cursor) (part : Part) → IsPart cursor part
    → (test : Lines → List ℕ → Option Wrong) (whole : Lines → Bool) (earlier : Lines) (w : Wrong)
    → test earlier part.text.now ≡ Some w
    → faults_by test whole earlier cursor.number (lines_from cursor) ≡ Some (part.number, w)
fault_found cursor part p test whole earlier w found =
    part_faults cursor part p test whole earlier
    ∙ ap (λ (o : Option Wrong). fault_else o part.number
    (faults_by test whole (earlier ++ part.text.now ∷ []) part.next.number (lines_from part.next)))
    found

pub taken : (cursor : Cursor) (part : Part) → IsPart cursor part
    → IsTaken cursor part.text.now part.next
taken cursor part p = record {
  faults = λ test whole earlier none. fault_behind cursor part p test whole earlier none;
  parts = part_parts cursor part p;
}

pub part_refused : (fault : List ℕ → Option Wrong) (cursor : Cursor) (part : Part) (w : Wrong)
    → IsPart cursor part → fault part.text.now ≡ Some w
    → IsRefusedPart fault cursor (record { line = part.number; wrong = w })
part_refused fault cursor part w p found =
    record {
      first = λ test whole earlier hw ht. fault_found cursor part p test whole earlier w
          (ht part.text.now ∙ found);
    }

pub bad_part : (cursor : Cursor) (at : ℕ) → IsBadAhead cursor.bytes.now cursor.at cursor.number at
    → IsBadPart cursor (record { line = at; wrong = wrong.Byte })
bad_part cursor at h = record {
  first = λ test whole earlier.
      faults_behind test whole earlier _ _ _ _ h.skip
      ∙ ap (λ (o : Option Wrong). fault_else o at
      (faults_by test whole (earlier ++ parts (h.text ∷ [])) (at + 1) h.rest))
      (tested_bad test earlier h.text h.bad);
}

pub no_part : (cursor : Cursor) (count : ℕ)
    → IsEndAhead cursor.bytes.now cursor.at cursor.number count
    → IsNoPart cursor (record { line = count + 1; wrong = wrong.Missing })
no_part cursor count h = record {
  first = λ test whole earlier more. faults_behind test whole earlier _ _ _ _ h.skip
      ∙ ap (λ (b : Bool). cond b None (Some (count + 1, wrong.Missing))) more;
}

pub step_faulty : (letters : List ℕ) (count : ℕ) (cursor : Cursor) (part : Part) (fault : ReadFault)
    → IsPart cursor part
    → IsFaultAt part.number (step_fault letters count (fields part.text.now)) fault
    → IsReadFault (steps_first_fault letters count cursor.number (lines_from cursor)) fault
step_faulty letters count cursor part (Bad bad) p h =
    fault_found cursor part p (λ _ line. step_fault letters count (fields line))
    (λ _. true) [] bad.wrong h.1 ∙ ap (λ (n : ℕ). Some (n, bad.wrong)) (sym h.0)
step_faulty letters count cursor part Memory p h = tt

pub step_behind : (letters : List ℕ) (count : ℕ) (cursor : Cursor) (part : Part)
    → IsPart cursor part → step_fault letters count (fields part.text.now) ≡ None
    → steps_first_fault letters count part.next.number (lines_from part.next)
    ≡ steps_first_fault letters count cursor.number (lines_from cursor)
step_behind letters count cursor part p none =
    sym (fault_behind cursor part p (λ _ line. step_fault letters count (fields line))
    (λ _. true) [] none
    ∙ faults_behind_steps letters count (part.text.now ∷ []) part.next.number
    (lines_from part.next))

pub step_lines_behind : (letters : List ℕ) (m next : Automaton) (cursor : Cursor) (part : Part)
    → IsPart cursor part → next ≡ with_step_line letters m (fields part.text.now)
    → with_step_lines letters next (parts (lines_from part.next)) ≡ with_step_lines letters m
    (parts (lines_from cursor))
step_lines_behind letters m next cursor part p same =
    ap (λ (x : Automaton). with_step_lines letters x (parts (lines_from part.next))) same
    ∙ ap (with_step_lines letters m) (sym (part_parts cursor part p))

pub faults_at_end : (test : Lines → List ℕ → Option Wrong) (whole : Lines → Bool) (earlier : Lines)
    (cursor : Cursor) (count : ℕ) → IsEndAhead cursor.bytes.now cursor.at cursor.number count
    → whole earlier ≡ true → faults_by test whole earlier cursor.number (lines_from cursor) ≡ None
faults_at_end test whole earlier cursor count h all =
    faults_behind test whole earlier _ _ _ _ h.skip
    ∙ ap (λ (b : Bool). cond b None (Some (count + 1, wrong.Missing))) all

pub parts_at_end : (cursor : Cursor) (count : ℕ)
    → IsEndAhead cursor.bytes.now cursor.at cursor.number count → parts (lines_from cursor) ≡ []
parts_at_end cursor count h = parts_behind _ _ _ _ h.skip

-- the lines `initial` and `final` are read, and the lines behind them are steps
pub marks_then_steps : (letters : List ℕ) (count : ℕ) (cursor next last : Cursor)
    (m m' m'' : Automaton) → m.states ≡ count → m'.states ≡ count
    → IsMarksTaken Initial cursor next m m' → IsMarksTaken Final next last m' m''
    → automaton_first_fault letters count [] cursor.number (lines_from cursor)
    ≡ steps_first_fault letters count last.number (lines_from last)
marks_then_steps letters count cursor next last m m' m'' same same' h k =
    let test = automaton_fault letters count in
    let whole : Lines → Bool = λ lines. nat_le 2 (length lines) in
    h.taken.faults test whole []
    (ap (λ (n : ℕ). marks_fault (codes "initial") n (fields h.line)) (sym same) ∙ h.passes)
    ∙ k.taken.faults test whole (h.line ∷ [])
    (ap (λ (n : ℕ). marks_fault (codes "final") n (fields k.line)) (sym same') ∙ k.passes)
    ∙ faults_of_steps letters count h.line k.line last.number (lines_from last)

pub marks_then_step_lines : (letters : List ℕ) (cursor next last : Cursor) (m m' m'' : Automaton)
    → IsMarksTaken Initial cursor next m m' → IsMarksTaken Final next last m' m''
    → automaton_of letters m (parts (lines_from cursor)) ≡ with_step_lines letters m''
    (parts (lines_from last))
marks_then_step_lines letters cursor next last m m' m'' h k =
    ap (automaton_of letters m) (h.taken.parts ∙ ap (λ (more : Lines). h.line ∷ more) k.taken.parts)
    ∙ ap (λ (x : Automaton). with_step_lines letters x (parts (lines_from last)))
    (ap (λ (x : Automaton). with_line with_final x (fields k.line)) (sym h.marked) ∙ sym k.marked)

-- the first three parts are read, and the body is an automaton
pub head_faults : (bytes : List ℕ) (head : Head) (count : ℕ) → IsHead bytes head
    → head.body ≡ Nfa count
    → first_fault [] 1 (text_lines bytes) ≡ automaton_first_fault head.alphabet count []
    head.next.number (lines_from head.next)
head_faults bytes head count h e =
    let begins : (is_expr (fields h.body) ≡ false) × (state_count (fields h.body) ≡ count)
    × (1 ≤ count) × (count ≤ most_states) =
    subst (IsBodyLine head.alphabet h.body) e h.begins in
    h.faults ∙ faults_of_automaton h.header h.alphabet h.body head.next.number
    (lines_from head.next) begins.0
    ∙ ap (λ (letters : List ℕ). automaton_first_fault letters
    (state_count (fields h.body)) [] head.next.number (lines_from head.next)) (sym h.letters)
    ∙ ap (λ (n : ℕ). automaton_first_fault head.alphabet n [] head.next.number
    (lines_from head.next)) begins.1

pub steps_at_end : (letters : List ℕ) (count : ℕ) (cursor : Cursor) (end : ℕ)
    → IsEndAhead cursor.bytes.now cursor.at cursor.number end
    → steps_first_fault letters count cursor.number (lines_from cursor) ≡ None
steps_at_end letters count cursor end h =
    faults_at_end (λ _ line. step_fault letters count (fields line))
    (λ _. true) [] cursor end h refl

-- the first three parts are read, and the body is an expression
pub head_nothing : (bytes : List ℕ) (head : Head) (expr : reader.Expr) → IsHead bytes head
    → head.body ≡ Expr expr
    → first_fault [] 1 (text_lines bytes) ≡ nothing_first_fault head.next.number
    (lines_from head.next)
head_nothing bytes head expr h e =
    let begins = subst (IsBodyLine head.alphabet h.body) e h.begins in
    h.faults ∙ faults_of_expression h.header h.alphabet h.body head.next.number
    (lines_from head.next) begins.0

-- a significant line where none may stand
pub part_behind_expression : (cursor : Cursor) (part : Part) → IsPart cursor part
    → nothing_first_fault cursor.number (lines_from cursor) ≡ Some (part.number, wrong.OutOfPlace)
part_behind_expression cursor part p = fault_found cursor part p (λ _ _. Some wrong.OutOfPlace)
    (λ _. true) [] wrong.OutOfPlace refl

pub nothing_at_end : (cursor : Cursor) (end : ℕ)
    → IsEndAhead cursor.bytes.now cursor.at cursor.number end
    → nothing_first_fault cursor.number (lines_from cursor) ≡ None
nothing_at_end cursor end h = faults_at_end (λ _ _. Some wrong.OutOfPlace)
    (λ _. true) [] cursor end h refl
