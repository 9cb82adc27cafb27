-- A text is read as a source exactly where it spells the source.
use Rattle.std.proofs.Common.{◌≡◌, ◌≤◌, ℕ, ◌+◌, List, [], ◌∷◌, ◌++◌, length, refl, sym, ap, ◌∙◌, arith, true, false, subst, append_assoc, append-nil}
use Rattle.std.specs.Prelude.{Bool, IsTrue, cond, nat_le, ◌||◌, codes, Option, Some, None, All}
use Rattle.std.specs.Option.{option_or}
use Rattle.std.proofs.lemmas.Bool.{leb-true, le-leb}
use Rattle.std.proofs.lemmas.List.Elements.{All-head, All-tail, All-nil, All-cons, All-from_get_or}
use Rattle.language_theory.specs.Automaton.{Automaton}
use Rattle.syn_words.specs.Alphabet.{IsAlphabet}
use Rattle.automata.specs.Nfa.{bare}
use Rattle.expression_theory.specs.Expression.{Tree}
use Rattle.expression_theory.specs.Scan.{classes, SpellsTree}
use Rattle.automaton_file.specs.declared.sources.Wrong.{Wrong}
use Rattle.automaton_file.specs.declared.sources.Wrong.TheVariants as wrong
use Rattle.automaton_file.specs.LineText.{text_lines, fields, is_plain, is_significant, parts, behind_first}
use Rattle.automaton_file.specs.Parts.{Lines, SpellsExpression, IsStatesLine, IsStepLine, SpellsAutomaton, most_states}
use Rattle.automaton_file.specs.FileText.{unless, is_expr, state_count, letters_in, part_fault, step_fault, marks_fault, is_whole, BodyText, OfAutomaton, OfExpression, SourceText, SpellsAutomatonFile, SpellsExpressionFile, SpellsBody, IsSource}
use Rattle.automaton_file.specs.Reading.{fault_else, first_fault, automaton_of, IsWellSpelled, ReadsBody, ReadsSource, IsRead}
use Rattle.automaton_file.proofs.PartTests.{first_passed, header_test, alphabet_spelled, spelled_letters, spelled_alphabet, count_of_body, tree_of_body, spelled_count, spelled_count_body, spelled_expression_body, states_of_line, line_of_states, step_of_line, line_of_step}
use Rattle.automaton_file.proofs.Spelled.{read_is_spelled, one_spelled}
use Rattle.automaton_file.proofs.WellSpelled.{well_spelled, spelled_has_no_fault}
use Rattle.automaton_file.proofs.Refusals.{PartsPass, parts_pass}

-- What is read is spelled.

lines_plain : (texts : Lines) → IsWellSpelled texts → All (λ line. IsTrue (is_plain line)) texts
lines_plain texts h =
    All-from_get_or (λ line. IsTrue (is_plain line)) texts []
    (λ i within. (first_passed _ wrong.Byte _ (h.passes i within)).0)

behind_automaton : (b : Bool) (o : Option Wrong) → b ≡ false
    → cond b (Some wrong.OutOfPlace) o ≡ None → o ≡ None
behind_automaton true o e pass = absurd (cc)
behind_automaton false o e pass = pass

steps_spelled : (header letters body initial final : List ℕ) (done steps : Lines)
    → is_expr (fields body) ≡ false → state_count (fields body) ≤ most_states
    → PartsPass (header ∷ letters ∷ body ∷ initial ∷ final ∷ done) steps
    → All (IsStepLine (letters_in letters) (state_count (fields body))) steps
steps_spelled header letters body initial final done [] e few pass =
    All-nil (IsStepLine (letters_in letters) (state_count (fields body)))
steps_spelled header letters body initial final done (line ∷ steps) e few (here, more) =
    All-cons (IsStepLine (letters_in letters) (state_count (fields body))) line steps
    (step_of_line (letters_in letters) (state_count (fields body)) line few
    (behind_automaton (is_expr (fields body)) _ e here))
    (steps_spelled header letters body initial final (done ++ line ∷ []) steps e few more)

automaton_spelled : (header letters body : List ℕ) (more : Lines) (m : Automaton)
    → PartsPass [] (header ∷ letters ∷ body ∷ more)
    → is_whole (header ∷ letters ∷ body ∷ more) ≡ true
    → is_expr (fields body) ≡ false
    → m ≡ automaton_of (letters_in letters)
    (bare (state_count (fields body)) (length (letters_in letters))) more
    → SpellsAutomatonFile (header ∷ letters ∷ body ∷ more) (letters_in letters) m
automaton_spelled header letters body [] m pass whole e same =
    absurd (let two = leb-true 2 0 (ap (λ (b : Bool). b || false) (sym e) ∙ whole) in omega arith)
automaton_spelled header letters body (initial ∷ []) m pass whole e same =
    absurd (let two = leb-true 2 1 (ap (λ (b : Bool). b || false) (sym e) ∙ whole) in omega arith)
automaton_spelled header letters body (initial ∷ final ∷ steps) m
    (p1, (p2, (p3, (p4, (p5, rest))))) whole e same =
    let alphabet = alphabet_spelled letters p2 in
    let states = count_of_body (letters_in letters) body e p3 in
    let first = states_of_line (codes "initial") (state_count (fields body)) initial states.few
    (behind_automaton (is_expr (fields body)) _ e p4) in
    let second = states_of_line (codes "final") (state_count (fields body)) final states.few
    (behind_automaton (is_expr (fields body)) _ e p5) in
    let each = steps_spelled header letters body initial final [] steps e states.few rest in
    record {
      header = header;
      letters = letters;
      body = body;
      initial = initial;
      final = final;
      steps = steps;
      states = state_count (fields body);
      order = refl;
      is_header = (header_test header).0 p1;
      is_alphabet = alphabet;
      is_body = states;
      is_initial = first;
      is_final = second;
      are_steps = each;
      spelled =
          subst (SpellsAutomaton (letters_in letters)
          (state_count (fields body)) initial final steps) (sym same)
          (read_is_spelled (letters_in letters)
          (state_count
          (fields body)) initial final steps alphabet.letters states.few first second each);
    }

nothing_behind : (b : Bool) (o : Option Wrong) → b ≡ true → cond b (Some wrong.OutOfPlace) o ≡ None
    → ⊥
nothing_behind true o e pass = cc
nothing_behind false o e pass = cc

expression_spelled : (header letters body : List ℕ) (more : Lines) (t : Tree)
    → PartsPass [] (header ∷ letters ∷ body ∷ more)
    → is_expr (fields body) ≡ true → SpellsTree (classes (letters_in letters) (behind_first body)) t
    → SpellsExpressionFile (header ∷ letters ∷ body ∷ more) (letters_in letters) t
expression_spelled header letters body (line ∷ more) t (p1, (p2, (p3, (p4, rest)))) e tree =
    absurd (nothing_behind (is_expr (fields body)) _ e p4)
expression_spelled header letters body [] t (p1, (p2, (p3, rest))) e tree =
    let begun = (tree_of_body (letters_in letters) body e p3).1 in
    record {
      header = header;
      letters = letters;
      body = body;
      order = refl;
      is_header = (header_test header).0 p1;
      is_alphabet = alphabet_spelled letters p2;
      is_body =
          record {
            more = begun.more;
            stands = begun.stands;
            accepted = begun.accepted;
            spelled =
                tree;
          };
    }

lines_spelled : (lines : Lines) (source : SourceText) → PartsPass [] lines → is_whole lines ≡ true
    → ReadsSource lines source → SpellsBody lines source.letters source.body
lines_spelled [] source pass whole reads = absurd reads
lines_spelled (header ∷ []) source pass whole reads = absurd reads
lines_spelled (header ∷ letters ∷ []) source pass whole reads = absurd reads
lines_spelled (header ∷ letters ∷ body ∷ more) source pass whole (same, reads) =
    subst (λ (alphabet : List ℕ). SpellsBody (header ∷ letters ∷ body ∷ more) alphabet source.body)
    (sym same) (by source.body reads)
  where
    by : (b : BodyText) → ReadsBody (letters_in letters) body more b
        → SpellsBody (header ∷ letters ∷ body ∷ more) (letters_in letters) b
    by (OfAutomaton m) (e, is) = automaton_spelled header letters body more m pass whole e is
    by (OfExpression t) (e, tree) = expression_spelled header letters body more t pass e tree

pub read_is_source : (bytes : List ℕ) (source : SourceText) → IsRead bytes source
    → IsSource bytes source
read_is_source bytes source h = record {
  short = h.short;
  plain = lines_plain (text_lines bytes) h.spelled;
  spelled =
      lines_spelled (parts (text_lines bytes)) source
      (parts_pass [] 1 (text_lines bytes)
      (spelled_has_no_fault (text_lines bytes) h.spelled)) h.spelled.whole h.same;
}

-- What is spelled is read.

clear_line : (b : Bool) (earlier : Lines) (t : List ℕ) (ts : Lines) (number : ℕ)
    → is_plain t ≡ true → PartsPass earlier (cond b (t ∷ parts ts) (parts ts))
    → is_whole (earlier ++ cond b (t ∷ parts ts) (parts ts)) ≡ true
    → ((e : Lines) → PartsPass e (parts ts) → is_whole (e ++ parts ts) ≡ true
    → first_fault e (number + 1) ts ≡ None)
    → fault_else
    (option_or (unless (is_plain t) wrong.Byte) (cond b (part_fault earlier t) None)) number
    (first_fault (earlier ++ cond b (t ∷ []) []) (number + 1) ts) ≡ None
clear_line true earlier t ts number plain (pass, more) whole next =
    rw (plain, pass)
    (next (earlier ++ t ∷ []) more (ap is_whole (append_assoc earlier (t ∷ []) (parts ts)) ∙ whole))
clear_line false earlier t ts number plain pass whole next =
    rw (plain, append-nil earlier) (next earlier pass whole)

clear_lines : (earlier : Lines) (number : ℕ) (texts : Lines)
    → All (λ line. IsTrue (is_plain line)) texts → PartsPass earlier (parts texts)
    → is_whole (earlier ++ parts texts) ≡ true → first_fault earlier number texts ≡ None
clear_lines earlier number [] plain pass whole =
    ap (λ (b : Bool). cond b None (Some (number, wrong.Missing)))
    (ap is_whole (sym (append-nil earlier)) ∙ whole)
clear_lines earlier number (t ∷ ts) plain pass whole =
    clear_line (is_significant (fields t)) earlier t ts number
    (All-head (λ line. IsTrue (is_plain line)) t ts plain) pass whole
    (λ e p w. clear_lines e (number + 1) ts
    (All-tail (λ line. IsTrue (is_plain line)) t ts plain) p w)

steps_read : (header letters body initial final : List ℕ) (done steps : Lines)
    → IsAlphabet (letters_in letters) → is_expr (fields body) ≡ false
    → state_count (fields body) ≤ most_states
    → All (IsStepLine (letters_in letters) (state_count (fields body))) steps
    → PartsPass (header ∷ letters ∷ body ∷ initial ∷ final ∷ done) steps
steps_read header letters body initial final done [] is e few each = tt
steps_read header letters body initial final done (line ∷ steps) is e few each =
    let (p, a, q, h) = All-head
    (IsStepLine (letters_in letters) (state_count (fields body))) line steps each in (
      ap (λ (b : Bool). cond b (Some wrong.OutOfPlace)
          (step_fault (letters_in letters) (state_count (fields body)) (fields line))) e
          ∙ line_of_step (letters_in letters) (state_count (fields body)) p a q line is few h,
      steps_read header letters body initial final (done ++ line ∷ []) steps is e few
          (All-tail (IsStepLine (letters_in letters) (state_count (fields body))) line steps each),
    )

-- the significant lines pass, none is missing, and they are read as the source
abbrev AreRead : Lines → List ℕ → BodyText → Type 0
AreRead lines alphabet body =
    PartsPass [] lines × (is_whole lines ≡ true)
    × ReadsSource lines (record { letters = alphabet; body = body })

automaton_read : (lines : Lines) (alphabet : List ℕ) (m : Automaton)
    → SpellsAutomatonFile lines alphabet m → AreRead lines alphabet (OfAutomaton m)
automaton_read lines alphabet m h =
    subst (λ (ls : Lines). AreRead ls alphabet (OfAutomaton m)) (sym h.order) (
      (
        (header_test h.header).1 h.is_header,
        (
          spelled_alphabet alphabet h.letters h.is_alphabet,
          (
            spelled_count_body (letters_in h.letters) h.states h.body h.is_body,
            (
              marks (codes "initial") h.initial h.is_initial,
              (
                marks (codes "final") h.final h.is_final,
                steps_read h.header h.letters h.body h.initial h.final [] h.steps is no_expr few
                    each,
              ),
            ),
          ),
        ),
      ),
      ap (λ (b : Bool). b || nat_le 2 (length (h.initial ∷ h.final ∷ h.steps))) no_expr
          ∙ le-leb 2 (length (h.initial ∷ h.final ∷ h.steps)) (omega arith),
      (same, (no_expr, read)),
    )
  where
    same : alphabet ≡ letters_in h.letters
    same = spelled_letters alphabet h.letters h.is_alphabet

    is : IsAlphabet (letters_in h.letters)
    is = subst IsAlphabet same h.is_alphabet.letters

    no_expr : is_expr (fields h.body) ≡ false
    no_expr = ap is_expr h.is_body.stands

    count : state_count (fields h.body) ≡ h.states
    count = spelled_count h.states h.body h.is_body

    few : state_count (fields h.body) ≤ most_states
    few = omega (arith, count, h.is_body.few)

    marks : (word line : List ℕ) → IsStatesLine word h.states line
        → cond (is_expr (fields h.body)) (Some wrong.OutOfPlace)
        (marks_fault word (state_count (fields h.body)) (fields line)) ≡ None
    marks word line is_line =
        ap (λ (b : Bool). cond b (Some wrong.OutOfPlace)
        (marks_fault word (state_count (fields h.body)) (fields line))) no_expr
        ∙ ap (λ (n : ℕ). marks_fault word n (fields line)) count
        ∙ line_of_states word h.states line h.is_body.few is_line

    each : All (IsStepLine (letters_in h.letters) (state_count (fields h.body))) h.steps
    each =
        subst (λ (n : ℕ). All (IsStepLine (letters_in h.letters) n) h.steps) (sym count)
        (subst (λ (a : List ℕ). All (IsStepLine a h.states) h.steps) same h.are_steps)

    read : m ≡ automaton_of (letters_in h.letters)
        (bare (state_count (fields h.body)) (length (letters_in h.letters)))
        (h.initial ∷ h.final ∷ h.steps)
    read =
        one_spelled alphabet h.states h.initial h.final h.steps m _ h.spelled
        (read_is_spelled alphabet h.states h.initial h.final h.steps h.is_alphabet.letters
        h.is_body.few h.is_initial h.is_final h.are_steps)
        ∙ ap (λ (a : List ℕ). automaton_of a (bare h.states (length a))
        (h.initial ∷ h.final ∷ h.steps)) same
        ∙ ap (λ (n : ℕ). automaton_of (letters_in h.letters)
        (bare n (length (letters_in h.letters))) (h.initial ∷ h.final ∷ h.steps)) (sym count)

expression_read : (lines : Lines) (alphabet : List ℕ) (t : Tree)
    → SpellsExpressionFile lines alphabet t → AreRead lines alphabet (OfExpression t)
expression_read lines alphabet t h =
    subst (λ (ls : Lines). AreRead ls alphabet (OfExpression t)) (sym h.order) (
      (
        (header_test h.header).1 h.is_header,
        (
          spelled_alphabet alphabet h.letters h.is_alphabet,
          (spelled_expression_body (letters_in h.letters) t h.body body, tt),
        ),
      ),
      ap (λ (b : Bool). b || false) expr,
      (same, (expr, body.spelled)),
    )
  where
    same : alphabet ≡ letters_in h.letters
    same = spelled_letters alphabet h.letters h.is_alphabet

    body : SpellsExpression (letters_in h.letters) t h.body
    body = subst (λ (a : List ℕ). SpellsExpression a t h.body) same h.is_body

    expr : is_expr (fields h.body) ≡ true
    expr = ap is_expr h.is_body.stands

lines_read : (lines : Lines) (alphabet : List ℕ) (body : BodyText) → SpellsBody lines alphabet body
    → AreRead lines alphabet body
lines_read lines alphabet (OfAutomaton m) h = automaton_read lines alphabet m h
lines_read lines alphabet (OfExpression t) h = expression_read lines alphabet t h

pub source_is_read : (bytes : List ℕ) (source : SourceText) → IsSource bytes source
    → IsRead bytes source
source_is_read bytes source h =
    let (pass, whole, reads) = lines_read
    (parts (text_lines bytes)) source.letters source.body h.spelled in
    record {
      short = h.short;
      spelled = well_spelled (text_lines bytes)
          (clear_lines [] 1 (text_lines bytes) h.plain pass whole);
      same = reads;
    }
