-- The refusal of a text by its first fault.
use Rattle.std.proofs.Common.{◌≡◌, ◌<◌, ◌≤◌, ℕ, zero, suc, ◌+◌, List, [], ◌∷◌, ◌++◌, length, take, refl, sym, ap, ◌∙◌, arith, true, false, append-nil, inl, inr, subst}
use Rattle.std.specs.Prelude.{Bool, cond, Option, Some, None, nat_lt, ◌⊎◌, ⊤, slice_index_or}
use Rattle.std.specs.Option.{option_or, unwrap_or}
use Rattle.std.proofs.lemmas.Bool.{lt-ltb, le-ltb, cases_lt}
use Rattle.automaton_file.specs.declared.sources.Wrong.{Wrong}
use Rattle.automaton_file.specs.declared.sources.Wrong.TheVariants as wrong
use Rattle.automaton_file.specs.LineText.{text_lines, fields, is_plain, is_significant, parts, behind_first}
use Rattle.automaton_file.specs.FileText.{most_bytes, unless, line_fault, part_fault, is_whole, is_expr, state_count, letters_in, body_fault, BodyText, OfAutomaton, OfExpression, SourceText, IsWrong, code_of, IsRefusal, too_long, bad_line, missing_part}
use Rattle.automaton_file.specs.Parts.{Lines}
use Rattle.automaton_file.specs.Reading.{IsRead, automaton_of, ReadsBody, ReadsSource, fault_else, first_fault}
use Rattle.automata.specs.Nfa.{bare}
use Rattle.expression_theory.specs.Scan.{classes}
use Rattle.expression_theory.proofs.Texts.{accepted_tree}
use Rattle.automaton_file.proofs.Expressions.{test_accepted, expression_passes}
use Rattle.automaton_file.proofs.WellSpelled.{parts_behind, no_fault, well_spelled, spelled_has_no_fault}

-- the fault of line i of texts that stand behind earlier parts
abbrev fault_behind : Lines → List (List ℕ) → ℕ → Option Wrong
fault_behind earlier texts i =
    line_fault (earlier ++ parts (take i texts)) (slice_index_or texts i [])

fault_first : (earlier : Lines) (t : List ℕ) (ts : List (List ℕ))
    → fault_behind earlier (t ∷ ts) zero ≡ line_fault earlier t
fault_first earlier t ts = ap (λ (p : Lines). line_fault p t) (append-nil earlier)

fault_next : (earlier : Lines) (t : List ℕ) (ts : List (List ℕ)) (i : ℕ)
    → fault_behind earlier (t ∷ ts) (suc i) ≡ fault_behind (earlier ++ parts (t ∷ [])) ts i
fault_next earlier t ts i =
    ap (λ (p : Lines). line_fault p (slice_index_or ts i [])) (parts_behind earlier t (take i ts))

-- a line is the first bad one, or all pass and a part is missing
abbrev IsFirst : Lines → ℕ → List (List ℕ) → ℕ → Wrong → Type 0
IsFirst earlier number texts line code =
    ((place : ℕ) × (place < length texts) × (line ≡ number + place)
    × (fault_behind earlier texts place ≡ Some code)
    × ((i : ℕ) → i < place → fault_behind earlier texts i ≡ None))
    ⊎ ((line ≡ number + length texts) × (code ≡ wrong.Missing)
    × (is_whole (earlier ++ parts texts) ≡ false)
    × ((i : ℕ) → i < length texts → fault_behind earlier texts i ≡ None))

pub same_pair : (x y : ℕ × Wrong) → Some x ≡ Some y → (x.0 ≡ y.0) × (x.1 ≡ y.1)
same_pair x y e =
    let same : x ≡ y = ap (λ (o : Option (ℕ × Wrong)). unwrap_or o x) e in
    (ap (λ (p : ℕ × Wrong). p.0) same, ap (λ (p : ℕ × Wrong). p.1) same)

missing_at_end : (b : Bool) (number line : ℕ) (code : Wrong)
    → cond {A = Option (ℕ × Wrong)} b None (Some (number, wrong.Missing)) ≡ Some (line, code)
    → (line ≡ number) × (code ≡ wrong.Missing) × (b ≡ false)
missing_at_end true number line code e = absurd (cc)
missing_at_end false number line code e =
    let same = same_pair (number, wrong.Missing) (line, code) e in (sym same.0, sym same.1, refl)

-- what holds of each of some lines, where it holds of the first one and of those behind it
each_line : (P : ℕ → Type 0) (n : ℕ) → P zero → ((i : ℕ) → i < n → P (suc i)) → (i : ℕ) → i < suc n
    → P i
each_line P n first more zero h = first
each_line P n first more (suc i) h = more i (omega arith)

first_step : (earlier : Lines) (number : ℕ) (t : List ℕ) (ts : List (List ℕ)) (line : ℕ)
    (code : Wrong)
    → (first_fault (earlier ++ parts (t ∷ [])) (number + 1) ts ≡ Some (line, code)
    → IsFirst (earlier ++ parts (t ∷ [])) (number + 1) ts line code)
    → first_fault earlier number (t ∷ ts) ≡ Some (line, code)
    → IsFirst earlier number (t ∷ ts) line code
first_step earlier number t ts line code more e = by (line_fault earlier t) refl
  where
    behind : IsFirst (earlier ++ parts (t ∷ [])) (number + 1) ts line code
        → line_fault earlier t ≡ None → IsFirst earlier number (t ∷ ts) line code
    behind (inl (place, within, same, fails, before)) pass =
        inl (
          suc place,
          omega arith,
          omega (arith, same),
          fault_next earlier t ts place ∙ fails,
          each_line (λ i. fault_behind earlier (t ∷ ts) i ≡ None) place (fault_first earlier t ts
              ∙ pass) (λ i h. fault_next earlier t ts i ∙ before i h),
        )
    behind (inr (same, seven, missing, pass_all)) pass =
        inr (
          omega (arith, same),
          seven,
          ap is_whole (parts_behind earlier t ts) ∙ missing,
          each_line (λ i. fault_behind earlier (t ∷ ts) i ≡ None) (length ts)
              (fault_first earlier t ts ∙ pass) (λ i h. fault_next earlier t ts i ∙ pass_all i h),
        )

    here : (c : Wrong) → line_fault earlier t ≡ Some c → (number ≡ line) × (c ≡ code)
        → IsFirst earlier number (t ∷ ts) line code
    here c o at =
        inl (
          zero,
          omega arith,
          omega (arith, at.0),
          fault_first earlier t ts ∙ o
              ∙ ap Some at.1,
          λ i h. absurd (omega arith),
        )

    by : (o : Option Wrong) → line_fault earlier t ≡ o → IsFirst earlier number (t ∷ ts) line code
    by (Some c) o =
        here c o (same_pair (number, c) (line, code)
        (ap (λ (f : Option Wrong). fault_else f number
        (first_fault (earlier ++ parts (t ∷ [])) (number + 1) ts)) (sym o) ∙ e))
    by None o =
        behind (more
        (ap (λ (f : Option Wrong). fault_else f number
        (first_fault (earlier ++ parts (t ∷ [])) (number + 1) ts)) (sym o) ∙ e)) o

first_is : (earlier : Lines) (number : ℕ) (texts : List (List ℕ)) (line : ℕ) (code : Wrong)
    → first_fault earlier number texts ≡ Some (line, code) → IsFirst earlier number texts line code
first_is earlier number [] line code e =
    let end = missing_at_end (is_whole earlier) number line code e in
    inr (
      omega (arith, end.0),
      end.1,
      ap is_whole (append-nil earlier)
          ∙ end.2,
      λ i h. absurd (omega arith),
    )
first_is earlier number (t ∷ ts) line code e =
    first_step earlier number t ts line code
    (first_is (earlier ++ parts (t ∷ [])) (number + 1) ts line code) e

-- the first bad line is the first fault
bad_found : (earlier : Lines) (number : ℕ) (texts : List (List ℕ)) (place : ℕ) (code : Wrong)
    → place < length texts → fault_behind earlier texts place ≡ Some code
    → ((i : ℕ) → i < place → fault_behind earlier texts i ≡ None)
    → first_fault earlier number texts ≡ Some (number + place, code)
bad_found earlier number [] place code h fails before = absurd (omega arith)
bad_found earlier number (t ∷ ts) zero code h fails before =
    let same : number ≡ number + zero = omega arith in
    ap (λ (f : Option Wrong). fault_else f number
    (first_fault (earlier ++ parts (t ∷ [])) (number + 1) ts)) (sym (fault_first earlier t ts)
    ∙ fails) ∙ ap (λ (n : ℕ). Some (n, code)) same
bad_found earlier number (t ∷ ts) (suc place) code h fails before =
    let same : number + 1 + place ≡ number + suc place = omega arith in
    ap (λ (f : Option Wrong). fault_else f number
    (first_fault (earlier ++ parts (t ∷ [])) (number + 1) ts)) (sym (fault_first earlier t ts)
    ∙ before zero (omega arith))
    ∙ bad_found (earlier ++ parts (t ∷ [])) (number + 1) ts place code (omega arith)
    (sym (fault_next earlier t ts place) ∙ fails) (λ i k. sym (fault_next earlier t ts i)
    ∙ before (suc i) (omega arith))
    ∙ ap (λ (n : ℕ). Some (n, code)) same

-- a missing part is the first fault where all lines pass
missing_found : (earlier : Lines) (number : ℕ) (texts : List (List ℕ))
    → ((i : ℕ) → i < length texts → fault_behind earlier texts i ≡ None)
    → is_whole (earlier ++ parts texts) ≡ false
    → first_fault earlier number texts ≡ Some (number + length texts, wrong.Missing)
missing_found earlier number [] pass missing =
    let same : number ≡ number + length {A = List ℕ} [] = omega arith in
    ap (λ (b : Bool). cond b None (Some (number, wrong.Missing)))
    (ap is_whole (sym (append-nil earlier)) ∙ missing)
    ∙ ap (λ (n : ℕ). Some (n, wrong.Missing)) same
missing_found earlier number (t ∷ ts) pass missing =
    let same : number + 1 + length ts ≡ number + length (t ∷ ts) = omega arith in
    ap (λ (f : Option Wrong). fault_else f number
    (first_fault (earlier ++ parts (t ∷ [])) (number + 1) ts)) (sym (fault_first earlier t ts)
    ∙ pass zero (omega arith))
    ∙ missing_found (earlier ++ parts (t ∷ [])) (number + 1) ts
    (λ i k. sym (fault_next earlier t ts i)
    ∙ pass (suc i) (omega arith)) (ap is_whole (sym (parts_behind earlier t ts)) ∙ missing)
    ∙ ap (λ (n : ℕ). Some (n, wrong.Missing)) same

-- the first fault as a refusal
pub fault_is_wrong : (bytes : List ℕ) (line : ℕ) (code : Wrong) → length bytes ≤ most_bytes
    → first_fault [] 1 (text_lines bytes) ≡ Some (line, code) → IsWrong bytes line code
fault_is_wrong bytes line code short e = by (first_is [] 1 (text_lines bytes) line code e)
  where
    by : IsFirst [] 1 (text_lines bytes) line code → IsWrong bytes line code
    by (inl (place, within, same, fails, before)) =
        bad_line short
        (record {
          place = place;
          within = within;
          number = omega
              (arith, same);
          fails = fails;
          before = before;
        })
    by (inr (same, seven, missing, pass)) =
        let at : length (text_lines bytes) + 1 ≡ line = omega (arith, same) in
        subst (λ (n : ℕ). IsWrong bytes n code) at
        (subst (λ (c : Wrong). IsWrong bytes (length (text_lines bytes) + 1) c) (sym seven)
        (missing_part short (record { passes = pass; missing = missing })))

-- The answer to a text: nothing where it spells a source, else its refusal.
abbrev pub answer : List ℕ → Option (ℕ × Wrong)
answer bytes =
    cond (nat_lt most_bytes (length bytes)) (Some (0, wrong.TooLong))
    (first_fault [] 1 (text_lines bytes))

answer_short : (bytes : List ℕ) → length bytes ≤ most_bytes
    → answer bytes ≡ first_fault [] 1 (text_lines bytes)
answer_short bytes h =
    ap (λ (b : Bool). cond b (Some (0, wrong.TooLong)) (first_fault [] 1 (text_lines bytes)))
    (le-ltb most_bytes (length bytes) h)

pub wrong_answer : (bytes : List ℕ) (at : ℕ) (code : Wrong) → IsWrong bytes at code
    → answer bytes ≡ Some (at, code)
wrong_answer bytes at code (too_long h) =
    ap (λ (b : Bool). cond b (Some (0, wrong.TooLong)) (first_fault [] 1 (text_lines bytes)))
    (lt-ltb most_bytes (length bytes) h)
wrong_answer bytes at code (bad_line h k) =
    let same : 1 + k.place ≡ at = omega (arith, k.number) in
    answer_short bytes h ∙ bad_found [] 1 (text_lines bytes) k.place code k.within k.fails k.before
    ∙ ap (λ (n : ℕ). Some (n, code)) same
wrong_answer bytes at code (missing_part h k) =
    let same : 1 + length (text_lines bytes) ≡ length (text_lines bytes) + 1 = omega arith in
    answer_short bytes h ∙ missing_found [] 1 (text_lines bytes) k.passes k.missing
    ∙ ap (λ (n : ℕ). Some (n, wrong.Missing)) same

pub source_answer : (bytes : List ℕ) (s : SourceText) → IsRead bytes s → answer bytes ≡ None
source_answer bytes s h =
    answer_short bytes h.short ∙ spelled_has_no_fault (text_lines bytes) h.spelled

pub refusal_answer : (bytes : List ℕ) (at code : ℕ) → IsRefusal bytes at code → (fault : Wrong)
    × (code ≡ code_of fault) × (answer bytes ≡ Some (at, fault))
refusal_answer bytes at code h = (h.fault, h.number, wrong_answer bytes at h.fault h.is_wrong)

-- what the reader finds is the refusal
pub fault_refusal : (bytes : List ℕ) (line code : ℕ) (fault : Wrong) → length bytes ≤ most_bytes
    → first_fault [] 1 (text_lines bytes) ≡ Some (line, fault) → code ≡ code_of fault
    → IsRefusal bytes line code
fault_refusal bytes line code fault short found number =
    record {
      fault = fault;
      is_wrong = fault_is_wrong bytes line fault short found;
      number =
          number;
    }

-- a body line that passes its tests spells a body
some_body : (letters line : List ℕ) (more : Lines) → body_fault letters line ≡ None
    → (body : BodyText) × ReadsBody letters line more body
some_body letters line more pass = by (is_expr (fields line)) refl
  where
    by : (b : Bool) → is_expr (fields line) ≡ b → (body : BodyText)
        × ReadsBody letters line more body
    by false e = (
      OfAutomaton
          (automaton_of letters (bare (state_count (fields line)) (length letters)) more),
      (e, refl),
    )
    by true e =
        let tree = accepted_tree (classes letters (behind_first line))
        (test_accepted _ (expression_passes letters line pass e)) in
        (OfExpression tree.0, (e, tree.1))

-- each of the lines passes its test, behind earlier ones
abbrev pub PartsPass : Lines → Lines → Type 0
PartsPass earlier [] = ⊤
PartsPass earlier (line ∷ more) =
    (part_fault earlier line ≡ None) × PartsPass (earlier ++ line ∷ []) more

second_none : (p : Bool) (o : Option Wrong) → option_or (unless p wrong.Byte) o ≡ None → o ≡ None
second_none true o e = e
second_none false o e = absurd (let no : Some wrong.Byte ≡ None = e in cc)

pub parts_pass : (earlier : Lines) (number : ℕ) (texts : Lines)
    → first_fault earlier number texts ≡ None → PartsPass earlier (parts texts)
parts_pass earlier number [] e = tt
parts_pass earlier number (t ∷ ts) e =
    let both = no_fault (line_fault earlier t) number
    (first_fault (earlier ++ parts (t ∷ [])) (number + 1) ts) e in
    by (is_significant (fields t)) both.0
    (parts_pass (earlier ++ parts (t ∷ [])) (number + 1) ts both.1)
  where
    by : (b : Bool)
        → option_or (unless (is_plain t) wrong.Byte) (cond b (part_fault earlier t) None) ≡ None
        → PartsPass (earlier ++ cond b (t ∷ []) []) (parts ts)
        → PartsPass earlier (cond b (t ∷ parts ts) (parts ts))
    by true pass more = (second_none (is_plain t) (part_fault earlier t) pass, more)
    by false pass more = subst (λ (es : Lines). PartsPass es (parts ts)) (append-nil earlier) more

some_source : (parts : Lines) → is_whole parts ≡ true → PartsPass [] parts → (s : SourceText)
    × ReadsSource parts s
some_source [] whole pass = absurd (cc)
some_source (header ∷ []) whole pass = absurd (cc)
some_source (header ∷ alphabet ∷ []) whole pass = absurd (cc)
some_source (header ∷ alphabet ∷ body ∷ more) whole (first, (second, (third, rest))) =
    let spelled = some_body (letters_in alphabet) body more third in
    (record { letters = letters_in alphabet; body = spelled.0 }, (refl, spelled.1))

-- a text is read as a source or refused
pub read_or_refusal : (bytes : List ℕ) → ((s : SourceText) × IsRead bytes s)
    ⊎ ((at code : ℕ) × IsRefusal bytes at code)
read_or_refusal bytes = by_length (cases_lt most_bytes (length bytes))
  where
    by_fault : length bytes ≤ most_bytes → (o : Option (ℕ × Wrong))
        → first_fault [] 1 (text_lines bytes) ≡ o → ((s : SourceText) × IsRead bytes s)
        ⊎ ((at code : ℕ) × IsRefusal bytes at code)
    by_fault short None e =
        let spelled = well_spelled (text_lines bytes) e in
        let source = some_source (parts (text_lines bytes)) spelled.whole
        (parts_pass [] 1 (text_lines bytes) e) in
        inl (source.0, record { short = short; spelled = spelled; same = source.1 })
    by_fault short (Some (line, fault)) e =
        inr (line, code_of fault, fault_refusal bytes line (code_of fault) fault short e refl)

    by_length : (most_bytes < length bytes) ⊎ (length bytes ≤ most_bytes)
        → ((s : SourceText) × IsRead bytes s) ⊎ ((at code : ℕ) × IsRefusal bytes at code)
    by_length (inl long) =
        inr (0, 11, record { fault = wrong.TooLong; is_wrong = too_long long; number = refl })
    by_length (inr short) = by_fault short (first_fault [] 1 (text_lines bytes)) refl
