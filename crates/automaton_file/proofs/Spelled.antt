-- The automaton that is read is the one that the lines spell.
use Rattle.std.proofs.Common.{◌≡◌, ◌≢◌, ◌^◌, ◌<◌, ◌≤◌, ℕ, zero, suc, List, [], ◌∷◌, length, drop, replicate, refl, sym, ap, ◌∙◌, arith, true, false, inl, inr, subst, ◌⊎◌}
use Rattle.std.specs.Prelude.{Bool, IsTrue, Option, ◌&&◌, ◌||◌, ◌==◌, ◌↔◌, codes, slice_index, slice_set, All}
use Rattle.std.specs.Option.{unwrap_or}
use Rattle.std.specs.Fmt.{decimal}
use Rattle.std.specs.List.{list_any, Any, AllZip}
use Rattle.std.proofs.Math.Bool.{or-false}
use Rattle.std.proofs.lemmas.Bool.{and_parts, and_from, or_cases, or_left, or_right, eqb-true, eq-eqb, cases_eq, cases_order}
use Rattle.std.proofs.lemmas.Fmt.{decimal_injective}
use Rattle.std.proofs.lemmas.List.{get_or-set_other, length-set, length-replicate, get_or-replicate}
use Rattle.std.proofs.lemmas.Grind.{get_or-set_at}
use Rattle.std.proofs.lemmas.List.Elements.{All-head, All-tail, All-nil, All-cons}
use Rattle.language_theory.specs.Automaton.{Automaton, IsAutomaton, IsInOrder, is_initial, is_final, is_marked, is_step, has_step}
use Rattle.language_theory.proofs.StepLists.{steps_alike}
use Rattle.language_theory.proofs.OneAutomaton.{by_same, same_row, same_fields}
use Rattle.syn_words.specs.Alphabet.{IsAlphabet}
use Rattle.automata.specs.Nfa.{bare, with_initial, with_final, with_step}
use Rattle.automata.proofs.Steps.{adding_a_step, with_step_automaton, with_step_ordered, nothing_in_order}
use Rattle.automaton_file.specs.LineText.{fields, value}
use Rattle.automaton_file.specs.Parts.{Lines, Fields, SpellsNumber, IsState, IsStatesLine, Names, SpellsStep, IsStepLine, SpellsAutomaton, most_states}
use Rattle.automaton_file.specs.FileText.{letter_of}
use Rattle.automaton_file.specs.Reading.{with_marks, with_line, with_step_line, with_step_lines, automaton_of}
use Rattle.automaton_file.proofs.Digits.{value_decimal}
use Rattle.automaton_file.proofs.PartTests.{spelled_letter}

-- what holds of some element of a list

any_here : {X : Type 0} (P : X → Type 0) (x : X) (xs : List X) → P x → Any P (x ∷ xs)
any_here P x xs h = (0, x, omega arith, refl, h)

any_there : {X : Type 0} (P : X → Type 0) (x : X) (xs : List X) → Any P xs → Any P (x ∷ xs)
any_there P x xs (k, y, within, is, h) = (suc k, y, omega arith, is, h)

any_cases : {X : Type 0} (P : X → Type 0) (x : X) (xs : List X) → Any P (x ∷ xs) → P x ⊎ Any P xs
any_cases P x xs (zero, y, within, is, h) = inl (subst P (sym is) h)
any_cases P x xs (suc k, y, within, is, h) = inr (k, y, omega arith, is, h)

any_nothing : {X : Type 0} (P : X → Type 0) → ¬ Any P []
any_nothing P (k, y, within, is, h) = absurd (omega arith)

-- rows of marks

-- a row with the places marked that the fields spell
abbrev row_with : List Bool → Fields → List Bool
row_with row [] = row
row_with row (field ∷ more) = row_with (slice_set row (value field) true) more

initials : (m : Automaton) (fs : Fields)
    → with_marks with_initial m fs ≡ record m { initial = row_with m.initial fs }
initials m [] = refl
initials m (f ∷ fs) = initials (with_initial m (value f)) fs

finals : (m : Automaton) (fs : Fields)
    → with_marks with_final m fs ≡ record m { finals = row_with m.finals fs }
finals m [] = refl
finals m (f ∷ fs) = finals (with_final m (value f)) fs

line_marks : (mark : Automaton → ℕ → Automaton) (m : Automaton) (line : Fields)
    → with_line mark m line ≡ with_marks mark m (drop 1 line)
line_marks mark m [] = refl
line_marks mark m (word ∷ numbers) = refl

length-row : (row : List Bool) (fs : Fields) → length (row_with row fs) ≡ length row
length-row row [] = refl
length-row row (f ∷ fs) =
    length-row (slice_set row (value f) true) fs ∙ length-set row (value f) true

-- a field that spells a state spells the number that it has
state_value : (states p : ℕ) (field : List ℕ) → states ≤ most_states → IsState states field
    → value field ≡ p → SpellsNumber p field
state_value states p field few (q, below, spelled) e =
    spelled ∙ ap decimal (sym (value_decimal q (omega arith)) ∙ sym (ap value spelled) ∙ e)

marked_is : (row : List Bool) (states : ℕ) (fs : Fields) (p : ℕ) → states ≤ most_states
    → All (IsState states) fs → IsTrue (is_marked (row_with row fs) p)
    → IsTrue (is_marked row p) ⊎ Any (SpellsNumber p) fs
marked_is row states [] p few each h = inl h
marked_is row states (f ∷ fs) p few each h =
    behind (marked_is (slice_set row (value f) true) states fs p few
    (All-tail (IsState states) f fs each) h)
  where
    here : (p ≡ value f) ⊎ (p ≢ value f) → IsTrue (is_marked (slice_set row (value f) true) p)
        → IsTrue (is_marked row p) ⊎ Any (SpellsNumber p) (f ∷ fs)
    here (inl same) k =
        inr (any_here (SpellsNumber p) f fs
        (state_value states p f few (All-head (IsState states) f fs each) (sym same)))
    here (inr other) k = inl (sym (get_or-set_other row (value f) p true false other) ∙ k)

    behind : IsTrue (is_marked (slice_set row (value f) true) p) ⊎ Any (SpellsNumber p) fs
        → IsTrue (is_marked row p) ⊎ Any (SpellsNumber p) (f ∷ fs)
    behind (inl k) = here (cases_eq p (value f)) k
    behind (inr any) = inr (any_there (SpellsNumber p) f fs any)

is_marked_with : (row : List Bool) (fs : Fields) (p : ℕ) → p < 2 ^ 64 → p < length row
    → IsTrue (is_marked row p) ⊎ Any (SpellsNumber p) fs → IsTrue (is_marked (row_with row fs) p)
is_marked_with row [] p small within (inl h) = h
is_marked_with row [] p small within (inr any) = absurd (any_nothing (SpellsNumber p) any)
is_marked_with row (f ∷ fs) p small within h =
    is_marked_with (slice_set row (value f) true) fs p small
    (omega (arith, length-set row (value f) true)) (by h)
  where
    set_here : p ≡ value f → IsTrue (is_marked (slice_set row (value f) true) p)
    set_here e = get_or-set_at row (value f) p true false e (omega arith)

    kept : (p ≡ value f) ⊎ (p ≢ value f) → IsTrue (is_marked row p)
        → IsTrue (is_marked (slice_set row (value f) true) p)
    kept (inl e) k = set_here e
    kept (inr other) k = get_or-set_other row (value f) p true false other ∙ k

    spelled : SpellsNumber p f ⊎ Any (SpellsNumber p) fs
        → IsTrue (is_marked (slice_set row (value f) true) p) ⊎ Any (SpellsNumber p) fs
    spelled (inl e) = inl (set_here (sym (ap value e ∙ value_decimal p small)))
    spelled (inr any) = inr any

    by : IsTrue (is_marked row p) ⊎ Any (SpellsNumber p) (f ∷ fs)
        → IsTrue (is_marked (slice_set row (value f) true) p) ⊎ Any (SpellsNumber p) fs
    by (inl k) = inl (kept (cases_eq p (value f)) k)
    by (inr any) = spelled (any_cases (SpellsNumber p) f fs any)

-- a row without marks, with those of a line
row_of_line : (word line : List ℕ) (states p : ℕ) → states ≤ most_states
    → IsStatesLine word states line
    → p < states
    → IsTrue (is_marked (row_with (replicate states false) (drop 1 (fields line))) p) ↔ Names line p
row_of_line word line states p few h within = (
  λ k. to (marked_is (replicate states false) states
      (drop 1 (fields line)) p few each k),
  λ any. is_marked_with (replicate states false)
      (drop 1 (fields line)) p (omega arith) (omega (arith, length-replicate states false))
      (inr any),
)
  where
    each : All (IsState states) (drop 1 (fields line))
    each = subst (λ (fs : Fields). All (IsState states) (drop 1 fs)) (sym h.stands) h.each

    to : IsTrue (is_marked (replicate states false) p) ⊎ Names line p → Names line p
    to (inl k) =
        let none : false ≡ true = sym (get_or-replicate states p false false within)
        ∙ k in absurd (cc)
    to (inr any) = any

-- steps

abbrev Step : Type 0
Step = ℕ × ℕ × ℕ

-- the automaton with these steps too
abbrev pub with_steps : Automaton → List (ℕ × ℕ × ℕ) → Automaton
with_steps m [] = m
with_steps m (s ∷ more) = with_steps (with_step m s.0 s.1 s.2) more

-- the step leads from a state to a state by a letter
abbrev pub IsStepOf : Automaton → ℕ × ℕ × ℕ → Type 0
IsStepOf m s = (s.0 < m.states) × (s.1 < m.letters) × (s.2 < m.states)

-- nothing but the steps changes
pub steps_alone : (m : Automaton) (xs : List (ℕ × ℕ × ℕ))
    → with_steps m xs ≡ record m { steps = (with_steps m xs).steps }
steps_alone m [] = refl
steps_alone m (s ∷ xs) = steps_alone (with_step m s.0 s.1 s.2) xs

steps_automaton : (m : Automaton) (xs : List Step) → IsAutomaton m → IsAutomaton (with_steps m xs)
steps_automaton m [] good = good
steps_automaton m (s ∷ xs) good =
    steps_automaton (with_step m s.0 s.1 s.2) xs (with_step_automaton m s.0 s.1 s.2 good)

-- steps that stand in order still do with further ones
pub steps_ordered : (m : Automaton) (xs : List (ℕ × ℕ × ℕ)) → IsInOrder m
    → IsInOrder (with_steps m xs)
steps_ordered m [] ordered = ordered
steps_ordered m (s ∷ xs) ordered =
    steps_ordered (with_step m s.0 s.1 s.2) xs (with_step_ordered m s.0 s.1 s.2 ordered)

or_assoc : (a b c : Bool) → ((a || b) || c) ≡ (a || (b || c))
or_assoc true b c = refl
or_assoc false b c = refl

pub has_steps : (m : Automaton) (xs : List (ℕ × ℕ × ℕ)) (p a q : ℕ) → IsAutomaton m
    → All (IsStepOf m) xs
    → has_step (with_steps m xs) p a q ≡ (has_step m p a q || list_any (is_step p a q) xs)
has_steps m [] p a q good each = sym (or-false _)
has_steps m (s ∷ xs) p a q good each =
    let (from, letter, to) = All-head (IsStepOf m) s xs each in
    has_steps (with_step m s.0 s.1 s.2) xs p a q (with_step_automaton m s.0 s.1 s.2 good)
    (All-tail (IsStepOf m) s xs each)
    ∙ ap (λ (b : Bool). b || list_any (is_step p a q) xs)
    (adding_a_step m s.0 s.1 s.2 p a q good from letter to)
    ∙ or_assoc (has_step m p a q) (is_step p a q s) (list_any (is_step p a q) xs)

-- the line spells the step
abbrev Spells : List ℕ → ℕ → List ℕ → Step → Type 0
Spells alphabet states line s = SpellsStep alphabet states s.0 s.1 s.2 line

same_letter : (alphabet : List ℕ) (a b : ℕ) → IsAlphabet alphabet → a < length alphabet
    → b < length alphabet → slice_index alphabet a ≡ slice_index alphabet b → a ≡ b
same_letter alphabet a b is ha hb e = by (cases_order a b)
  where
    by : (a ≡ b) ⊎ ((a < b) ⊎ (b < a)) → a ≡ b
    by (inl same) = same
    by (inr (inl below)) = absurd (is.distinct a b below hb e)
    by (inr (inr above)) = absurd (is.distinct b a above ha (sym e))

-- a line spells one step
one_step : (alphabet : List ℕ) (states p a q x b y : ℕ) (line : List ℕ) → IsAlphabet alphabet
    → states ≤ most_states → SpellsStep alphabet states p a q line
    → SpellsStep alphabet states x b y line
    → (p ≡ x) × (a ≡ b) × (q ≡ y)
one_step alphabet states p a q x b y line is few h k =
    let e : decimal p ∷ (slice_index alphabet a ∷ []) ∷ decimal q ∷ [] ≡ decimal x ∷
    (slice_index alphabet b ∷ []) ∷ decimal y ∷ [] = sym h.stands ∙ k.stands in
    let from : decimal p ≡ decimal x = cc in
    let letter : slice_index alphabet a ≡ slice_index alphabet b = cc in
    let to : decimal q ≡ decimal y = cc in (
      decimal_injective p x (omega (arith, h.from_state)) (omega (arith, k.from_state)) from,
      same_letter alphabet a b is h.of_alphabet k.of_alphabet letter,
      decimal_injective q y (omega (arith, h.to_state)) (omega (arith, k.to_state)) to,
    )

line_step : (alphabet : List ℕ) (states p a q : ℕ) (m : Automaton) (line : List ℕ)
    → IsAlphabet alphabet → states ≤ most_states → SpellsStep alphabet states p a q line
    → with_step_line alphabet m (fields line) ≡ with_step m p a q
line_step alphabet states p a q m line is few h =
    ap (with_step_line alphabet m) h.stands
    ∙ ap (λ (x : ℕ). with_step m x (unwrap_or (letter_of alphabet (slice_index alphabet a ∷ [])) 0)
    (value (decimal q))) (value_decimal p (omega (arith, h.from_state)))
    ∙ ap (λ (o : Option ℕ). with_step m p (unwrap_or o 0) (value (decimal q)))
    (spelled_letter alphabet a (slice_index alphabet a ∷ []) is (h.of_alphabet, refl))
    ∙ ap (with_step m p a) (value_decimal q (omega (arith, h.to_state)))

-- the steps that the lines spell, and the automaton with them
lines_steps : (alphabet : List ℕ) (states : ℕ) (m : Automaton) (lines : Lines)
    → IsAlphabet alphabet → states ≤ most_states → All (IsStepLine alphabet states) lines
    → (xs : List Step) × AllZip (Spells alphabet states) lines xs
    × (with_step_lines alphabet m lines ≡ with_steps m xs)
lines_steps alphabet states m [] is few each = ([], tt, refl)
lines_steps alphabet states m (line ∷ lines) is few each =
    let (p, a, q, h) = All-head (IsStepLine alphabet states) line lines each in
    let (xs, zip, same) = lines_steps alphabet states (with_step m p a q) lines is few
    (All-tail (IsStepLine alphabet states) line lines each) in (
      (p, a, q) ∷ xs,
      (h, zip),
      ap (λ (n : Automaton). with_step_lines alphabet n lines)
          (line_step alphabet states p a q m line is few h) ∙ same,
    )

step_is : (p a q : ℕ) (s : Step) → is_step p a q s ≡ true → (s.0 ≡ p) × (s.1 ≡ a) × (s.2 ≡ q)
step_is p a q s e =
    let first = and_parts (s.0 == p) ((s.1 == a) && (s.2 == q)) e in
    let second = and_parts (s.1 == a) (s.2 == q) first.1 in
    (eqb-true s.0 p first.0, eqb-true s.1 a second.0, eqb-true s.2 q second.1)

is_the_step : (p a q : ℕ) (s : Step) → (s.0 ≡ p) × (s.1 ≡ a) × (s.2 ≡ q) → is_step p a q s ≡ true
is_the_step p a q s (e, f, g) =
    and_from (s.0 == p) _ (eq-eqb s.0 p e)
    (and_from (s.1 == a) (s.2 == q) (eq-eqb s.1 a f) (eq-eqb s.2 q g))

spelled_among : (alphabet : List ℕ) (states p a q : ℕ) (lines : Lines) (xs : List Step)
    → AllZip (Spells alphabet states) lines xs → list_any (is_step p a q) xs ≡ true
    → Any (SpellsStep alphabet states p a q) lines
spelled_among alphabet states p a q [] [] zip e = absurd (cc)
spelled_among alphabet states p a q [] (s ∷ xs) zip e = elim zip [ ]
spelled_among alphabet states p a q (line ∷ lines) [] zip e = elim zip [ ]
spelled_among alphabet states p a q (line ∷ lines) (s ∷ xs) (h, zip) e =
    by (λ more. spelled_among alphabet states p a q lines xs zip more)
    (or_cases (is_step p a q s) (list_any (is_step p a q) xs) e)
  where
    here : (s.0 ≡ p) × (s.1 ≡ a) × (s.2 ≡ q) → SpellsStep alphabet states p a q line
    here (i, j, k) =
        subst (λ (x : ℕ). SpellsStep alphabet states x a q line) i
        (subst (λ (x : ℕ). SpellsStep alphabet states s.0 x q line) j
        (subst (λ (x : ℕ). SpellsStep alphabet states s.0 s.1 x line) k h))

    by : (list_any (is_step p a q) xs ≡ true → Any (SpellsStep alphabet states p a q) lines)
        → (is_step p a q s ≡ true) ⊎ (list_any (is_step p a q) xs ≡ true)
        → Any (SpellsStep alphabet states p a q) (line ∷ lines)
    by behind (inl is) =
        any_here (SpellsStep alphabet states p a q) line lines (here (step_is p a q s is))
    by behind (inr more) = any_there (SpellsStep alphabet states p a q) line lines (behind more)

among_spelled : (alphabet : List ℕ) (states p a q : ℕ) (lines : Lines) (xs : List Step)
    → IsAlphabet alphabet → states ≤ most_states → AllZip (Spells alphabet states) lines xs
    → Any (SpellsStep alphabet states p a q) lines → list_any (is_step p a q) xs ≡ true
among_spelled alphabet states p a q [] xs is few zip any =
    absurd (any_nothing (SpellsStep alphabet states p a q) any)
among_spelled alphabet states p a q (line ∷ lines) [] is few zip any = elim zip [ ]
among_spelled alphabet states p a q (line ∷ lines) (s ∷ xs) is few (h, zip) any =
    by (λ more. among_spelled alphabet states p a q lines xs is few zip more)
    (any_cases (SpellsStep alphabet states p a q) line lines any)
  where
    by : (Any (SpellsStep alphabet states p a q) lines → list_any (is_step p a q) xs ≡ true)
        → SpellsStep alphabet states p a q line ⊎ Any (SpellsStep alphabet states p a q) lines
        → list_any (is_step p a q) (s ∷ xs) ≡ true
    by behind (inl here) =
        or_left (is_step p a q s) (list_any (is_step p a q) xs)
        (is_the_step p a q s (one_step alphabet states s.0 s.1 s.2 p a q line is few h here))
    by behind (inr more) = or_right (is_step p a q s) (list_any (is_step p a q) xs) (behind more)

-- what holds of each step that a line spells
all_spelled : (alphabet : List ℕ) (states : ℕ) (P : Step → Type 0)
    → ((line : List ℕ) (s : Step) → Spells alphabet states line s → P s)
    → (lines : Lines) (xs : List Step) → AllZip (Spells alphabet states) lines xs → All P xs
all_spelled alphabet states P gives [] [] zip = All-nil P
all_spelled alphabet states P gives [] (s ∷ xs) zip = elim zip [ ]
all_spelled alphabet states P gives (line ∷ lines) [] zip = elim zip [ ]
all_spelled alphabet states P gives (line ∷ lines) (s ∷ xs) (h, zip) =
    All-cons P s xs (gives line s h) (all_spelled alphabet states P gives lines xs zip)

-- the automaton of the lines `initial` and `final`, without steps
abbrev rows_alone : ℕ → ℕ → List ℕ → List ℕ → Automaton
rows_alone states letters initial final = record {
  states = states;
  letters = letters;
  initial = row_with
      (replicate states false) (drop 1 (fields initial));
  finals = row_with
      (replicate states false) (drop 1 (fields final));
  steps = [];
  moves = [];
}

rows_read : (states letters : ℕ) (initial final : List ℕ)
    → with_line with_final (with_line with_initial (bare states letters) (fields initial))
    (fields final)
    ≡ rows_alone states letters initial final
rows_read states letters initial final =
    ap (λ (m : Automaton). with_line with_final m (fields final))
    (line_marks with_initial (bare states letters) (fields initial)
    ∙ initials (bare states letters) (drop 1 (fields initial)))
    ∙ line_marks with_final _ (fields final) ∙ finals _ (drop 1 (fields final))

rows_automaton : (states letters : ℕ) (initial final : List ℕ)
    → IsAutomaton (rows_alone states letters initial final)
rows_automaton states letters initial final = record {
  initial =
      length-row (replicate states false) (drop 1 (fields initial))
      ∙ length-replicate states false;
  finals =
      length-row (replicate states false) (drop 1 (fields final)) ∙ length-replicate states false;
  from = All-nil _;
  letter = All-nil _;
  to = All-nil _;
  moves_from = All-nil _;
  moves_to = All-nil _;
}

-- with the steps of the lines it is the automaton that the lines spell
spelled_by_rows : (alphabet : List ℕ) (states : ℕ) (initial final : List ℕ) (steps : Lines)
    (xs : List Step) → IsAlphabet alphabet → states ≤ most_states
    → IsStatesLine (codes "initial") states initial → IsStatesLine (codes "final") states final
    → AllZip (Spells alphabet states) steps xs
    → SpellsAutomaton alphabet states initial final steps
    (with_steps (rows_alone states (length alphabet) initial final) xs)
spelled_by_rows alphabet states initial final steps xs is few i f zip = record {
  automaton = steps_automaton rows xs good;
  states = ap (λ (m : Automaton). m.states) (steps_alone rows xs);
  letters = ap (λ (m : Automaton). m.letters) (steps_alone rows xs);
  initial = λ p within.
      subst (λ (m : Automaton). IsTrue (is_initial m p) ↔ Names initial p)
      (sym (steps_alone rows xs)) (row_of_line (codes "initial") initial states p few i within);
  finals = λ p within.
      subst (λ (m : Automaton). IsTrue (is_final m p) ↔ Names final p)
      (sym (steps_alone rows xs)) (row_of_line (codes "final") final states p few f within);
  steps = λ p a q.
      let has : has_step (with_steps rows xs) p a q ≡ list_any (is_step p a q) xs =
      has_steps rows xs p a q good
      (all_spelled alphabet states (IsStepOf rows)
      (λ line s h. (h.from_state, h.of_alphabet, h.to_state)) steps xs zip) in (
        λ e. spelled_among alphabet states p a q steps xs zip (sym has ∙ e),
        λ any. has
            ∙ among_spelled alphabet states p a q steps xs is few zip any,
      );
  ordered = steps_ordered rows xs (nothing_in_order rows refl refl);
  plain = ap (λ (m : Automaton). m.moves) (steps_alone rows xs);
}
  where
    rows : Automaton
    rows = rows_alone states (length alphabet) initial final

    good : IsAutomaton rows
    good = rows_automaton states (length alphabet) initial final

-- the lines spell the automaton that is read
pub read_is_spelled : (alphabet : List ℕ) (states : ℕ) (initial final : List ℕ) (steps : Lines)
    → IsAlphabet alphabet → states ≤ most_states
    → IsStatesLine (codes "initial") states initial → IsStatesLine (codes "final") states final
    → All (IsStepLine alphabet states) steps
    → SpellsAutomaton alphabet states initial final steps
    (automaton_of alphabet (bare states (length alphabet)) (initial ∷ final ∷ steps))
read_is_spelled alphabet states initial final steps is few i f each =
    let (xs, zip, same) = lines_steps alphabet states
    (with_line with_final
    (with_line with_initial (bare states (length alphabet)) (fields initial))
    (fields final)) steps is few each in
    subst (SpellsAutomaton alphabet states initial final steps)
    (sym (same
    ∙ ap (λ (m : Automaton). with_steps m xs)
    (rows_read states (length alphabet) initial final)))
    (spelled_by_rows alphabet states initial final steps xs is few i f zip)

-- the lines spell one automaton

pub one_spelled : (alphabet : List ℕ) (states : ℕ) (initial final : List ℕ) (steps : Lines)
    (m n : Automaton) → SpellsAutomaton alphabet states initial final steps m
    → SpellsAutomaton alphabet states initial final steps n → m ≡ n
one_spelled alphabet states initial final steps m n h k =
    let size : m.states ≡ n.states = h.states ∙ sym k.states in
    let letters : m.letters ≡ n.letters = h.letters ∙ sym k.letters in
    same_fields m n size letters
    (same_row m.initial n.initial states (Names initial) (h.automaton.initial
    ∙ h.states) (k.automaton.initial ∙ k.states) h.initial k.initial)
    (same_row m.finals n.finals states (Names final) (h.automaton.finals
    ∙ h.states) (k.automaton.finals ∙ k.states) h.finals k.finals)
    (steps_alike m n h.ordered k.ordered size letters
    (λ p a q. by_same _ _ (h.steps p a q) (k.steps p a q)))
    (h.plain ∙ sym k.plain)
