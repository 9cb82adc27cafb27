-- The first fault, line by line.
use Rattle.std.proofs.Common.{◌≡◌, ℕ, ◌+◌, List, [], ◌∷◌, ◌++◌, length, refl, sym, ap, ◌∙◌, arith, true, false, append_assoc, append-nil}
use Rattle.std.specs.Prelude.{Bool, cond, not, Option, Some, None, nat_le}
use Rattle.std.specs.Option.{option_or}
use Rattle.std.specs.List.{list_all}
use Rattle.std.proofs.lemmas.Bool.{and_parts, not-true, le-leb}
use Rattle.automaton_file.specs.declared.sources.Wrong.{Wrong}
use Rattle.automaton_file.specs.declared.sources.Wrong.TheVariants as wrong
use Rattle.automaton_file.specs.LineText.{is_plain, fields, is_significant, parts, is_skipped, IsSkip}
use Rattle.automaton_file.specs.FileText.{unless, part_fault, is_whole, is_expr, letters_in, state_count, automaton_fault, step_fault}
use Rattle.automaton_file.specs.Parts.{Lines}
use Rattle.automaton_file.specs.Reading.{fault_else, faults_by, first_fault, automaton_first_fault, steps_first_fault, nothing_first_fault}

-- the test of a line, whole
abbrev pub tested : (Lines → List ℕ → Option Wrong) → Lines → List ℕ → Option Wrong
tested test earlier text = option_or (unless (is_plain text) wrong.Byte)
    (cond (is_significant (fields text)) (test earlier text) None)

skipped_parts : (text : List ℕ) → is_skipped text ≡ true → (is_plain text ≡ true)
    × (is_significant (fields text) ≡ false)
skipped_parts text h =
    let both = and_parts (is_plain text) (not (is_significant (fields text))) h in
    (both.0, not-true _ both.1)

pub tested_skipped : (test : Lines → List ℕ → Option Wrong) (earlier : Lines) (text : List ℕ)
    → is_skipped text ≡ true → tested test earlier text ≡ None
tested_skipped test earlier text h = let is = skipped_parts text h in rw (is.0, is.1) refl

part_skipped : (text : List ℕ) → is_skipped text ≡ true → parts (text ∷ []) ≡ []
part_skipped text h = let is = skipped_parts text h in rw is.1 refl

pub tested_bad : (test : Lines → List ℕ → Option Wrong) (earlier : Lines) (text : List ℕ)
    → is_plain text ≡ false → tested test earlier text ≡ Some wrong.Byte
tested_bad test earlier text h = rw h refl

pub tested_part : (test : Lines → List ℕ → Option Wrong) (earlier : Lines) (text : List ℕ)
    → is_plain text ≡ true → is_significant (fields text) ≡ true
    → tested test earlier text ≡ test earlier text
tested_part test earlier text h k = rw (h, k) refl

pub part_alone : (text : List ℕ) → is_significant (fields text) ≡ true
    → parts (text ∷ []) ≡ text ∷ []
part_alone text h = rw h refl

pub parts_more : (text : List ℕ) (more : List (List ℕ)) → is_significant (fields text) ≡ true
    → parts (text ∷ more) ≡ text ∷ parts more
parts_more text more h = rw h refl

-- skipped lines have no fault
pub skip_faults : (test : Lines → List ℕ → Option Wrong) (whole : Lines → Bool) (earlier : Lines)
    (number : ℕ) (skipped rest : List (List ℕ)) → list_all is_skipped skipped ≡ true
    → faults_by test whole earlier number (skipped ++ rest) ≡ faults_by test whole earlier
    (number + length skipped) rest
skip_faults test whole earlier number [] rest h =
    let same : number ≡ number + length {A = List ℕ} [] = omega arith in
    ap (λ (n : ℕ). faults_by test whole earlier n rest) same
skip_faults test whole earlier number (t ∷ ts) rest h =
    let both = and_parts (is_skipped t) (list_all is_skipped ts) h in
    let same : number + 1 + length ts ≡ number + length (t ∷ ts) = omega arith in
    ap (λ (o : Option Wrong). fault_else o number
    (faults_by test whole (earlier ++ parts (t ∷ [])) (number + 1) (ts ++ rest)))
    (tested_skipped test earlier t both.0)
    ∙ ap (λ (e : Lines). faults_by test whole e (number + 1) (ts ++ rest))
    (ap (λ (p : Lines). earlier ++ p) (part_skipped t both.0) ∙ append-nil earlier)
    ∙ skip_faults test whole earlier (number + 1) ts rest both.1
    ∙ ap (λ (n : ℕ). faults_by test whole earlier n rest) same

pub skip_parts : (skipped rest : List (List ℕ)) → list_all is_skipped skipped ≡ true
    → parts (skipped ++ rest) ≡ parts rest
skip_parts [] rest h = refl
skip_parts (t ∷ ts) rest h =
    let both = and_parts (is_skipped t) (list_all is_skipped ts) h in
    rw (skipped_parts t both.0).1 (skip_parts ts rest both.1)

-- the same, for what a reader skips
pub faults_behind : (test : Lines → List ℕ → Option Wrong) (whole : Lines → Bool) (earlier : Lines)
    (texts rest : List (List ℕ)) (number at : ℕ) → IsSkip texts number rest at
    → faults_by test whole earlier number texts ≡ faults_by test whole earlier at rest
faults_behind test whole earlier texts rest number at s =
    ap (faults_by test whole earlier number) s.split
    ∙ skip_faults test whole earlier number s.skipped rest s.each
    ∙ ap (λ (n : ℕ). faults_by test whole earlier n rest) (sym s.counted)

pub parts_behind : (texts rest : List (List ℕ)) (number at : ℕ) → IsSkip texts number rest at
    → parts texts ≡ parts rest
parts_behind texts rest number at s = ap parts s.split ∙ skip_parts s.skipped rest s.each

-- a fault at the first significant line, or one behind it
pub faults_at : (test : Lines → List ℕ → Option Wrong) (whole : Lines → Bool) (earlier : Lines)
    (text : List ℕ) (rest : List (List ℕ)) (number : ℕ) → is_plain text ≡ true
    → is_significant (fields text) ≡ true → faults_by test whole earlier number (text ∷ rest)
    ≡ fault_else (test earlier text) number
    (faults_by test whole (earlier ++ text ∷ []) (number + 1) rest)
faults_at test whole earlier text rest number plain significant =
    ap (λ (o : Option Wrong). fault_else o number
    (faults_by test whole (earlier ++ parts (text ∷ [])) (number + 1) rest))
    (tested_part test earlier text plain significant)
    ∙ ap (λ (p : Lines). fault_else (test earlier text) number
    (faults_by test whole (earlier ++ p) (number + 1) rest)) (part_alone text significant)

-- tests that do not look at a prefix of the lines
pub faults_shift : (test other : Lines → List ℕ → Option Wrong) (whole all : Lines → Bool)
    (prefix : Lines)
    → ((more : Lines) (line : List ℕ) → test (prefix ++ more) line ≡ other more line)
    → ((more : Lines) → whole (prefix ++ more) ≡ all more)
    → (more : Lines) (number : ℕ) (texts : List (List ℕ))
    → faults_by test whole (prefix ++ more) number texts ≡ faults_by other all more number texts
faults_shift test other whole all prefix ht hw more number [] =
    ap (λ (b : Bool). cond b None (Some (number, wrong.Missing))) (hw more)
faults_shift test other whole all prefix ht hw more number (t ∷ ts) =
    ap (λ (o : Option Wrong). fault_else
    (option_or (unless (is_plain t) wrong.Byte) (cond (is_significant (fields t)) o None))
    number (faults_by test whole (prefix ++ more ++ parts (t ∷ [])) (number + 1) ts))
    (ht more t)
    ∙ ap (λ (r : Option (ℕ × Wrong)). fault_else (tested other more t) number r)
    (ap (λ (e : Lines). faults_by test whole e (number + 1) ts)
    (append_assoc prefix more (parts (t ∷ []))) ∙ faults_shift test other whole all prefix ht hw
    (more ++ parts (t ∷ [])) (number + 1) ts)

-- behind the body line of an automaton
pub faults_of_automaton : (header alphabet body : List ℕ) (number : ℕ) (texts : List (List ℕ))
    → is_expr (fields body) ≡ false → first_fault (header ∷ alphabet ∷ body ∷ []) number texts
    ≡ automaton_first_fault (letters_in alphabet) (state_count (fields body)) [] number texts
faults_of_automaton header alphabet body number texts h =
    faults_shift part_fault (automaton_fault (letters_in alphabet) (state_count (fields body)))
    is_whole (λ lines. nat_le 2 (length lines)) (header ∷ alphabet ∷ body ∷ [])
    (λ more line. rw h refl) (λ more. rw h refl) [] number texts

-- behind the lines `initial` and `final`
pub faults_of_steps : (letters : List ℕ) (count : ℕ) (initial final : List ℕ) (number : ℕ)
    (texts : List (List ℕ))
    → automaton_first_fault letters count (initial ∷ final ∷ []) number texts
    ≡ steps_first_fault letters count number texts
faults_of_steps letters count initial final number texts =
    faults_shift (automaton_fault letters count) (λ _ line. step_fault letters count (fields line))
    (λ lines. nat_le 2 (length lines)) (λ _. true) (initial ∷ final ∷ [])
    (λ more line. refl) (λ more. le-leb 2 (length (initial ∷ final ∷ more)) (omega arith)) [] number
    texts

-- steps before do not matter for steps behind
pub faults_behind_steps : (letters : List ℕ) (count : ℕ) (earlier : Lines) (number : ℕ)
    (texts : List (List ℕ)) → faults_by (λ _ line. step_fault letters count (fields line))
    (λ _. true) earlier number texts ≡ steps_first_fault letters count number texts
faults_behind_steps letters count earlier number texts =
    ap (λ (e : Lines). faults_by (λ _ line. step_fault letters count (fields line))
    (λ _. true) e number texts) (sym (append-nil earlier))
    ∙ faults_shift (λ _ line. step_fault letters count (fields line))
    (λ _ line. step_fault letters count (fields line)) (λ _. true) (λ _. true) earlier
    (λ more line. refl) (λ more. refl) [] number texts

-- behind the body line of an expression
pub faults_of_expression : (header alphabet body : List ℕ) (number : ℕ) (texts : List (List ℕ))
    → is_expr (fields body) ≡ true → first_fault (header ∷ alphabet ∷ body ∷ []) number texts
    ≡ nothing_first_fault number texts
faults_of_expression header alphabet body number texts h =
    faults_shift part_fault (λ _ _. Some wrong.OutOfPlace) is_whole (λ _. true)
    (header ∷ alphabet ∷ body ∷ [])
    (λ more line. rw h refl) (λ more. rw h refl) [] number texts
