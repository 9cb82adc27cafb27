-- Texts that spell an expression, as a test.
use Rattle.std.proofs.Common.{◌≡◌, ◌<◌, ℕ, zero, suc, List, refl, sym, ap, ◌∙◌, arith, true, false, subst, inl, inr}
use Rattle.std.specs.Prelude.{◌≤◌, Bool, not, ◌&&◌, ◌||◌, ◌==◌, is_none, Option, Some, None, length, ◌⊎◌}
use Rattle.std.specs.Option.{option_or}
use Rattle.std.proofs.lemmas.Bool.{and_parts, and_from, not-true, not_from_false, eq-eqb, eqb-true, cases_lt}
use Rattle.expression_theory.specs.Scan.{FaultKind, failing_at, due_from, depth, IsAccepted, IsFault}
use Rattle.expression_theory.proofs.Faults.{accepted_or_fault}
use Rattle.automaton_file.specs.declared.sources.Wrong.TheVariants as wrong
use Rattle.automaton_file.specs.LineText.{fields, behind_first}
use Rattle.automaton_file.specs.ExprText.{is_clear, is_accepted, is_expression}
use Rattle.automaton_file.specs.FileText.{unless, is_expr, body_fault}
use Rattle.regex_reader.specs.Readers.{IsFirstFault}
use Rattle.regex_reader.specs.declared.fault.ExprFault.{ExprFault}
use Rattle.regex_reader.specs.declared.fault.ExprFault.TheVariants as expr
use Rattle.automaton_file.specs.declared.faults.LineFault.{LineFault}
use Rattle.automaton_file.specs.Reading.{IsRaised, IsLineFault}
use Rattle.expression_theory.specs.declared.signs.Class.{Class}

is_none_none : (o : Option FaultKind) → is_none o ≡ true → o ≡ None
is_none_none None e = refl
is_none_none (Some k) e = absurd (cc)

none_is_none : (o : Option FaultKind) → o ≡ None → is_none o ≡ true
none_is_none None e = refl
none_is_none (Some k) e = absurd (cc)

clear_each : (cs : List Class) (n : ℕ) → is_clear cs n ≡ true → (i : ℕ) → i < n
    → failing_at cs i ≡ None
clear_each cs zero e i h = absurd (omega arith)
clear_each cs (suc n) e i h = by (clear_each cs n) (cases_lt i n)
  where
    both : (is_clear cs n ≡ true) × (is_none (failing_at cs n) ≡ true)
    both = and_parts (is_clear cs n) (is_none (failing_at cs n)) e

    by : (is_clear cs n ≡ true → (i : ℕ) → i < n → failing_at cs i ≡ None) → (i < n) ⊎ (n ≤ i)
        → failing_at cs i ≡ None
    by more (inl before) = more both.0 i before
    by more (inr behind) = let same : i ≡ n = omega arith in ap (failing_at cs) same
        ∙ is_none_none (failing_at cs n) both.1

each_clear : (cs : List Class) (n : ℕ) → ((i : ℕ) → i < n → failing_at cs i ≡ None)
    → is_clear cs n ≡ true
each_clear cs zero pass = refl
each_clear cs (suc n) pass = and_from (is_clear cs n) (is_none (failing_at cs n))
    (each_clear cs n (λ i h. pass i (omega arith)))
    (none_is_none (failing_at cs n) (pass n (omega arith)))

-- the test says where no test of the scan fails
pub accepted_test : (cs : List Class) → IsAccepted cs → is_accepted cs ≡ true
accepted_test cs h =
    and_from (is_clear cs (length cs)) (not (due_from true cs) && (depth cs == 0))
    (each_clear cs (length cs) h.clear)
    (and_from (not (due_from true cs)) (depth cs == 0) (not_from_false (due_from true cs) h.ends.0)
    (eq-eqb (depth cs) 0 h.ends.1))

pub test_accepted : (cs : List Class) → is_accepted cs ≡ true → IsAccepted cs
test_accepted cs e =
    let both = and_parts (is_clear cs (length cs)) (not (due_from true cs) && (depth cs == 0)) e in
    let ends = and_parts (not (due_from true cs)) (depth cs == 0) both.1 in
    record {
      clear = clear_each cs (length cs) both.0;
      ends =
          (not-true (due_from true cs) ends.0, eqb-true (depth cs) 0 ends.1);
    }

-- a text with a fault is not accepted
pub fault_test : (cs : List Class) (k : FaultKind) (i : ℕ) → IsFault cs k i → is_accepted cs ≡ false
fault_test cs k i fault = by (is_accepted cs) refl
  where
    by : (b : Bool) → is_accepted cs ≡ b → b ≡ false
    by true e = absurd (accepted_or_fault cs k i (test_accepted cs e) fault)
    by false e = refl

-- a body line that passes its tests and begins with `expr` spells an expression
pub expression_passes : (letters line : List ℕ) → body_fault letters line ≡ None
    → is_expr (fields line) ≡ true → is_expression letters (behind_first line) ≡ true
expression_passes letters line pass e =
    by (is_expr (fields line)) _ _ (is_expression letters (behind_first line)) pass e
  where
    by : (e n c x : Bool)
        → option_or (unless (e || n) wrong.Body)
        (option_or (unless (e || c) wrong.Count) (unless (not e || x) wrong.Expression)) ≡ None
        → e ≡ true → x ≡ true
    by true n c true p h = refl
    by true n c false p h = absurd (let no : Some wrong.Expression ≡ None = p in cc)
    by false n c x p h = absurd (cc)

-- the tests of a body line with `expr`
pub expression_tested : (letters line more : List ℕ) (b : Bool) → is_expr (fields line) ≡ true
    → behind_first line ≡ more → is_expression letters more ≡ b
    → body_fault letters line ≡ unless b wrong.Expression
expression_tested letters line more b e same is = let x : is_expression letters (behind_first line)
    ≡ b = ap (is_expression letters) same ∙ is in rw (e, x) refl

-- the fault of a text is that of its line
pub fault_raised : (cs : List Class) (fault : ExprFault) (raised : LineFault)
    → IsFirstFault cs fault → IsRaised fault raised
    → IsLineFault (unless (is_accepted cs) wrong.Expression) raised
fault_raised cs expr.Memory raised h same =
    subst (IsLineFault (unless (is_accepted cs) wrong.Expression)) (sym same) tt
fault_raised cs (expr.Unexpected at) raised h same =
    subst (IsLineFault (unless (is_accepted cs) wrong.Expression)) (sym same)
    (ap (λ (b : Bool). unless b wrong.Expression) (fault_test cs _ at h))
fault_raised cs (expr.UnknownLetter at) raised h same =
    subst (IsLineFault (unless (is_accepted cs) wrong.Expression)) (sym same)
    (ap (λ (b : Bool). unless b wrong.Expression) (fault_test cs _ at h))
fault_raised cs (expr.TooDeep at) raised h same =
    subst (IsLineFault (unless (is_accepted cs) wrong.Expression)) (sym same)
    (ap (λ (b : Bool). unless b wrong.Expression) (fault_test cs _ at h))
fault_raised cs (expr.TooLarge at) raised h same =
    subst (IsLineFault (unless (is_accepted cs) wrong.Expression)) (sym same)
    (ap (λ (b : Bool). unless b wrong.Expression) (fault_test cs _ at h))
