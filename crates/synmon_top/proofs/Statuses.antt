-- When a run answers with each status.
use Rattle.std.proofs.Common.{◌≡◌, ◌⊎◌, ℕ, true, false, List, Option, Some, None, inl, inr, refl, sym, ap, ◌∙◌, subst, arith}
use Rattle.std.specs.Io.KnownBytes.{Appends}
use Rattle.syn_outside.specs.NamedFiles.{NamedFiles}
use Rattle.command_line.specs.declared.request.Request.{Request}
use Rattle.command_line.specs.Line.{IsAccepted}
use Rattle.command_line.proofs.Lines.{one_request}
use Rattle.report_outcome.specs.Inputs.{Input, generated, named, input_of, IsGiven, IsMissing}
use Rattle.report_outcome.specs.Outcome.{IsDue, Outcome, Ends, status_of, status_of_verdict, IsText}
use Rattle.report_outcome.specs.declared.ending.Ending.{Ending}
use Rattle.report_outcome.specs.declared.ending.Ending.TheVariants as ending
use Rattle.report_outcome.specs.declared.ending.Verdict.{Verdict}
use Rattle.report_outcome.specs.declared.ending.Verdict.TheVariants as verdict
use Rattle.synmon_top.specs.Causes.{AreKnown, IsAnswered, IsLacking, IsOrNoMemory, IsStatus}
use Rattle.synmon_top.proofs.Deciding.{due_ends}

-- a verdict has status 0, 4 or 5
status_of_verdict_is : (v : Verdict) → (status_of_verdict v ≡ 0) ⊎ (status_of_verdict v ≡ 4)
    ⊎ (status_of_verdict v ≡ 5)
status_of_verdict_is (verdict.Said false) = inl refl
status_of_verdict_is (verdict.Said true) = inr (inr refl)
status_of_verdict_is (verdict.Stopped s) = inr (inr refl)
status_of_verdict_is (verdict.Refused at code) = inr (inl refl)

pub status_of-is : (e : Ending) → IsStatus (status_of e)
status_of-is (ending.Decided v) = elim (status_of_verdict_is v) [
  | inl zero ↦ inl zero
  | inr (inl four) ↦ inr (inr (inr (inl four)))
  | inr (inr five) ↦ inr (inr (inr (inr (inl five))))
]
status_of-is ending.BadLine = inr (inl refl)
status_of-is ending.CannotRead = inr (inr (inl refl))
status_of-is ending.CannotWrite = inr (inr (inr (inr (inr (inl refl)))))
status_of-is ending.NoMemory = inr (inr (inr (inr (inr (inr refl)))))

-- the statuses 2, 3 and 6 are those of one ending each
no_verdict : {X : Type 0} (v : Verdict) (n : ℕ) → ¬ (n ≡ 0) → ¬ (n ≡ 4) → ¬ (n ≡ 5)
    → status_of_verdict v ≡ n → X
no_verdict v n zero four five h = elim (status_of_verdict_is v) [
  | inl is ↦ absurd (zero (sym h ∙ is))
  | inr (inl is) ↦ absurd (four (sym h ∙ is))
  | inr (inr is) ↦ absurd (five (sym h ∙ is))
]

pub only_bad_line : (e : Ending) → status_of e ≡ 2 → e ≡ ending.BadLine
only_bad_line (ending.Decided v) h =
    no_verdict v 2 (λ e. omega arith) (λ e. omega arith) (λ e. omega arith) h
only_bad_line ending.BadLine h = refl
only_bad_line ending.CannotRead h = absurd (omega arith)
only_bad_line ending.CannotWrite h = absurd (omega arith)
only_bad_line ending.NoMemory h = absurd (omega arith)

pub only_cannot_read : (e : Ending) → status_of e ≡ 3 → e ≡ ending.CannotRead
only_cannot_read (ending.Decided v) h =
    no_verdict v 3 (λ e. omega arith) (λ e. omega arith) (λ e. omega arith) h
only_cannot_read ending.BadLine h = absurd (omega arith)
only_cannot_read ending.CannotRead h = refl
only_cannot_read ending.CannotWrite h = absurd (omega arith)
only_cannot_read ending.NoMemory h = absurd (omega arith)

pub only_cannot_write : (e : Ending) → status_of e ≡ 6 → e ≡ ending.CannotWrite
only_cannot_write (ending.Decided v) h =
    no_verdict v 6 (λ e. omega arith) (λ e. omega arith) (λ e. omega arith) h
only_cannot_write ending.BadLine h = absurd (omega arith)
only_cannot_write ending.CannotRead h = absurd (omega arith)
only_cannot_write ending.CannotWrite h = refl
only_cannot_write ending.NoMemory h = absurd (omega arith)

-- status 2: the words are no line
pub bad_line_told : (held : Option NamedFiles) (words : List (List ℕ)) (e : Ending)
    (old new : Option (List ℕ)) → Ends held words e old new
    → status_of e ≡ 2 → ¬ IsAccepted words
bad_line_told held words e old new ends two =
    (subst (λ x. Outcome held words x ends.out) (only_bad_line e two) ends.outcome).0

-- words that are no line have status 2, or 7
without_line : (held : Option NamedFiles) (words : List (List ℕ)) (e : Ending) (out : List ℕ)
    → Outcome held words e out → ¬ IsAccepted words → IsOrNoMemory 2 (status_of e)
without_line held words (ending.Decided v) out h none = absurd (none (h.request, h.line))
without_line held words ending.BadLine out h none = inl refl
without_line held words ending.CannotRead out h none = absurd (none (h.0.request, h.0.line))
without_line held words ending.CannotWrite out (text, is, begins) none =
    absurd (none (is.request, is.line))
without_line held words ending.NoMemory out h none = inr refl

pub no_line_told : (held : Option NamedFiles) (words : List (List ℕ)) (e : Ending)
    (old new : Option (List ℕ)) → Ends held words e old new
    → ¬ IsAccepted words → IsOrNoMemory 2 (status_of e)
no_line_told held words e old new ends none = without_line held words e ends.out ends.outcome none

-- no bytes are those of a name that the files lack
not_given : (held : Option NamedFiles) (input : Input) (bytes : List ℕ) → IsMissing held input
    → ¬ IsGiven held input bytes
not_given held (generated size) bytes missing given = missing
not_given None (named name) bytes missing given = missing
not_given (Some files) (named name) bytes missing given =
    let both : Some bytes ≡ None = sym given ∙ missing in cc

not_due : (held : Option NamedFiles) (words : List (List ℕ)) (v : Verdict) (text : List ℕ)
    → IsLacking held words → ¬ IsDue held words v text
not_due held words v text lacking due =
    not_given held (input_of due.request) due.bytes
    (subst (λ (r : Request). IsMissing held (input_of r))
    (one_request words lacking.request due.request lacking.line due.line) lacking.missing)
    due.given

-- files that lack the name leave 3 and 7 alone
without_name : (held : Option NamedFiles) (words : List (List ℕ)) (e : Ending) (out : List ℕ)
    → Outcome held words e out → IsLacking held words → IsOrNoMemory 3 (status_of e)
without_name held words (ending.Decided v) out h lacking =
    absurd (not_due held words v out lacking h)
without_name held words ending.BadLine out h lacking =
    absurd (h.0 (lacking.request, lacking.line))
without_name held words ending.CannotRead out h lacking = inl refl
without_name held words ending.CannotWrite out (text, is, begins) lacking =
    absurd (not_due held words _ _ lacking is)
without_name held words ending.NoMemory out h lacking = inr refl

pub lacking_told : (held : Option NamedFiles) (words : List (List ℕ)) (e : Ending)
    (old new : Option (List ℕ)) → Ends held words e old new → IsLacking held words
    → IsOrNoMemory 3 (status_of e)
lacking_told held words e old new ends lacking =
    without_name held words e ends.out ends.outcome lacking

-- a verdict that is due is answered, where no device that it needs fails
pub verdict_told : (held : Option NamedFiles) (words : List (List ℕ)) (v : Verdict) (text : List ℕ)
    (e : Ending) (old new : Option (List ℕ)) (Risen Cut : Type 0)
    → Ends held words e old new → (e ≡ ending.CannotRead → Risen ⊎ IsLacking held words)
    → (e ≡ ending.CannotWrite → Cut)
    → AreKnown held words → IsDue held words v text → ¬ Risen → (IsText v → ¬ Cut)
    → IsAnswered v text (status_of e) old new
verdict_told held words v text e old new Risen Cut ends unread unwritten known due calm steady =
    by (due_ends held words v text e ends.out known due ends.outcome)
  where
    reading : Risen ⊎ IsLacking held words → ⊥
    reading (inl risen) = calm risen
    reading (inr lacking) = not_due held words v text lacking due

    by : ((e ≡ ending.Decided v) × (ends.out ≡ text)) ⊎ (e ≡ ending.CannotRead)
        ⊎ ((e ≡ ending.CannotWrite) × IsText v) ⊎ (e ≡ ending.NoMemory)
        → IsAnswered v text (status_of e) old new
    by (inl (is, same)) = inl (ap status_of is, subst (Appends old new) same ends.gained)
    by (inr (inl is)) = absurd (reading (unread is))
    by (inr (inr (inl (is, said)))) = absurd (steady said (unwritten is))
    by (inr (inr (inr is))) = inr (ap status_of is)
