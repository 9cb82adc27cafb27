-- The files and the words decide how a run ends, but for the faults of devices and for want of
-- memory.
use Rattle.std.proofs.Common.{◌≡◌, ◌⊎◌, ℕ, List, Option, Some, None, inl, inr, refl, sym, ap, ◌∙◌, subst}
use Rattle.syn_outside.specs.NamedFiles.{NamedFiles}
use Rattle.command_line.specs.declared.request.Request.{Request}
use Rattle.command_line.specs.Line.{IsLine}
use Rattle.command_line.proofs.Lines.{one_request}
use Rattle.report_outcome.specs.Inputs.{Input, generated, named, input_for, input_of, AreTold, IsGiven}
use Rattle.report_outcome.specs.Reports.{task_of, IsVerdict}
use Rattle.report_outcome.specs.Outcome.{IsDue, Outcome, IsDecided, IsText}
use Rattle.report_outcome.specs.declared.ending.Ending.{Ending}
use Rattle.report_outcome.specs.declared.ending.Ending.TheVariants as ending
use Rattle.report_outcome.specs.declared.ending.Verdict.{Verdict}
use Rattle.report_outcome.specs.declared.ending.Verdict.TheVariants as verdict
use Rattle.report_outcome.proofs.Verdicts.{one_verdict}
use Rattle.synmon_top.specs.Causes.{AreKnown, AsksToGenerate}

-- where the bytes of an input are told, they are one
pub one_given : (held : Option NamedFiles) (input : Input) (p q : List ℕ) → AreTold held input
    → IsGiven held input p → IsGiven held input q → p ≡ q
one_given held (generated size) p q told h k = h ∙ sym k
one_given None (named name) p q told h k = absurd told
one_given (Some files) (named name) p q told h k = let both : Some p ≡ Some q = sym h ∙ k in cc

-- words have one verdict, with one text, where the bytes are told
pub one_due : (held : Option NamedFiles) (words : List (List ℕ)) (v w : Verdict) (p q : List ℕ)
    → AreKnown held words → IsDue held words v p → IsDue held words w q → (v ≡ w) × (p ≡ q)
one_due held words v w p q known h k =
    let ask : h.request ≡ k.request = one_request words h.request k.request h.line k.line in
    let told : AreTold held (input_of k.request) =
    subst (λ r. AreTold held (input_of r))
    (one_request words known.request k.request known.line k.line) known.told in
    let same : h.bytes ≡ k.bytes = one_given held (input_of k.request) h.bytes k.bytes told
    (subst (λ r. IsGiven held (input_of r) h.bytes) ask h.given) k.given in
    one_verdict k.bytes (task_of k.request) v w p q
    (subst (λ b. IsVerdict b (task_of k.request) v p) same
    (subst (λ r. IsVerdict h.bytes (task_of r) v p) ask h.holds)) k.holds

-- device that tells its files tells the bytes of every input
told_of_files : (files : NamedFiles) (input : Input) → AreTold (Some files) input
told_of_files files (generated size) = tt
told_of_files files (named name) = tt

-- the bytes of a generated file are told
told_of_generated : (held : Option NamedFiles) (words : List (List ℕ)) → AsksToGenerate words
    → AreKnown held words
told_of_generated held words asks = record {
  request = asks.request;
  line = asks.line;
  told = subst (λ c. AreTold held (input_for c asks.request.size asks.request.operand))
      (sym asks.generated) tt;
}

-- at most one of the endings that the files and the words decide
module _ (held : Option NamedFiles) (words : List (List ℕ))
    (known : (request : Request) → IsLine words request → AreKnown held words) where
  pub one_outcome : (e f : Ending) (out other : List ℕ) → Outcome held words e out
      → Outcome held words f other → IsDecided e → IsDecided f → (e ≡ f) × (out ≡ other)
  one_outcome (ending.Decided v) (ending.Decided w) out other h k d g =
      let one = one_due held words v w out other (known h.request h.line) h k in
      (ap ending.Decided one.0, one.1)
  one_outcome (ending.Decided v) ending.BadLine out other h k d g =
      absurd (k.0 (h.request, h.line))
  one_outcome ending.BadLine (ending.Decided w) out other h k d g =
      absurd (h.0 (k.request, k.line))
  one_outcome ending.BadLine ending.BadLine out other h k d g = (refl, h.1 ∙ sym k.1)
  one_outcome ending.CannotRead f out other h k d g = absurd d
  one_outcome ending.CannotWrite f out other h k d g = absurd d
  one_outcome ending.NoMemory f out other h k d g = absurd d
  one_outcome e ending.CannotRead out other h k d g = absurd g
  one_outcome e ending.CannotWrite out other h k d g = absurd g
  one_outcome e ending.NoMemory out other h k d g = absurd g

-- of files that are told
pub one_outcome_of_files : (files : NamedFiles) (words : List (List ℕ)) (e f : Ending)
    (out other : List ℕ) → Outcome (Some files) words e out
    → Outcome (Some files) words f other → IsDecided e → IsDecided f → (e ≡ f) × (out ≡ other)
one_outcome_of_files files words =
    one_outcome (Some files) words
    (λ r line.
    record { request = r; line = line; told = told_of_files files (input_of r) })

-- of a generated file
pub one_generated_outcome : (held : Option NamedFiles) (words : List (List ℕ))
    → AsksToGenerate words → (e f : Ending) (out other : List ℕ) → Outcome held words e out
    → Outcome held words f other → IsDecided e → IsDecided f → (e ≡ f) × (out ≡ other)
one_generated_outcome held words asks =
    one_outcome held words (λ r line. told_of_generated held words asks)

-- where a verdict is due of bytes that are told, the run ends with it, or a device or want of memory
-- came between
pub due_ends : (held : Option NamedFiles) (words : List (List ℕ)) (v : Verdict) (text : List ℕ)
    (e : Ending) (out : List ℕ) → AreKnown held words → IsDue held words v text
    → Outcome held words e out
    → ((e ≡ ending.Decided v) × (out ≡ text)) ⊎ (e ≡ ending.CannotRead)
    ⊎ ((e ≡ ending.CannotWrite) × IsText v) ⊎ (e ≡ ending.NoMemory)
due_ends held words v text (ending.Decided w) out known h k =
    let one = one_due held words w v out text known k h in inl (ap ending.Decided one.0, one.1)
due_ends held words v text ending.BadLine out known h k = absurd (k.0 (h.request, h.line))
due_ends held words v text ending.CannotRead out known h k = inr (inl refl)
due_ends held words v text ending.CannotWrite out known h (begun, is, begins) =
    let one = one_due held words (verdict.Said begun.limited) v begun.text text known is h in
    inr (inr (inl (refl, subst IsText one.0 tt)))
due_ends held words v text ending.NoMemory out known h k = inr (inr (inr refl))
