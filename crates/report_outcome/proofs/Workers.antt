-- Requests that differ in their workers alone have the same outcomes.
use Rattle.std.proofs.Common.{◌≡◌, ℕ, List, Option, ap, ◌∙◌, subst}
use Rattle.syn_outside.specs.NamedFiles.{NamedFiles}
use Rattle.command_line.specs.declared.request.Request.{Request}
use Rattle.command_line.specs.Line.{IsLine}
use Rattle.command_line.proofs.Lines.{one_request}
use Rattle.report_outcome.specs.Inputs.{input_of, IsGiven, IsFile}
use Rattle.report_outcome.specs.Reports.{task_of, IsVerdict}
use Rattle.report_outcome.specs.Outcome.{IsDue, Outcome}
use Rattle.report_outcome.specs.declared.ending.Ending.{Ending}
use Rattle.report_outcome.specs.declared.ending.Verdict.{Verdict}
use Rattle.report_outcome.proofs.Outcomes.{outcome_along}

module _ (held : Option NamedFiles) (words others : List (List ℕ)) (r s : Request)
    (line : IsLine words r) (other : IsLine others s) (same : r ≡ record s { workers = r.workers })
  where
    -- they are about one input, and ask for the same
    due_for_others : (v : Verdict) (text : List ℕ) → IsDue held words v text
        → IsDue held others v text
    due_for_others v text h =
        let ask : h.request ≡ r = one_request words h.request r h.line line in
        record {
          request = s;
          line = other;
          bytes = h.bytes;
          given = subst (λ i. IsGiven held i h.bytes) (ap input_of ask ∙ ap input_of same) h.given;
          holds = subst (λ t. IsVerdict h.bytes t v text) (ap task_of ask ∙ ap task_of same) h.holds;
        }

    pub workers_are_free : (e : Ending) (out : List ℕ) → Outcome held words e out
        → Outcome held others e out
    workers_are_free =
        outcome_along held words others (λ h. (s, other), λ h. (r, line))
        (λ h. record {
          request = s;
          line = other;
          file = subst IsFile
              (ap input_of (one_request words h.request r h.line line) ∙ ap input_of same) h.file;
        })
        due_for_others
