-- Bytes have one verdict.
use Rattle.std.proofs.Common.{◌≡◌, ℕ, List, sym, ap, ◌∙◌, subst}
use Rattle.automaton_file.specs.FileText.{SourceText, language_of}
use Rattle.automaton_file.proofs.SourceLaws.{one_source, one_refusal, refusal_spells_none}
use Rattle.report_sections.specs.Sections.{Said, sections_of, AreSaid}
use Rattle.report_outcome.specs.Reports.{Task, HasMoreSubsets, IsStop, IsVerdict}
use Rattle.report_outcome.specs.declared.ending.Stop.{Stop}
use Rattle.report_outcome.specs.declared.ending.Stop.TheVariants as stop
use Rattle.report_outcome.specs.declared.ending.Verdict.{Verdict}
use Rattle.report_outcome.specs.declared.ending.Verdict.TheVariants as verdict
use Rattle.report_sections.proofs.SectionLaws.{one_said}

-- a source has one stop
one_stop : (task : Task) (source : SourceText) (s t : Stop) → IsStop task source s
    → IsStop task source t → s ≡ t
one_stop task source (stop.Subsets m) (stop.Subsets n) (e, h) (f, k) = ap stop.Subsets (e ∙ sym f)
one_stop task source (stop.Subsets m) (stop.Elements n) (e, h) (needs, few, f, k) =
    absurd (few (subst (HasMoreSubsets source) e h))
one_stop task source (stop.Elements m) (stop.Subsets n) (needs, few, f, k) (e, h) =
    absurd (few (subst (HasMoreSubsets source) e h))
one_stop task source (stop.Elements m) (stop.Elements n) (needs, few, e, h)
    (needs_too, few_too, f, k) = ap stop.Elements (e ∙ sym f)

-- bytes have one verdict, with one text
pub one_verdict : (bytes : List ℕ) (task : Task) (v w : Verdict) (p q : List ℕ)
    → IsVerdict bytes task v p → IsVerdict bytes task w q → (v ≡ w) × (p ≡ q)
one_verdict bytes task (verdict.Said l) (verdict.Said m) p q h k =
    let one = one_source bytes h.source k.source h.spelled k.spelled in
    let P : SourceText → Type 0 = λ s. AreSaid (sections_of task.command) task.limits s.letters
    (language_of s) (record { text = p; limited = l }) in
    let same = one_said (sections_of task.command) task.limits k.source.letters
    (language_of k.source) (record { text = p; limited = l }) (record { text = q; limited = m })
    (subst P one h.report) k.report in
    (ap (λ (s : Said). verdict.Said s.limited) same, ap (λ (s : Said). s.text) same)
one_verdict bytes task (verdict.Said l) (verdict.Stopped t) p q h (k, empty) =
    let one = one_source bytes k.source h.source k.spelled h.spelled in
    absurd (h.unstopped t (subst (λ s. IsStop task s t) one k.passed))
one_verdict bytes task (verdict.Said l) (verdict.Refused at code) p q h (k, empty) =
    absurd (refusal_spells_none bytes h.source at code h.spelled k)
one_verdict bytes task (verdict.Stopped s) (verdict.Said m) p q (h, empty) k =
    let one = one_source bytes h.source k.source h.spelled k.spelled in
    absurd (k.unstopped s (subst (λ x. IsStop task x s) one h.passed))
one_verdict bytes task (verdict.Stopped s) (verdict.Stopped t) p q (h, empty) (k, empty_too) =
    let one = one_source bytes h.source k.source h.spelled k.spelled in (
      ap verdict.Stopped
          (one_stop task k.source s t (subst (λ x. IsStop task x s) one h.passed) k.passed),
      empty ∙ sym empty_too,
    )
one_verdict bytes task (verdict.Stopped s) (verdict.Refused at code) p q (h, empty) (k, empty_too) =
    absurd (refusal_spells_none bytes h.source at code h.spelled k)
one_verdict bytes task (verdict.Refused at code) (verdict.Said m) p q (h, empty) k =
    absurd (refusal_spells_none bytes k.source at code k.spelled h)
one_verdict bytes task (verdict.Refused at code) (verdict.Stopped t) p q (h, empty) (k, empty_too) =
    absurd (refusal_spells_none bytes k.source at code k.spelled h)
one_verdict bytes task (verdict.Refused at code) (verdict.Refused line other) p q (h, empty)
    (k, empty_too) =
    let same = one_refusal bytes at code line other h k in (
      ap (λ n. verdict.Refused n code) same.0 ∙ ap (verdict.Refused line) same.1,
      empty ∙ sym empty_too,
    )
