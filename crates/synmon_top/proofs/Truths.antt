-- What the sections say is true, in the words of the headline.
use Rattle.std.proofs.Common.{◌≡◌, ◌≢◌, ℕ, List, [], ◌∷◌, Option, refl, sym, ◌∙◌, subst}
use Rattle.std.specs.Io.KnownBytes.{Appends}
use Rattle.syn_outside.specs.NamedFiles.{NamedFiles}
use Rattle.automaton_file.specs.FileText.{SourceText, IsSource, language_of}
use Rattle.automaton_file.proofs.SourceLaws.{one_source, refusal_spells_none}
use Rattle.command_line.specs.declared.commands.Command.{Command}
use Rattle.command_line.specs.declared.request.Request.{Request}
use Rattle.command_line.specs.Line.{IsLine}
use Rattle.command_line.proofs.Lines.{one_request}
use Rattle.report_outcome.specs.declared.ending.Ending.{Ending}
use Rattle.report_outcome.specs.declared.ending.Ending.TheVariants as ending
use Rattle.report_outcome.specs.declared.ending.Stop.{Stop}
use Rattle.report_sections.specs.Limits.{Limits, limits_of}
use Rattle.report_sections.specs.Sections.{Said, joined, sections_of, AreSections, AreSaid}
use Rattle.report_sections.proofs.SectionLaws.{section_true}
use Rattle.report_outcome.specs.declared.ending.Verdict.{Verdict}
use Rattle.report_outcome.specs.declared.ending.Verdict.TheVariants as verdict
use Rattle.report_outcome.specs.Inputs.{input_of, IsGiven, IsKnown}
use Rattle.report_outcome.specs.Reports.{IsReportOn, IsStop, IsVerdict, task_of}
use Rattle.report_outcome.specs.Outcome.{IsDue, Outcome, Ends, status_of}
use Rattle.synmon_top.specs.Headline.{TellTruth, Headline}
use Rattle.synmon_top.proofs.Deciding.{one_given}

sections_true : (sections : List Command) (limits : Limits) (signs : List ℕ)
    (L : List ℕ → Type 0) (all : List Said) → AreSections sections limits signs L all
    → TellTruth sections limits signs L all
sections_true [] limits signs L [] h = tt
sections_true [] limits signs L (x ∷ xs) h = h
sections_true (s ∷ ss) limits signs L [] h = absurd h
sections_true (s ∷ ss) limits signs L (x ∷ xs) h =
    (section_true s limits signs L x h.0, sections_true ss limits signs L xs h.1)

module _ (held : Option NamedFiles) (words : List (List ℕ)) (old new : Option (List ℕ))
    (request : Request) (bytes : List ℕ) (source : SourceText) (line : IsLine words request)
    (known : IsKnown held (input_of request) bytes) (spelled : IsSource bytes source)
    (unstopped : (stop : Stop) → ¬ IsStop (task_of request) source stop) where
  -- the verdict that is due is the one on these bytes
  verdict_here : (v : Verdict) (text : List ℕ) → IsDue held words v text
      → IsVerdict bytes (task_of request) v text
  verdict_here v text h =
      let ask : h.request ≡ request = one_request words h.request request h.line line in
      let same : bytes ≡ h.bytes = one_given held (input_of request) bytes h.bytes known.0 known.1
      (subst (λ (r : Request). IsGiven held (input_of r) h.bytes) ask h.given) in
      subst (λ b. IsVerdict b (task_of request) v text) (sym same)
      (subst (λ (r : Request). IsVerdict h.bytes (task_of r) v text) ask h.holds)

  abbrev Prints : Type 0
  Prints = (all : List Said)
      × TellTruth (sections_of request.command) (limits_of request) source.letters
      (language_of source) all
      × Appends old new (joined all).text

  said_true : (text : Said) → IsReportOn bytes (task_of request) text → Appends old new text.text
      → Prints
  said_true text on gained =
      let one = one_source bytes on.source source on.spelled spelled in
      let P : SourceText → Type 0 = λ s. AreSaid (sections_of request.command) (limits_of request)
      s.letters (language_of s) text in
      let are = subst P one on.report in (
        are.0,
        sections_true (sections_of request.command) (limits_of request) source.letters
            (language_of source) are.0 are.1,
        subst (λ (s : Said). Appends old new s.text) are.2 gained,
      )

  verdict_true : (v : Verdict) (out : List ℕ) → IsVerdict bytes (task_of request) v out
      → Appends old new out → Prints
  verdict_true (verdict.Said limited) out h gained =
      said_true (record { text = out; limited = limited }) h gained
  verdict_true (verdict.Stopped s) out (h, empty) gained =
      let one = one_source bytes h.source source h.spelled spelled in
      absurd (unstopped s (subst (λ (x : SourceText). IsStop (task_of request) x s) one h.passed))
  verdict_true (verdict.Refused at code) out (h, empty) gained =
      absurd (refusal_spells_none bytes source at code spelled h)

  ending_true : (e : Ending) (out : List ℕ) → Outcome held words e out → Appends old new out
      → status_of e ≢ 3 → status_of e ≢ 6 → status_of e ≢ 7 → Prints
  ending_true (ending.Decided v) out h gained a b c =
      verdict_true v out (verdict_here v out h) gained
  ending_true ending.BadLine out h gained a b c = absurd (h.0 (request, line))
  ending_true ending.CannotRead out h gained a b c = absurd (a refl)
  ending_true ending.CannotWrite out h gained a b c = absurd (b refl)
  ending_true ending.NoMemory out h gained a b c = absurd (c refl)

pub headline : (held : Option NamedFiles) (words : List (List ℕ)) (e : Ending) (status : ℕ)
    (old new : Option (List ℕ)) → status ≡ status_of e → Ends held words e old new
    → Headline held words status old new
headline held words e status old new is ends request bytes source line known spelled unstopped a b
    c =
    ending_true held words old new request bytes source line known spelled unstopped e ends.out
    ends.outcome ends.gained (λ x. a (is ∙ x)) (λ x. b (is ∙ x)) (λ x. c (is ∙ x))
