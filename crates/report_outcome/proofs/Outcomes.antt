-- From what the work on a file's bytes came to, to how a run ended.
use Rattle.std.proofs.Common.{◌≡◌, ℕ, ◌+◌, Bool, List, [], ◌++◌, map, Option, Some, None, Result, Ok, Err, inl, inr, refl, sym, ap, ◌∙◌, subst, take, append-nil}
use Rattle.std.specs.Prelude.{◌↔◌, OnErr}
use Rattle.std.specs.Io.KnownBytes.{Appends}
use Rattle.std.proofs.KnownBytes.{Appends-nil}
use Rattle.syn_outside.specs.NamedFiles.{NamedFiles, Lacks, HasPrefix}
use Rattle.generated_file.specs.Generated.{generated_text}
use Rattle.automaton_file.specs.FileText.{SourceText, IsSource, IsRefusal, language_of, most_bytes}
use Rattle.automaton_file.proofs.SourceLaws.{prefix_spells, prefix_refused}
use Rattle.command_line.specs.declared.commands.Command.{Command}
use Rattle.command_line.specs.declared.commands.Command.TheVariants as command
use Rattle.command_line.specs.declared.request.Request.{Request}
use Rattle.command_line.specs.declared.fault.LineFault.{LineFault}
use Rattle.command_line.specs.declared.fault.LineFault.TheVariants as line
use Rattle.command_line.specs.Line.{IsLine, IsAccepted, IsFaultOf}
use Rattle.command_line.proofs.Lines.{line_without_fault}
use Rattle.report_sections.specs.Limits.{limits_of}
use Rattle.report_sections.specs.Sections.{Said, sections_of, AreSections, AreSaid}
use Rattle.report_sections.specs.Answers.{said_of, said_of_all}
use Rattle.report_sections.proofs.Joining.{said_of_all_joins}
use Rattle.report_buffer.specs.Saying.{Channel, IsSaid, IsBrokenOff}
use Rattle.report_buffer.proofs.Channels.{broken-after}
use Rattle.report_sections.specs.declared.answering.Answer.{Answer}
use Rattle.report_outcome.specs.Inputs.{Input, generated, named, input_for, input_of, IsFile, IsGiven, IsMissing, AsksForFile}
use Rattle.report_outcome.specs.Reports.{Task, task_of, HasMoreSubsets, HasMoreElements, IsWithin, IsStop, IsReportOn, IsVerdict, BeginsReport}
use Rattle.report_outcome.specs.Outcome.{IsDue, BeginsDue, IsGivenPrefix, Outcome, OutcomeOn, EndsOn, Ends, ending_of_fault}
use Rattle.report_outcome.specs.declared.ending.Ending.{Ending}
use Rattle.report_outcome.specs.declared.ending.Ending.TheVariants as ending
use Rattle.report_outcome.specs.declared.ending.Stop.{Stop}
use Rattle.report_outcome.specs.declared.ending.Stop.TheVariants as stop
use Rattle.report_outcome.specs.declared.ending.Verdict.{Verdict}
use Rattle.report_outcome.specs.declared.ending.Verdict.TheVariants as verdict

unstopped : (request : Request) (source : SourceText) → IsWithin request source
    → (s : Stop) → ¬ IsStop (task_of request) source s
unstopped request source within (stop.Subsets n) (same, more) =
    within.subsets (subst (HasMoreSubsets source) same more)
unstopped request source within (stop.Elements n) (needs, few, same, more) =
    within.elements needs (subst (HasMoreElements source) same more)

-- what the sections say about a source that nothing stops
pub report_on : (bytes : List ℕ) (request : Request) (source : SourceText) (text : Said)
    → IsSource bytes source → IsWithin request source
    → AreSaid (sections_of request.command) (limits_of request) source.letters (language_of source)
    text → IsReportOn bytes (task_of request) text
report_on bytes request source text spelled within says = record {
  source = source;
  spelled = spelled;
  unstopped = unstopped request source within;
  report = says;
}

-- a prefix of a file that is one byte too long, or all of it, has the verdict of the file
verdict_of_prefix : (file : List ℕ) (task : Task) (v : Verdict) (text : List ℕ)
    → IsVerdict (take (most_bytes + 1) file) task v text → IsVerdict file task v text
verdict_of_prefix file task (verdict.Said limited) text on = record {
  source = on.source;
  spelled = subst (λ b. IsSource b on.source) (prefix_spells file on.source on.spelled) on.spelled;
  unstopped = on.unstopped;
  report = on.report;
}
verdict_of_prefix file task (verdict.Stopped s) text (on, empty) = (
  record {
    source = on.source;
    spelled = subst (λ b. IsSource b on.source) (prefix_spells file on.source on.spelled)
        on.spelled;
    passed = on.passed;
  },
  empty,
)
verdict_of_prefix file task (verdict.Refused at code) text (h, empty) =
    (prefix_refused file at code h, empty)

-- what was read of an input: its bytes have each verdict of those that were read
pub record HasRead (held : Option NamedFiles) (input : Input) (bytes : List ℕ) : Type 0 where
  pub whole : List ℕ
  pub given : IsGiven held input whole
  pub verdicts : (task : Task) (v : Verdict) (text : List ℕ) → IsVerdict bytes task v text
      → IsVerdict whole task v text

-- as much of a file as is read
has_read_name : (held : Option NamedFiles) (name bytes : List ℕ)
    → HasPrefix held name (most_bytes + 1) bytes → HasRead held (named name) bytes
has_read_name None name bytes prefix =
    record { whole = bytes; given = tt; verdicts = λ task v text holds. holds }
has_read_name (Some files) name bytes (file, is, prefix) = record {
  whole = file;
  given = is;
  verdicts = λ task v text holds.
      verdict_of_prefix file task v text (subst (λ b. IsVerdict b task v text) prefix holds);
}

-- a request for another command is about the file that its operand names
names_its_file : (c : Command) (size : ℕ) (operand : List ℕ) → ¬ (c ≡ command.Generate)
    → input_for c size operand ≡ named operand
names_its_file command.Generate size operand other = absurd (other refl)
names_its_file other size operand is = refl

pub has_read_file : (held : Option NamedFiles) (request : Request) (bytes : List ℕ)
    → ¬ (request.command ≡ command.Generate)
    → HasPrefix held request.operand (most_bytes + 1) bytes
    → HasRead held (input_of request) bytes
has_read_file held request bytes other prefix =
    subst (λ i. HasRead held i bytes)
    (sym (names_its_file request.command request.size request.operand other))
    (has_read_name held request.operand bytes prefix)

-- it asks for that file
pub asks_for_file : (words : List (List ℕ)) (request : Request) → IsLine words request
    → ¬ (request.command ≡ command.Generate) → AsksForFile words
asks_for_file words request line other = record {
  request = request;
  line = line;
  file = subst IsFile
      (sym (names_its_file request.command request.size request.operand other)) tt;
}

-- and has none where the files lack it
pub lacks_its_file : (held : Option NamedFiles) (request : Request)
    → ¬ (request.command ≡ command.Generate) → Lacks held request.operand
    → IsMissing held (input_of request)
lacks_its_file held request other lacks =
    subst (IsMissing held)
    (sym (names_its_file request.command request.size request.operand other)) lacks

-- the bytes of a generated file are read whole
pub has_read_generated : (held : Option NamedFiles) (request : Request)
    → request.command ≡ command.Generate
    → HasRead held (input_of request) (generated_text request.size)
has_read_generated held request is =
    subst (λ c. HasRead held (input_for c request.size request.operand)
    (generated_text request.size)) (sym is)
    (record {
      whole = generated_text request.size;
      given = refl;
      verdicts = λ task v text holds. holds;
    })

module _ (held : Option NamedFiles) (words : List (List ℕ)) (request : Request) (bytes : List ℕ)
    (line : IsLine words request) (read : HasRead held (input_of request) bytes) where
  -- the verdict on the bytes that were read is due
  due : (v : Verdict) (text : List ℕ) → IsVerdict bytes (task_of request) v text
      → IsDue held words v text
  due v text holds = record {
    request = request;
    line = line;
    bytes = read.whole;
    given = read.given;
    holds = read.verdicts (task_of request) v text holds;
  }

  begins : (out : List ℕ) → BeginsReport bytes (task_of request) out → BeginsDue held words out
  begins out (text, on, prefix) = (text, due (verdict.Said text.limited) text.text on, prefix)

  outcome_of_read : (e : Ending) (out : List ℕ) → OutcomeOn bytes (task_of request) e out
      → Outcome held words e out
  outcome_of_read (ending.Decided v) out h = due v out h
  outcome_of_read ending.BadLine out h = absurd h
  outcome_of_read ending.CannotRead out h = absurd h
  outcome_of_read ending.CannotWrite out h = begins out h
  outcome_of_read ending.NoMemory out (inl empty) = inl empty
  outcome_of_read ending.NoMemory out (inr h) = inr (begins out h)

  -- the bytes were read, and the work done on them
  pub ends_of_read : (e : Ending) (old new : Option (List ℕ)) → EndsOn bytes request e old new
      → Ends held words e old new
  ends_of_read e old new ends = record {
    out = ends.out;
    outcome = outcome_of_read e ends.out ends.ended;
    gained = ends.gained;
  }

pub ends_refused : (bytes : List ℕ) (request : Request) (at code : ℕ) (old : Option (List ℕ))
    → IsRefusal bytes at code
    → EndsOn bytes request (ending.Decided (verdict.Refused at code)) old old
ends_refused bytes request at code old h =
    record { out = []; ended = (h, refl); gained = Appends-nil old }

pub ends_stopped : (bytes : List ℕ) (request : Request) (source : SourceText) (s : Stop)
    (old : Option (List ℕ)) → IsSource bytes source → IsStop (task_of request) source s
    → EndsOn bytes request (ending.Decided (verdict.Stopped s)) old old
ends_stopped bytes request source s old spelled passed = record {
  out = [];
  ended = (record { source = source; spelled = spelled; passed = passed }, refl);
  gained = Appends-nil old;
}

pub ends_without_memory : (bytes : List ℕ) (request : Request) (old : Option (List ℕ))
    → EndsOn bytes request ending.NoMemory old old
ends_without_memory bytes request old =
    record { out = []; ended = inl refl; gained = Appends-nil old }

pub ends_said : (bytes : List ℕ) (request : Request) (text : Said) (limited : Bool)
    (old new : Option (List ℕ)) → IsReportOn bytes (task_of request) text
    → text.limited ≡ limited → Appends old new text.text
    → EndsOn bytes request (ending.Decided (verdict.Said limited)) old new
ends_said bytes request text limited old new on is gained = record {
  out = text.text;
  ended =
      subst (λ b. IsReportOn bytes (task_of request) (record { text = text.text; limited = b })) is
      on;
  gained = gained;
}

pub ends_cut : (bytes : List ℕ) (request : Request) (text : Said) (old new : Option (List ℕ))
    → IsReportOn bytes (task_of request) text → IsGivenPrefix old new text.text
    → EndsOn bytes request ending.CannotWrite old new
ends_cut bytes request text old new on cut =
    record { out = cut.prefix; ended = (text, on, cut.begins); gained = cut.gained }

pub ends_short : (bytes : List ℕ) (request : Request) (text : Said) (old new : Option (List ℕ))
    → IsReportOn bytes (task_of request) text → IsGivenPrefix old new text.text
    → EndsOn bytes request ending.NoMemory old new
ends_short bytes request text old new on cut =
    record { out = cut.prefix; ended = inr (text, on, cut.begins); gained = cut.gained }

-- an outcome goes along with what is due
pub outcome_along : (held : Option NamedFiles) (words others : List (List ℕ))
    → (IsAccepted words ↔ IsAccepted others) → (AsksForFile words → AsksForFile others)
    → ((v : Verdict) (text : List ℕ) → IsDue held words v text → IsDue held others v text)
    → (e : Ending) (out : List ℕ) → Outcome held words e out → Outcome held others e out
outcome_along held words others accepted file goes (ending.Decided v) out h = goes v out h
outcome_along held words others accepted file goes ending.BadLine out h =
    (λ line. h.0 (accepted.1 line), h.1)
outcome_along held words others accepted file goes ending.CannotRead out h = (file h.0, h.1)
outcome_along held words others accepted file goes ending.CannotWrite out (text, is, prefix) =
    (text, goes _ _ is, prefix)
outcome_along held words others accepted file goes ending.NoMemory out (inl empty) = inl empty
outcome_along held words others accepted file goes ending.NoMemory out (inr (text, is, prefix)) =
    inr (text, goes _ _ is, prefix)

-- the answers to the sections of a request, as the report on the bytes
pub report_of_answers : (bytes : List ℕ) (request : Request) (source : SourceText)
    (sections : List Command) (answers : List Answer) → IsSource bytes source
    → IsWithin request source → sections ≡ sections_of request.command
    → AreSections sections (limits_of request) source.letters (language_of source)
    (map (said_of source.letters (limits_of request)) answers)
    → IsReportOn bytes (task_of request) (said_of_all source.letters (limits_of request) answers)
report_of_answers bytes request source sections answers spelled within same are =
    let P : List Command → Type 0 = λ ss. AreSections ss (limits_of request) source.letters
    (language_of source) (map (said_of source.letters (limits_of request)) answers) in
    report_on bytes request source (said_of_all source.letters (limits_of request) answers) spelled
    within (
      map (said_of source.letters (limits_of request)) answers,
      subst P same are,
      said_of_all_joins source.letters (limits_of request) answers,
    )

-- said into an empty buffer, and then written to a prefix
pub prefix_given : {a b c : Channel} {text : List ℕ} → a.buffer.bytes ≡ [] → IsSaid a b text
    → IsBrokenOff b c [] → IsGivenPrefix a.given c.given text
prefix_given {a} {b} {c} {text} empty is off =
    let both = broken-after is off in
    record {
      prefix = both.prefix;
      gained = both.written;
      begins = (both.rest, both.cut ∙ ap (λ x. x ++ (text ++ [])) empty ∙ append-nil text);
    }

-- a fact that needs no result
pub on_err : {T E : Type 0} {P : Type 0} (r : Result T E) → P → OnErr r P
on_err (Ok x) p = tt
on_err (Err e) p = p

-- words that ask for nothing
pub ends_of_fault : (held : Option NamedFiles) (words : List (List ℕ)) (f : LineFault)
    (out : Option (List ℕ)) → IsFaultOf words f → Ends held words (ending_of_fault f) out out
ends_of_fault held words line.Words out h = record {
  out = [];
  outcome = (
    λ accepted.
        let e = line_without_fault words accepted.0 line.Words accepted.1 h in cc,
    refl,
  );
  gained = Appends-nil out;
}
ends_of_fault held words line.Command out h = record {
  out = [];
  outcome = (
    λ accepted.
        let e = line_without_fault words accepted.0 line.Command accepted.1 h in cc,
    refl,
  );
  gained = Appends-nil out;
}
ends_of_fault held words (line.Number place) out h = record {
  out = [];
  outcome = (
    λ accepted.
        let e = line_without_fault words accepted.0 (line.Number place) accepted.1 h in cc,
    refl,
  );
  gained = Appends-nil out;
}
ends_of_fault held words line.Size out h = record {
  out = [];
  outcome = (
    λ accepted.
        let e = line_without_fault words accepted.0 line.Size accepted.1 h in cc,
    refl,
  );
  gained = Appends-nil out;
}
ends_of_fault held words line.Memory out h =
    record { out = []; outcome = inl refl; gained = Appends-nil out }

pub fault_is_no_read : (f : LineFault) → ending_of_fault f ≡ ending.CannotRead → ⊥
fault_is_no_read line.Words e = cc
fault_is_no_read line.Command e = cc
fault_is_no_read (line.Number place) e = cc
fault_is_no_read line.Size e = cc
fault_is_no_read line.Memory e = cc

pub fault_is_no_write : (f : LineFault) → ending_of_fault f ≡ ending.CannotWrite → ⊥
fault_is_no_write line.Words e = cc
fault_is_no_write line.Command e = cc
fault_is_no_write (line.Number place) e = cc
fault_is_no_write line.Size e = cc
fault_is_no_write line.Memory e = cc
