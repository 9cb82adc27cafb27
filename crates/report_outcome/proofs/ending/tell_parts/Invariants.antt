use Rattle.std.proofs.Common.{◌≤◌, take, map}
use Rattle.std.specs.List.{concat}
use Rattle.std.specs.Io.KnownBytes.{Appends}
use Rattle.report_outcome.proofs.ending.tell_parts.Given as goal

-- the parts before this one are written
abbrev pub invariant-loop-part : goal.invariant-loop-part
invariant-loop-part g l =
    let written = g.E.Sink.written in
    record {
      told : Appends (written l.fn.errs) (written l.errs)
          (concat (map (λ part. part.now) (take l.part-index l.parts)));
      count : g.E.Sink.faults l.fn.errs ≤ g.E.Sink.faults l.errs;
    }
