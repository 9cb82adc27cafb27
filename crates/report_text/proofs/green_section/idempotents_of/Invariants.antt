use Rattle.std.proofs.Common.{◌≡◌, ◌≤◌}
use Rattle.report_text.specs.GreenSection.{marks_below}
use Rattle.report_text.proofs.green_section.idempotents_of.Given as goal

-- the idempotents before this element are counted
abbrev pub invariant-loop-element : goal.invariant-loop-element
invariant-loop-element l = record {
  counted : l.count ≡ marks_below l.green.idempotents l.element;
  few : l.count ≤ l.element;
}
