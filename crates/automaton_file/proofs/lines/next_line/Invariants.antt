use Rattle.std.proofs.Common.{◌≡◌, ◌≤◌, ◌+◌, ◌-◌, length, drop}
use Rattle.automaton_file.specs.LineText.{text_lines, line_start, IsSkip}
use Rattle.automaton_file.proofs.lines.next_line.Given as goal

abbrev pub invariant-lines : goal.invariant-lines
invariant-lines l = record {
  skip : IsSkip (text_lines (drop l.fn.place l.bytes)) l.fn.number
      (text_lines (drop l.from l.bytes)) l.at;
  onward : l.fn.place ≤ l.from;
  within : l.from ≤ length l.bytes;
  some : 1 ≤ l.at;
  counted : l.at ≤ l.from + 1;
  risen : l.fn.number ≤ l.at;
  begins : l.from ≡ line_start l.bytes l.fn.place (l.at - l.fn.number);
}

abbrev pub decreases-lines : goal.decreases-lines
decreases-lines l = length l.bytes - l.from
