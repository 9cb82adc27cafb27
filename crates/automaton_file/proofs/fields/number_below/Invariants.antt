use Rattle.std.proofs.Common.{◌≡◌, ◌<◌, drop}
use Rattle.automaton_file.specs.LineText.{value_behind}
use Rattle.automaton_file.proofs.fields.number_below.Given as goal

abbrev pub invariant-loop-digit : goal.invariant-loop-digit
invariant-loop-digit l = record {
  value : value_behind l.value (drop l.digit-index l.field) ≡ value_behind 0 l.field;
  below : l.value < l.limit;
}
