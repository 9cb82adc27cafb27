use Rattle.std.proofs.Common.{◌≡◌, ◌++◌, length}
use Rattle.std.specs.List.{concat}
use Rattle.automaton_file.specs.LineText.{fields}
use Rattle.automaton_file.proofs.parts.joined_fields.Given as goal

abbrev pub invariant-fields : goal.invariant-fields
invariant-fields l = l.joined.items ++ concat (fields l.rest) ≡ concat (fields l.text)

abbrev pub decreases-fields : goal.decreases-fields
decreases-fields l = length l.rest
