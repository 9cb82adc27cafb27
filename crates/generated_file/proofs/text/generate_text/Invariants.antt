use Rattle.std.proofs.Common.{◌≡◌, ◌++◌}
use Rattle.std.specs.List.{flat_map, range_with_len}
use Rattle.generated_file.specs.Generated.{head_lines, step_lines, text_of}
use Rattle.generated_file.proofs.text.generate_text.Given as goal

-- the lines so far: those before the steps, and those of the steps from each state below
abbrev pub invariant-loop-state : goal.invariant-loop-state
invariant-loop-state l =
    l.text.items
    ≡ text_of (head_lines l.size ++ flat_map (step_lines l.size) (range_with_len 0 l.state))
