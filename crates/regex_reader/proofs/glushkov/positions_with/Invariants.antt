use Rattle.regex_reader.specs.Growth.{HasPositions}
use Rattle.regex_reader.proofs.glushkov.positions_with.Given as goal

abbrev pub invariant-loop-place : goal.invariant-loop-place
invariant-loop-place l = HasPositions l.positions l.place l.letter l.found
