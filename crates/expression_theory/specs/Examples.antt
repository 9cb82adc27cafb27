-- A worked automaton: the positions of (ab)* over the letters a = 0 and b = 1.
use Rattle.std.specs.Prelude.{true, false, [], ◌∷◌}
use Rattle.language_theory.specs.Automaton.{Automaton}

-- state 0, the position of a and that of b: a begins, b follows a, a follows b, and 0 and b are
-- final
abbrev pub ab_star_positions : Automaton
ab_star_positions = record {
  states = 3;
  letters = 2;
  initial = true ∷ false ∷ false ∷ [];
  finals = true ∷ false ∷ true ∷ [];
  steps = (0, 0, 1) ∷ (1, 1, 2) ∷ (2, 0, 1) ∷ [];
  moves = [];
}
