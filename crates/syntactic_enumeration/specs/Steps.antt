-- The maps of the states of a minimal automaton by its letters.
use Rattle.std.specs.Prelude.{◌≡◌, ◌<◌, ℕ}
use Rattle.language_theory.specs.ShortlexGraph.{Graph, target}
use Rattle.froidure_pin.specs.Maps.{Maps, image}

-- the first c letters take each point where they take that node
pub record AreStepsBelow (g : Graph) (c : ℕ) (m : Maps) : Type 0 where
  pub points : m.points ≡ g.size
  pub letters : m.letters ≡ g.letters
  pub each : (p a : ℕ) → p < g.size → a < c → image m p a ≡ target g p a

-- the maps of the nodes by all letters
abbrev pub AreSteps : Graph → Maps → Type 0
AreSteps g m = AreStepsBelow g g.letters m
