-- The least words of a shortlex graph's nodes, listed as they are found along its targets.
use Rattle.std.specs.Prelude.{◌≡◌, ◌<◌, ◌≤◌, ◌+◌, ◌*◌, ℕ, List, length}
use Rattle.language_theory.specs.Words.{word_at}
use Rattle.language_theory.specs.ShortlexGraph.{Graph, IsShortlex, target}

-- the least words of the first nodes, among them each target at one of the first n places
pub record IsListing (g : Graph) (n : ℕ) (found : List (List ℕ)) : Type 0 where
  pub words : List (List ℕ)
  pub shortlex : IsShortlex g words
  pub some : 0 < length found
  pub few : length found ≤ g.size
  pub front : (i : ℕ) → i < length found → word_at found i ≡ word_at words i
  pub handled : (p a : ℕ) → a < g.letters → p * g.letters + a < n → target g p a < length found
