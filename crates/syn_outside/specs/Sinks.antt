-- What writing does to the bytes that a sink took.
use Rattle.std.specs.Prelude.{◌≡◌, ◌≢◌, ℕ, ◌≤◌, List, [], ◌++◌, length, take, Option}
use Rattle.std.specs.Io.KnownBytes.{Appends, Keeps}
use Rattle.syn_outside.specs.declared.sink.Put.{Put}
use Rattle.syn_outside.specs.declared.sink.Put.TheVariants as put

-- a write took at least one byte, from the front of the piece, or failed and took none
abbrev pub Takes : Option (List ℕ) → Option (List ℕ) → List ℕ → Put → Type 0
Takes old new piece (put.Wrote n) = (1 ≤ n) × (n ≤ length piece) × Appends old new (take n piece)
Takes old new piece put.Failed = Keeps old new

-- a sink took a prefix of the piece, and then nothing more
pub record IsCutOff (old new : Option (List ℕ)) (piece : List ℕ) : Type 0 where
  pub prefix : List ℕ
  pub rest : List ℕ
  pub whole : prefix ++ rest ≡ piece
  pub cut : rest ≢ []
  pub written : Appends old new prefix
