-- The calls of a device in memory: which of them fail, and how often one did.
use Rattle.std.specs.Prelude.{ℕ, ◌==◌, nat_lt, List, Bool, count_by}
use Rattle.std.specs.List.{list_any}
use Rattle.syn_outside.specs.Counts.{one_more}

-- the numbers, from 0, of the calls that fail, and how many calls were made; no failing number reaches 2^64 - 1, where `made` stays
pub record Calls : Type 0 where
  pub failing : List ℕ
  pub made : ℕ

-- the next call fails
abbrev pub fails : Calls → Bool
fails calls = list_any (λ n. n == calls.made) calls.failing

-- one more call was made
abbrev pub next : Calls → Calls
next calls = record calls { made = one_more calls.made }

-- how many of the failing numbers are those of calls that were made
abbrev pub failed : Calls → ℕ
failed calls = count_by (λ n. nat_lt n calls.made) calls.failing
