-- What the writes of a sink in memory answer and leave.
use Rattle.std.specs.Prelude.{ℕ, ◌+◌, ◌-◌, ◌^◌, ◌==◌, min, List, ◌++◌, length, take, Bool, ◌||◌, not, if◌then◌else◌}
use Rattle.syn_outside.specs.Counts.{one_more}
use Rattle.syn_outside.specs.Calls.{Calls, fails, next, failed}
use Rattle.syn_outside.specs.declared.sink.Put.{Put}
use Rattle.syn_outside.specs.declared.sink.Put.TheVariants as put

-- what was written, the room for it, how many bytes a write takes at most, the writes, and how many of them were refused for room alone
pub record SinkInMemory : Type 0 where
  pub written : List ℕ
  pub room : ℕ
  pub step : ℕ
  pub calls : Calls
  pub refused : ℕ

-- the writes that failed by their number, and those that were refused for room alone
abbrev pub faults_of : SinkInMemory → ℕ
faults_of sink = min (failed sink.calls + sink.refused) (2 ^ 64 - 1)

-- the room is full
abbrev pub is_full : SinkInMemory → Bool
is_full sink = length sink.written == sink.room

-- how many bytes of a piece of this length a write takes
abbrev pub write_len : SinkInMemory → ℕ → ℕ
write_len sink n = if fails sink.calls then 0 else min sink.step
    (min n (sink.room - length sink.written))

-- a write fails where its number says so and where the room is full
abbrev pub write_answer : SinkInMemory → ℕ → Put
write_answer sink n = if fails sink.calls || is_full sink then put.Failed else put.Wrote
    (write_len sink n)

-- a write takes the front of the piece, and is refused where the room is full and its number does not fail
abbrev pub after_write : SinkInMemory → List ℕ → SinkInMemory
after_write sink piece =
    record sink {
      written = sink.written ++ take (write_len sink (length piece)) piece;
      calls = next sink.calls;
      refused = if fails sink.calls || not (is_full sink) then sink.refused else one_more
          sink.refused;
    }
