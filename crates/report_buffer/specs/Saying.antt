-- What a call that says a text does to the bytes that a sink was given and to those that a buffer
-- holds.
use Rattle.std.specs.Prelude.{◌≡◌, ◌≤◌, ℕ, Bool, true, false, List, ◌++◌, Option, Result, OnOk, OnErr}
use Rattle.std.specs.Result.{IsErrOf}
use Rattle.std.specs.Io.KnownBytes.{Appends}
use Rattle.syn_outside.specs.Counts.{Rose}
use Rattle.report_buffer.specs.Texts.{texts_below}
use Rattle.report_buffer.specs.declared.buffer.SayFault.{SayFault}
use Rattle.report_buffer.specs.declared.buffer.SayFault.TheVariants as fault

-- the bytes that a buffer holds and that are not yet written, and whether a call with it failed
pub record Pending : Type 0 where
  pub bytes : List ℕ
  pub broken : Bool

-- a sink and the buffer before it: what the sink was given, where that is told, its count of
-- faults, and the buffer
pub record Channel : Type 0 where
  pub given : Option (List ℕ)
  pub faults : ℕ
  pub buffer : Pending

abbrev pub channel : Option (List ℕ) → ℕ → Pending → Channel
channel given faults buffer = record { given = given; faults = faults; buffer = buffer }

-- What the sink was given, followed by what the buffer holds, grew by exactly the text, and the
-- buffer is not broken.
pub record IsSaid (old new : Channel) (text : List ℕ) : Type 0 where
  pub prefix : List ℕ
  pub written : Appends old.given new.given prefix
  pub rest : prefix ++ new.buffer.bytes ≡ old.buffer.bytes ++ text
  pub whole : new.buffer.broken ≡ false

-- The sink was given a prefix of what the buffer held and the text, and the buffer is broken.
pub record IsBrokenOff (old new : Channel) (text : List ℕ) : Type 0 where
  pub prefix : List ℕ
  pub rest : List ℕ
  pub written : Appends old.given new.given prefix
  pub cut : prefix ++ rest ≡ old.buffer.bytes ++ text
  pub broken : new.buffer.broken ≡ true

-- A call that says a text: it is said, or broken off; the sink's count of faults rose where that is
-- the fault, and never falls.
pub record Says {T : Type 0} (old : Channel) (result : Result T SayFault) (new : Channel)
    (text : List ℕ) : Type 0 where
  pub said : OnOk result (IsSaid old new text)
  pub cut : OnErr result (IsBrokenOff old new text)
  pub failed : IsErrOf result fault.Write → Rose old.faults new.faults
  pub count : old.faults ≤ new.faults

-- All of a text but what is left of it is said, without a fault.
pub record IsSaidUpTo (old new : Channel) (text left : List ℕ) : Type 0 where
  pub done : List ℕ
  pub splits : done ++ left ≡ text
  pub said : IsSaid old new done
  pub count : old.faults ≤ new.faults

-- A head, and behind it the first n lines of a section, are said without a fault.
pub record AreLinesSaid (old new : Channel) (head : List ℕ) (line : ℕ → List ℕ) (n : ℕ) : Type 0
  where
    pub said : IsSaid old new (head ++ texts_below line n)
    pub count : old.faults ≤ new.faults
