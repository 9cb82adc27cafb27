-- What the calls of files in memory answer and leave.
use Rattle.std.specs.Prelude.{ℕ, ◌==◌, min, List, [], length, drop, Option, None, unwrap_or, is_some, if◌then◌else◌}
use Rattle.std.specs.Option.{option_map}
use Rattle.syn_outside.specs.NamedFiles.{NamedFiles, bytes_of}
use Rattle.syn_outside.specs.Calls.{Calls, fails, next}
use Rattle.syn_outside.specs.declared.files.Opened.{Opened}
use Rattle.syn_outside.specs.declared.files.Opened.TheVariants as opened
use Rattle.syn_outside.specs.declared.files.Got.{Got}
use Rattle.syn_outside.specs.declared.files.Got.TheVariants as got

-- files by name, how many bytes a read gives at most, the calls, and what is left of the started file if one is
pub record FilesInMemory : Type 0 where
  pub files : NamedFiles
  pub step : ℕ
  pub calls : Calls
  pub started : Option (List ℕ)

-- what is left of the started file; nothing where none is started
abbrev pub bytes_left : FilesInMemory → List ℕ
bytes_left device = unwrap_or device.started []

-- a start fails where its number says so; else the file is ready where its name is held
abbrev pub start_answer : FilesInMemory → List ℕ → Opened
start_answer device name =
    if fails device.calls then opened.Failed
    else (if is_some (bytes_of name device.files) then opened.Ready else opened.Missing)

-- after a start that made the file ready its whole is left, and after another none is started
abbrev pub after_start : FilesInMemory → List ℕ → FilesInMemory
after_start device name =
    record device {
      calls = next device.calls;
      started = if fails device.calls then None else bytes_of name device.files;
    }

-- how many bytes a read into this much room gives, if it does not fail
abbrev pub read_len : FilesInMemory → ℕ → ℕ
read_len device room = min device.step (min room (length (bytes_left device)))

-- a read fails where its number says so; else it gives bytes while there are any left
abbrev pub read_answer : FilesInMemory → ℕ → Got
read_answer device room =
    if fails device.calls then got.Failed
    else (if length (bytes_left device) == 0 then got.End else got.Bytes (read_len device room))

-- a read that does not fail takes what it gives from the front of what was left
abbrev pub after_read : FilesInMemory → ℕ → FilesInMemory
after_read device room =
    record device {
      calls = next device.calls;
      started = if fails device.calls then device.started else option_map
          (λ left. drop (read_len device room) left) device.started;
    }
