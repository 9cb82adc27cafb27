use Rattle.std.proofs.Common.{◌≡◌, ◌<◌, ℕ, length, get_or}
use Rattle.clap.specs.Words.{found_of, rows_of}
use Rattle.command_line.specs.Tables.{option_at}
use Rattle.command_line.specs.Line.{IsNumberIn}
use Rattle.command_line.proofs.reading.read_numbers.Given as goal

-- there is a number for each option, and the options before this place have theirs
abbrev pub invariant-loop-place : goal.invariant-loop-place
invariant-loop-place l = (length l.numbers ≡ 7)
    × ((i : ℕ) → i < l.place
    → IsNumberIn (rows_of (found_of l.matches)) (option_at i) (get_or l.numbers i 0))
