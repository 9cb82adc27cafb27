-- What starting a file and reading from it do to the bytes that are left.
use Rattle.std.specs.Prelude.{◌≡◌, ℕ, ◌≤◌, List, length, take, ⊤, None, Some, Bool, true, false, Option}
use Rattle.std.specs.Io.KnownBytes.{Consumes, IsAtEnd, Keeps}
use Rattle.std.specs.Option.{IsSome}
use Rattle.syn_outside.specs.NamedFiles.{NamedFiles, bytes_of, Lacks}
use Rattle.syn_outside.specs.declared.files.Opened.{Opened}
use Rattle.syn_outside.specs.declared.files.Opened.TheVariants as opened
use Rattle.syn_outside.specs.declared.files.Got.{Got}
use Rattle.syn_outside.specs.declared.files.Got.TheVariants as got

-- where the files are told, one has this name, and its bytes are left to be read
abbrev pub IsWholeFile : Option NamedFiles → List ℕ → Option (List ℕ) → Type 0
IsWholeFile None name left = ⊤
IsWholeFile (Some files) name left = IsSome left × (left ≡ bytes_of name files)

-- a start made a file ready, or found that there is none of this name, or failed
abbrev pub Opens : Option NamedFiles → List ℕ → Option (List ℕ) → Bool → Opened → Type 0
Opens held name left ready opened.Ready = (ready ≡ true) × IsWholeFile held name left
Opens held name left ready opened.Missing = (ready ≡ false) × Lacks held name
Opens held name left ready opened.Failed = ready ≡ false

-- a read put the next bytes at the front of `into`, or found none left; of one that failed nothing is
-- said
abbrev pub Gives : Option (List ℕ) → Option (List ℕ) → List ℕ → Got → Type 0
Gives old new into (got.Bytes n) = (1 ≤ n) × (n ≤ length into) × Consumes old new (take n into)
Gives old new into got.End = IsAtEnd old × Keeps old new
Gives old new into got.Failed = ⊤
