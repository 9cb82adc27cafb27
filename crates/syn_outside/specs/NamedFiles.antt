-- Files by name, as a device tells them.
use Rattle.std.specs.Prelude.{◌≡◌, ℕ, List, ⊤, None, Some, take, Option, nat_eq}
use Rattle.std.specs.Cmp.Lexicographic.{pointwise}
use Rattle.std.specs.Map.{lookup}

-- the bytes of each name beside the bytes of its file
abbrev pub NamedFiles : Type 0
NamedFiles = List (List ℕ × List ℕ)

-- the bytes of the file of this name
abbrev pub bytes_of : List ℕ → NamedFiles → Option (List ℕ)
bytes_of name files = lookup (pointwise nat_eq name) files

-- the files are told, and none has this name
abbrev pub Lacks : Option NamedFiles → List ℕ → Type 0
Lacks None name = ⊥
Lacks (Some files) name = bytes_of name files ≡ None

-- where the files are told, one has this name, and these are its first bytes, at most `most` of them
abbrev pub HasPrefix : Option NamedFiles → List ℕ → ℕ → List ℕ → Type 0
HasPrefix None name most bytes = ⊤
HasPrefix (Some files) name most bytes = (file : List ℕ) × (bytes_of name files ≡ Some file)
    × (bytes ≡ take most file)
