-- What a sink takes in two writes.
use Rattle.std.proofs.Common.{◌≡◌, ℕ, List, ◌++◌, take, drop, Option, ap, ◌∙◌, append_assoc, take-append-drop}
use Rattle.std.specs.Io.KnownBytes.{Appends}
use Rattle.std.proofs.KnownBytes.{Appends-trans}

-- a sink that took a prefix and then the first n bytes of the rest took both together, and the rest after them is left
pub took_more : (a b c : Option (List ℕ)) (prefix rest piece back : List ℕ) (n : ℕ)
    → prefix ++ rest ≡ piece → Appends a b prefix → Appends b c (take n rest) → back ≡ drop n rest
    → (longer : List ℕ) × (longer ++ back ≡ piece) × Appends a c longer
took_more a b c prefix rest piece back n whole first second left = (
  prefix ++ take n rest,
  append_assoc prefix (take n rest) back
      ∙ ap (λ l. prefix ++ (take n rest ++ l)) left
      ∙ ap (λ l. prefix ++ l) (take-append-drop n rest)
      ∙ whole,
  Appends-trans a b c prefix (take n rest) first second,
)
