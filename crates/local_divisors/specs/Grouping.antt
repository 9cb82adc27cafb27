-- Groups of pairs, as lists that are linked through one table: place 0 is the end of a list, and
-- place k + 1 is that of link k, which tells where its list goes on.
use Rattle.std.specs.Prelude.{◌≡◌, ◌<◌, ◌≤◌, ℕ, zero, suc, List, [], ◌∷◌, length, slice_index_or}
use Rattle.std.specs.Prelude.{Option, Some, None}
use Rattle.local_divisors.specs.declared.grouping.Link.{Link}

abbrev pub no_link : Link
no_link = record { left = 0; right = 0; next = 0 }

abbrev pub link_at : List Link → ℕ → Link
link_at links k = slice_index_or links k no_link

-- at most n pairs of the list from a place on
abbrev pub first_pairs : List Link → ℕ → ℕ → List (ℕ × ℕ)
first_pairs links n zero = []
first_pairs links zero (suc k) = []
first_pairs links (suc n) (suc k) =
    ((link_at links k).left, (link_at links k).right) ∷ first_pairs links n (link_at links k).next

-- All pairs of the list from a place on. Each list goes on before its link, so there are no more
-- than the place says.
abbrev pub pairs_from : List Link → ℕ → List (ℕ × ℕ)
pairs_from links place = first_pairs links place place

-- each list goes on before its link
pub record AreLinked (links : List Link) : Type 0 where
  pub back : (k : ℕ) → k < length links → (link_at links k).next ≤ k

-- the first of some pairs is taken, if there is one
abbrev pub IsTaken : List (ℕ × ℕ) → Option (ℕ × ℕ) → List (ℕ × ℕ) → Type 0
IsTaken old None new = (old ≡ []) × (new ≡ [])
IsTaken old (Some p) new = old ≡ p ∷ new
