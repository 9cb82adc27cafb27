-- Before the first node nothing is open, seen or closed; and once nothing is open, each seen node
-- is closed.
use Rattle.std.proofs.Common.{◌≡◌, ℕ, ◌-◌, ◌<◌, inl, inr, List, length, slice_index, arith}
use Rattle.std.proofs.lemmas.Bool.{cases_lt}
use Rattle.components.specs.Search.{IsSearch}

pub seen_closed : {n d : ℕ} {to : ℕ → ℕ → ℕ} {cs ps ls os ss qs : List ℕ}
    → IsSearch n d to cs ps ls os ss qs → length ss ≡ 0 → (x : ℕ) → x < n → 0 < slice_index ps x
    → slice_index ls x < n
seen_closed {n = n} {ps = ps} {ls = ls} {os = os} h e x xn s =
    elim (cases_lt (slice_index ls x) n) [
      | inl lt ↦ lt
      | inr ge ↦ absurd (omega (
        arith,
        h.linked.none e,
        h.stack.seen x (slice_index ps x - 1) xn (omega arith) ge,
      ))
    ]
