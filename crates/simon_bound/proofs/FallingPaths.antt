-- Paths in a graph without cycles.
use Rattle.std.proofs.Common.{◌≡◌, ℕ, zero, suc, ◌+◌, ◌<◌, List, length, slice_index}
use Rattle.std.proofs.Common.{subst, arith}
use Rattle.simon_bound.specs.Heights.{Leads, Falls, one, more, IsAcyclic}

pub falls_then : (starts nodes : List ℕ) (c z t : ℕ) → Falls starts nodes c z
    → Falls starts nodes z t → Falls starts nodes c t
falls_then starts nodes c z t (one l) f = more z l f
falls_then starts nodes c z t (more y l g) f = more y l (falls_then starts nodes y z t g f)

pub leads_within : (n : ℕ) (starts nodes : List ℕ) (c t : ℕ) → IsAcyclic n starts nodes → c < n
    → Leads starts nodes c t → t < n
leads_within n starts nodes c t a b l =
    subst (λ (z : ℕ). z < n) l.to (a.within c l.place b l.from l.before)

-- where each node of a list leads to the next one, each falls to those behind it
pub list_falls : (starts nodes path : List ℕ)
    → ((k : ℕ) → k + 1 < length path
    → Leads starts nodes (slice_index path k) (slice_index path (k + 1)))
    → (i d j : ℕ) → j ≡ i + suc d → j < length path
    → Falls starts nodes (slice_index path i) (slice_index path j)
list_falls starts nodes path linked i zero j e b =
    let next : i + 1 ≡ j = omega arith in
    subst (λ (z : ℕ). Falls starts nodes (slice_index path i) (slice_index path z)) next
    (one (linked i (omega arith)))
list_falls starts nodes path linked i (suc d) j e b =
    more (slice_index path (i + 1)) (linked i (omega arith))
    (list_falls starts nodes path linked (i + 1) d j (omega arith) b)
