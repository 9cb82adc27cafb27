-- Paths of edges.
use Rattle.std.proofs.Common.{ℕ, ◌<◌, List, slice_index}
use Rattle.components.specs.Components.{Reach, here, step}
use Rattle.components.specs.Search.{IsWithin, IsShut}

pub then : {d : ℕ} {to : ℕ → ℕ → ℕ} {x y z : ℕ} → Reach d to x y → Reach d to y z → Reach d to x z
then here q = q
then (step a h p) q = step a h (then p q)

pub edge : {d : ℕ} {to : ℕ → ℕ → ℕ} (x a : ℕ) → a < d → Reach d to x (to x a)
edge x a h = step a h here

-- a path from a closed node ends at a closed node
pub walk_closed : {d : ℕ} {to : ℕ → ℕ → ℕ} {x y : ℕ} (n : ℕ) (labels : List ℕ) → IsWithin n d to
    → ((x a : ℕ) → x < n → a < d → slice_index labels x < n → slice_index labels (to x a) < n)
    → Reach d to x y → x < n → slice_index labels x < n → slice_index labels y < n
walk_closed n labels w s here h l = l
walk_closed {x = x} n labels w s (step a ha p) h l =
    walk_closed n labels w s p (w.within x a h ha) (s x a h ha l)

pub stays_closed : {n d : ℕ} {to : ℕ → ℕ → ℕ} {labels : List ℕ} {x y : ℕ} → IsWithin n d to
    → IsShut n d to labels → Reach d to x y → x < n → slice_index labels x < n
    → slice_index labels y < n
stays_closed {n = n} {labels = labels} w s p h l = walk_closed n labels w s.shut p h l

pub stays_within : {n d : ℕ} {to : ℕ → ℕ → ℕ} {x y : ℕ} → IsWithin n d to → Reach d to x y
    → x < n → y < n
stays_within w here h = h
stays_within {x = x} w (step a ha p) h = stays_within w p (w.within x a h ha)
